-- What contracts see of what is wanted of an expression.
use Rattle.sc_world.specs.Eval as eval
use Rattle.run_values.specs.declared.want.Want.{Want}
use Rattle.run_values.specs.declared.want.Want.TheVariants as want

abbrev pub want_of : Want → eval.Want
want_of want.Value = eval.Value
want_of want.Place = eval.Place'
