-- What contracts see of what temps keep.
use Rattle.std.specs.Prelude.{List, map}
use Rattle.sc_world.specs.View.{type}
use Rattle.flow_types.specs.Kinds as flow
use Rattle.expr_fits.specs.declared.kinds.Kind.{Kind}
use Rattle.expr_fits.specs.declared.kinds.Kind.TheVariants as kept

abbrev pub kind : Kind → flow.Kind
kind (kept.Value t) = flow.ValueOf (type t.now)
kind (kept.Place t) = flow.PlaceOf (type t.now)

abbrev pub kinds_of : List Kind → List flow.Kind
kinds_of ks = map kind ks
