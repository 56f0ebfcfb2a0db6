use Rattle.std.proofs.Common.{sym, ◌∙◌, ap}
use Rattle.layout_base.specs.Seen.{type_of}
use Rattle.run_world.specs.Seen.{env}
use Rattle.sc_world.specs.View.{type}
use Rattle.sc_world.specs.World.{kind_of_type}
use Rattle.gate_entry.proofs.Filling.{kind_integer, chosen_word}
use Rattle.gate_entry.proofs.cells.chosen_cell.Goals as goal

pub returns-in_ok-word-in-Of-clause-ok : goal.returns-in_ok-word-in-Of-clause-ok
returns-in_ok-word-in-Of-clause-ok c =
    let source = (env c.args.here.now).source in
    let kind =
    kind_integer source (type c.in-Of.t.now) c.integer_bits.result (sym c.is_pointer.ensures ∙ c.if-is_pointer.false)
    (sym c.is_integer.ensures ∙ c.if-is_integer.true) c.integer_bits.ensures.value
    ∙ ap (λ o. kind_of_type source (type_of o)) (sym c.in-Of.is) in
    chosen_word _ _ _ c.args.at c.args.own c.integer_bits.result c.in_ok-word-in-Of.word kind c.in_ok-word-in-Of.ensures
