use Rattle.std.proofs.Common.{ℕ, Bool, ◌∙◌, sym, subst}
use Rattle.gl_store.specs.Meets.{Meets}
use Rattle.run_store.specs.Concrete.{Pointer}
use Rattle.run_world.specs.Seen as seen
use Rattle.sc_world.specs.View.{type}
use Rattle.gate_inits.specs.Inits.{DoesGive}
use Rattle.gate_inits.proofs.ValuesSet.{word_none, unit_none}
use Rattle.gate_inits.proofs.CellsGiven.{give_scalar, give_object, give_nothing}
use Rattle.gate_inits.proofs.values.cells_given.Goals as goal

pub returns-then-is_scalar-clause-ok : goal.returns-then-is_scalar-clause-ok
returns-then-is_scalar-clause-ok c = give_scalar _ _ _ _ c.args.val _ _ (sym c.is_scalar.ensures ∙ c.if-is_scalar.true) c.in_ok-cells.ensures

pub returns-in-Set-clause-ok : goal.returns-in-Set-clause-ok
returns-in-Set-clause-ok c =
    subst (λ x. DoesGive (seen.env c.args.here.now).source (seen.env c.args.here.now).layout c.cells_behind.new.net (type c.args.t.now) x c.args.stored.now.locations.items c.in_ok-cells-in-Set.cells.items)
    (sym c.in-Set.is) (give_object _ _ _ _ c.in-Set.from _ _ (sym c.is_scalar.ensures ∙ c.if-is_scalar.false) c.in_ok-cells-in-Set.ensures.ok)

pub returns-in-Word-clause-ok : goal.returns-in-Word-clause-ok
returns-in-Word-clause-ok c =
    subst (λ x. DoesGive (seen.env c.args.here.now).source (seen.env c.args.here.now).layout c.args.net.now (type c.args.t.now) x c.args.stored.now.locations.items c.new.result.items)
    (sym c.in-Word.is) (give_nothing _ _ _ _ _ _ _ (sym c.is_scalar.ensures ∙ c.if-is_scalar.false) (λ v target. word_none c.in-Word.field-0 v target) c.new.ensures.items)

pub returns-clause-ok : goal.returns-clause-ok
returns-clause-ok c =
    subst (λ x. DoesGive (seen.env c.args.here.now).source (seen.env c.args.here.now).layout c.args.net.now (type c.args.t.now) x c.args.stored.now.locations.items c.new-in-Unit.result.items)
    (sym c.in-Unit.is) (give_nothing _ _ _ _ _ _ _ (sym c.is_scalar.ensures ∙ c.if-is_scalar.false) (λ v target. unit_none v target) c.new-in-Unit.ensures.items)
