use Rattle.std.proofs.Common.{◌∙◌, sym, subst}
use Rattle.run_world.specs.Seen as seen
use Rattle.sc_world.specs.View.{type}
use Rattle.gate_inits.specs.Inits.{DoesSet}
use Rattle.gate_inits.proofs.ValuesSet.{set_object}
use Rattle.gate_inits.proofs.values.set_local.Goals as goal

pub returns-in-Set-clause-ok : goal.returns-in-Set-clause-ok
returns-in-Set-clause-ok c =
    subst (λ x. DoesSet (seen.env c.args.here.now).source (seen.env c.args.here.now).layout c.copy.new.net c.args.ends.now (type c.args.local.now.ctype.now) c.args.local.now.at x c.args.stored.now.locations.items c.copy.new.stored.locations.items)
    (sym c.in-Set.is)
    (set_object _ _ _ _ c.args.ends.now _ c.args.local.now.at c.one-to.result c.in-Set.from _ _ _ (sym c.is_scalar.ensures ∙ c.if-is_scalar.false) c.in_ok-copy-in-Set.ensures.grown
    c.one-to.ensures.points c.in_ok-copy-in-Set.ensures.ok)
