use Rattle.std.proofs.Common.{ℕ, ◌+◌, ◌<◌, sym, subst}
use Rattle.sc_world.specs.declared.run.Origin.TheVariants as origin
use Rattle.tr_flow.specs.Seen.{layout_of}
use Rattle.tr_flow.proofs.Locals.{local_small}
use Rattle.tr_flow.proofs.steps.SteppingSteps.local.Goals as goal

pub returns-clause-small : goal.returns-clause-small
returns-clause-small c =
    subst (λ (n : ℕ). n + 1 < 4294967296) (sym c.location_of.ensures)
    (local_small (layout_of c.args.self.now) (origin.Local c.args.number) c.args.self.now.few)
