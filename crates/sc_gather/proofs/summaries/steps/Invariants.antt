use Rattle.std.proofs.Common.{◌≡◌, drop}
use Rattle.sc_world.specs.Gather.{gather_steps}
use Rattle.sc_gather.specs.Seen.{source_of, found}
use Rattle.sc_gather.proofs.summaries.steps.Given as goal

abbrev pub invariant-loop-step : goal.invariant-loop-step
invariant-loop-step l =
    gather_steps (source_of l.here) (drop l.step-index l.steps) (found l.found)
    ≡ gather_steps (source_of l.fn.here) l.fn.steps (found l.fn.found)
