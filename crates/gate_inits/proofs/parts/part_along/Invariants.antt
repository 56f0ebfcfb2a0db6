use Rattle.std.proofs.Common.{◌≡◌, drop}
use Rattle.sc_world.specs.Exec.{part_along}
use Rattle.run_world.specs.Seen.{env}
use Rattle.gate_inits.proofs.parts.part_along.Given as goal

-- from the part that is reached so far the steps that are left lead where all of them lead
abbrev pub invariant-loop-step : goal.invariant-loop-step
invariant-loop-step l =
    part_along (env l.here) (drop l.step-index l.steps) l.at ≡ part_along (env l.fn.here) l.fn.steps l.fn.from
