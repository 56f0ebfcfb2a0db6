use Rattle.std.proofs.Common.{◌≡◌, drop}
use Rattle.sc_world.specs.Exec.{part_along}
use Rattle.function_fits.specs.Laid.{env_in}
use Rattle.function_fits.proofs.parts.part_along.Given as goal

-- the steps from there on lead from here to where all of them lead
abbrev pub invariant-loop-step : goal.invariant-loop-step
invariant-loop-step l =
    part_along (env_in l.laid) (drop l.step-index l.steps) l.at ≡ part_along (env_in l.fn.laid) l.fn.steps l.fn.from
