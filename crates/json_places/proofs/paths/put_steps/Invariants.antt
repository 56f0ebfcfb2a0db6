-- The steps so far.
use Rattle.std.proofs.Common.{◌≡◌, [], ◌∷◌, ◌++◌, take}
use Rattle.json.specs.Token.{begin_array}
use Rattle.json_places.specs.Arrays.{tokens_by}
use Rattle.json_places.specs.Paths.{step_value}
use Rattle.json_places.proofs.paths.put_steps.Given as goal

abbrev pub invariant-loop-step : goal.invariant-loop-step
invariant-loop-step l =
    l.text ≡ (l.fn.text ++ begin_array ∷ []) ++ tokens_by (step_value l.program) (take l.step-index l.steps)
