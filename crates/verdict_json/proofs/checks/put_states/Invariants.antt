-- Those so far.
use Rattle.std.proofs.Common.{◌≡◌, [], ◌∷◌, ◌++◌, map}
use Rattle.std.specs.List.{flat_map, range_with_len}
use Rattle.json.specs.Token.{begin_array}
use Rattle.json.specs.Tree.{json_tokens}
use Rattle.verdict_json.specs.Checks.{state_name}
use Rattle.verdict_json.proofs.checks.put_states.Given as goal

abbrev pub invariant-loop-n : goal.invariant-loop-n
invariant-loop-n l =
    l.text ≡ (l.fn.text ++ begin_array ∷ []) ++ flat_map json_tokens (map (state_name l.machine) (range_with_len 0 l.n))
