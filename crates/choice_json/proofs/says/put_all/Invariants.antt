-- What is said so far.
use Rattle.std.proofs.Common.{◌≡◌, [], ◌∷◌, ◌++◌, take}
use Rattle.json.specs.Token.{begin_array}
use Rattle.json_places.specs.Arrays.{tokens_by}
use Rattle.choice_json.specs.Says.{said_value}
use Rattle.choice_json.specs.Seen.{speaker_of}
use Rattle.choice_json.proofs.says.put_all.Given as goal

abbrev pub invariant-loop-one : goal.invariant-loop-one
invariant-loop-one l =
    l.text ≡ (l.fn.text ++ begin_array ∷ []) ++ tokens_by (said_value (speaker_of l.speech)) (take l.one-index l.said)
