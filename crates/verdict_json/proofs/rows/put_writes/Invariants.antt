-- The written cells so far.
use Rattle.std.proofs.Common.{◌≡◌, [], ◌∷◌, ◌++◌, take}
use Rattle.json.specs.Token.{begin_array}
use Rattle.json_places.specs.Arrays.{tokens_by}
use Rattle.verdict_json.specs.Rows.{write_value}
use Rattle.verdict_json.proofs.rows.put_writes.Given as goal

abbrev pub invariant-loop-write : goal.invariant-loop-write
invariant-loop-write l =
    l.text ≡ (l.fn.text ++ begin_array ∷ []) ++ tokens_by (write_value l.check.program.now l.params) (take l.write-index l.writes)
