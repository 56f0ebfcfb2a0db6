-- The rows so far.
use Rattle.std.proofs.Common.{◌≡◌, [], ◌∷◌, ◌++◌, take}
use Rattle.json.specs.Token.{begin_array}
use Rattle.json_places.specs.Arrays.{tokens_by}
use Rattle.verdict_json.specs.Rows.{row_value}
use Rattle.verdict_json.proofs.rows.put_rows.Given as goal

abbrev pub invariant-loop-row : goal.invariant-loop-row
invariant-loop-row l =
    l.text ≡ (l.fn.text ++ begin_array ∷ []) ++ tokens_by (row_value l.machine l.bits) (take l.row-index l.rows)
