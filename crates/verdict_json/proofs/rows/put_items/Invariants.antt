-- The items so far.
use Rattle.std.proofs.Common.{◌≡◌, [], ◌∷◌, ◌++◌, take}
use Rattle.json.specs.Token.{begin_array}
use Rattle.json_places.specs.Arrays.{tokens_by}
use Rattle.verdict_json.specs.Rows.{item_value}
use Rattle.verdict_json.proofs.rows.put_items.Given as goal

abbrev pub invariant-loop-item : goal.invariant-loop-item
invariant-loop-item l =
    l.text ≡ (l.fn.text ++ begin_array ∷ []) ++ tokens_by (item_value l.check.program.now l.params l.bits) (take l.item-index l.items)
