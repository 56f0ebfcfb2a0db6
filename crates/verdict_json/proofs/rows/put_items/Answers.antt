use Rattle.verdict_json.specs.Rows.{item_value}
use Rattle.json_places.proofs.Arrays.{array_behind}
use Rattle.verdict_json.proofs.rows.put_items.Goals as goal

pub returns : goal.returns
returns c =
    array_behind (item_value c.args.check.now.program.now c.args.params.now c.args.bits) c.args.items.now c.loop-item.item-index c.args.text.now c.loop-item.text _
    c.loop-item-test.false c.loop-item.invariant c.in_ok-end_array.ensures
