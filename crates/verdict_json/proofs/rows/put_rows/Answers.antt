use Rattle.verdict_json.specs.Rows.{row_value}
use Rattle.json_places.proofs.Arrays.{array_behind}
use Rattle.verdict_json.proofs.rows.put_rows.Goals as goal

pub returns : goal.returns
returns c =
    array_behind (row_value c.args.machine.now c.args.bits) c.args.rows.now c.loop-row.row-index c.args.text.now c.loop-row.text _
    c.loop-row-test.false c.loop-row.invariant c.in_ok-end_array.ensures
