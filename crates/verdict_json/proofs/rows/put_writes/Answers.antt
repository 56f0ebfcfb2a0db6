use Rattle.verdict_json.specs.Rows.{write_value}
use Rattle.json_places.proofs.Arrays.{array_behind}
use Rattle.verdict_json.proofs.rows.put_writes.Goals as goal

pub returns : goal.returns
returns c =
    array_behind (write_value c.args.check.now.program.now c.args.params.now) c.args.writes.now c.loop-write.write-index c.args.text.now c.loop-write.text _
    c.loop-write-test.false c.loop-write.invariant c.in_ok-end_array.ensures
