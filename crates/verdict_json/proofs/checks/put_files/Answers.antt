use Rattle.std.proofs.Common.{[], ◌∷◌, ◌++◌, arith}
use Rattle.std.specs.Prelude.{length}
use Rattle.json.specs.Token.{begin_array}
use Rattle.verdict_json.specs.Checks.{file_value}
use Rattle.json_places.proofs.Arrays.{range_behind, range_step}
use Rattle.verdict_json.proofs.checks.put_files.Goals as goal

pub loop-file-preserved : goal.loop-file-preserved
loop-file-preserved c =
    range_step (file_value c.args.check.now.program.now c.args.check.now.marks.now) c.loop-file.file (c.args.text.now ++ begin_array ∷ []) c.loop-file.text _ c.loop-file.invariant c.in_ok-put_file_at.ensures

pub returns : goal.returns
returns c =
    range_behind (file_value c.args.check.now.program.now c.args.check.now.marks.now) (length c.args.check.now.program.now.files) c.loop-file.file c.args.text.now c.loop-file.text _
    (omega (arith, c.loop-file-test.false, c.len-file-end.ensures)) (omega (arith, c.loop-file.auto.file-end, c.len-file-end.ensures))
    c.loop-file.invariant c.in_ok-end_array.ensures
