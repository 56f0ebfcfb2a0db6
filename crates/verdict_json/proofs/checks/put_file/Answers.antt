use Rattle.std.proofs.Common.{refl, append_assoc}
use Rattle.verdict_json.specs.Checks.{file_value}
use Rattle.verdict_json.proofs.checks.put_file.Goals as goal

pub returns : goal.returns
unfolding file_value
returns c =
    simp (
      append_assoc,
      c.in_ok-end_object.ensures,
      c.in_ok-bytes_member.ensures,
      c.in_ok-word_member.ensures,
      c.in_ok-begin_object.ensures,
      c.file_text.ensures,
      c.main_source.ensures,
    ) refl
