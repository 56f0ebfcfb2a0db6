use Rattle.std.proofs.Common.{refl, append_assoc}
use Rattle.run_json.specs.Runs.{function_value}
use Rattle.run_json.proofs.runs.put_function.Goals as goal

pub returns : goal.returns
unfolding function_value
returns c =
    simp (
      append_assoc,
      c.in_ok-end_object.ensures,
      c.in_ok-boolean_member.ensures,
      c.in_ok-put_place.ensures,
      c.in_ok-key.ensures,
      c.in_ok-word_member.ensures,
      c.in_ok-begin_object.ensures,
      c.name_text.ensures,
      c.is_in_header.ensures,
    ) refl
