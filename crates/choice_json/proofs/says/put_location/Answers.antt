use Rattle.std.proofs.Common.{refl, append_assoc}
use Rattle.choice_json.specs.Says.{location_said}
use Rattle.choice_json.proofs.says.put_location.Goals as goal

pub returns : goal.returns
unfolding location_said
returns c =
    simp (
      append_assoc,
      c.in_ok-end_value.ensures,
      c.in_ok-put_location_member.ensures,
      c.in_ok-word_member.ensures,
      c.in_ok-begin_object.ensures,
    ) refl
