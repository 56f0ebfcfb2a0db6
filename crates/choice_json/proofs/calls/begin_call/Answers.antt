use Rattle.std.proofs.Common.{refl, append_assoc}
use Rattle.choice_json.specs.Calls.{call_members}
use Rattle.choice_json.proofs.calls.begin_call.Goals as goal

pub returns : goal.returns
unfolding call_members
returns c more =
    simp (
      append_assoc,
      c.in_ok-count_member.ensures,
      c.in_ok-put_place.ensures,
      c.in_ok-key.ensures,
      c.in_ok-word_member.ensures,
      c.in_ok-begin_object.ensures,
      c.from.ensures,
      c.call_pos.ensures,
      c.turn_of.ensures,
    ) refl
