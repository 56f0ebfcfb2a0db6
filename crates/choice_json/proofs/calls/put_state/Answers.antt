use Rattle.std.proofs.Common.{refl, append_assoc}
use Rattle.choice_json.specs.Calls.{state_members}
use Rattle.choice_json.proofs.calls.put_state.Goals as goal

pub returns : goal.returns
unfolding state_members
returns c more =
    simp (
      append_assoc,
      c.in_ok-put_path.ensures,
      c.in_ok-key.ensures,
      c.in_ok-word_member.ensures,
    ) refl
