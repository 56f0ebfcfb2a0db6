use Rattle.std.proofs.Common.{refl, append_assoc}
use Rattle.json_places.specs.Paths.{rooted_value}
use Rattle.json_places.proofs.paths.put_rooted.Goals as goal

pub returns : goal.returns
unfolding rooted_value
returns c =
    simp (
      append_assoc,
      c.in_ok-end_object.ensures,
      c.in_ok-word_member-2.ensures,
      c.in_ok-count_member.ensures,
      c.in_ok-word_member.ensures,
      c.in_ok-begin_object.ensures,
      c.from.ensures,
    ) refl
