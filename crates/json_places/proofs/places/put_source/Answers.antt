use Rattle.std.proofs.Common.{refl, append_assoc}
use Rattle.json_places.specs.Places.{source_value}
use Rattle.json_places.proofs.places.put_source.Goals as goal

pub returns : goal.returns
unfolding source_value
returns c =
    simp (
      append_assoc,
      c.in_ok-end_object.ensures,
      c.in_ok-count_member.ensures,
      c.in_ok-bytes_member.ensures,
      c.in_ok-begin_object.ensures,
    ) refl
