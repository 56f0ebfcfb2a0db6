use Rattle.std.proofs.Common.{refl, append_assoc}
use Rattle.json_places.specs.Places.{place_value}
use Rattle.json_places.proofs.places.put_place.Goals as goal

pub returns : goal.returns
unfolding place_value
returns c =
    simp (
      append_assoc,
      c.in_ok-end_object.ensures,
      c.in_ok-put_source.ensures,
      c.in_ok-key.ensures,
      c.in_ok-count_member-2.ensures,
      c.in_ok-count_member.ensures,
      c.in_ok-word_member.ensures,
      c.in_ok-begin_object.ensures,
      c.file_text.ensures,
      c.from.ensures,
      c.from-2.ensures,
      c.source_at.ensures.name,
      c.source_at.ensures.line,
    ) refl
