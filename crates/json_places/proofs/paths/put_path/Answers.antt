use Rattle.std.proofs.Common.{refl, append_assoc}
use Rattle.json_places.specs.Paths.{path_value}
use Rattle.json_places.proofs.paths.put_path.Goals as goal

pub returns : goal.returns
unfolding path_value
returns c =
    simp (
      append_assoc,
      c.in_ok-end_object.ensures,
      c.in_ok-put_steps.ensures,
      c.in_ok-key-2.ensures,
      c.in_ok-put_root.ensures,
      c.in_ok-key.ensures,
      c.in_ok-put_text_member.ensures,
      c.in_ok-begin_object.ensures,
      c.as_slice.ensures,
    ) refl
