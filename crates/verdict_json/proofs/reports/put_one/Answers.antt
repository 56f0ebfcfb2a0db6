use Rattle.std.proofs.Common.{refl, append_assoc}
use Rattle.json_places.specs.Arrays.{array_by}
use Rattle.verdict_json.proofs.reports.put_one.Goals as goal

pub returns : goal.returns
unfolding array_by
returns c =
    simp (
      append_assoc,
      c.in_ok-end_array.ensures,
      c.in_ok-put_run.ensures,
      c.in_ok-begin_array.ensures,
    ) refl
