use Rattle.std.proofs.Common.{refl, append_assoc}
use Rattle.verdict_json.specs.Functions.{summary_tokens}
use Rattle.verdict_json.proofs.functions.put_summary.Goals as goal

pub returns : goal.returns
unfolding summary_tokens
returns c =
    simp (
      append_assoc,
      c.in_ok-put_writes.ensures,
      c.in_ok-key-2.ensures,
      c.in_ok-put_items.ensures,
      c.in_ok-key.ensures,
      c.in_ok-put_entry.ensures,
      c.as_slice.ensures,
      c.as_slice-2.ensures,
    ) refl
