use Rattle.std.proofs.Common.{◌≡◌, ◌+◌, ◌-◌, ◌≤◌, length, vec_capacity}
use Rattle.sat_pool.specs.Layout.{blocks}
use Rattle.sat_pool.proofs.Compaction.{Copied}
use Rattle.sat_pool.proofs.layout.copy_live.Given as goal

abbrev pub invariant-loop-at : goal.invariant-loop-at
invariant-loop-at l = record {
  progress : Copied (blocks l.list) l.at l.copy.items l.places.items;
  table : length l.places.items ≡ length l.list;
  room : length l.copy.items + (length l.list - l.at) ≤ vec_capacity l.copy;
}

abbrev pub decreases-loop-at : goal.decreases-loop-at
decreases-loop-at l = length l.list - l.at
