use Rattle.std.proofs.Common.{◌≡◌, ℕ, ◌≤◌, max, Bool, take}
use Rattle.flow_ways.specs.Held.{held, held_with, ways_top}
use Rattle.flow_ways.proofs.ways.Ways.settle.Given as goal

-- the first ways wait at the node
abbrev pub invariant-loop-way : goal.invariant-loop-way
invariant-loop-way l = record {
  splits : l.self.splits.items ≡ l.fn.self.splits.items;
  held : (v : ℕ → Bool) (q : ℕ) → held v l.self.waits.items q ≡ held_with v l.fn.self.waits.items l.node (take l.way-index l.ways) q;
  within : ways_top l.self.waits.items ≤ max (ways_top l.fn.self.waits.items) (ways_top (take l.way-index l.ways));
}
