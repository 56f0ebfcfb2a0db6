use Rattle.std.proofs.Common.{◌≡◌, ℕ, ◌≤◌, max, Bool}
use Rattle.flow_ways.specs.Held.{held_with, AllSplit, ways_top, splits_top}
use Rattle.flow_ways.proofs.ways.Ways.come.Given as goal

-- what waits, with what still comes, is what waited, with what came
abbrev pub invariant-loop : goal.invariant-loop
invariant-loop l = record {
  splits : l.self.splits.items ≡ l.fn.self.splits.items;
  held : (v : ℕ → Bool) → AllSplit v l.fn.self.splits.items → (q : ℕ) → held_with v l.self.waits.items l.node l.todo.items q ≡ held_with v l.fn.self.waits.items l.node l.fn.ways.items q;
  waits : ways_top l.self.waits.items ≤ max (max (ways_top l.fn.self.waits.items) (ways_top l.fn.ways.items)) (splits_top l.fn.self.splits.items);
  todo : ways_top l.todo.items ≤ max (ways_top l.fn.ways.items) (splits_top l.fn.self.splits.items);
}
