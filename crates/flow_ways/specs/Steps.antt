-- What the calls on ways do, for any values of the gates.
use Rattle.std.specs.Prelude.{◌≡◌, ℕ, ◌≤◌, nat_eq, Bool, false, not, ◌&&◌, ◌||◌, List}
use Rattle.flow_ways.specs.declared.ways.Way.{Way}
use Rattle.flow_ways.specs.declared.ways.Ways.{Ways}
use Rattle.flow_ways.specs.Held.{any, held, held_with, AllSplit, ways_top, splits_top}

-- the gates of the ways that wait and of the branches are below this number
pub record AreWithin (gates : ℕ) (ways : Ways) : Type 0 where
  pub waits : ways_top ways.waits.items ≤ gates
  pub splits : splits_top ways.splits.items ≤ gates

-- the ways that waited at the node are taken away; at each other node it is as before
pub record Leaves (node : ℕ) (old new : Ways) (ways : List Way) : Type 0 where
  pub splits : new.splits.items ≡ old.splits.items
  pub taken : (v : ℕ → Bool) → any v ways ≡ held v old.waits.items node
  pub gone : (v : ℕ → Bool) → held v new.waits.items node ≡ false
  pub others : (v : ℕ → Bool) (q : ℕ) → nat_eq node q ≡ false → held v new.waits.items q ≡ held v old.waits.items q

-- these ways wait at the node beside those that waited
pub record Comes (node : ℕ) (ways : List Way) (old new : Ways) : Type 0 where
  pub splits : new.splits.items ≡ old.splits.items
  pub held : (v : ℕ → Bool) → AllSplit v old.splits.items → (q : ℕ) → held v new.waits.items q ≡ held_with v old.waits.items node ways q

-- at one node wait the ways for which the test holds, at the other those for which it does not
pub record Branches (v : ℕ → Bool) (ways : List Way) (test hit miss : ℕ) (old new : List Way) : Type 0 where
  pub held : (q : ℕ) → held v new q ≡ (held v old q || (nat_eq hit q && (any v ways && v test)) || (nat_eq miss q && (any v ways && not (v test))))
