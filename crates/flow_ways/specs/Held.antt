-- Where a walk is, told by the ways that wait at nodes. v is any assignment of a value to each gate number; where it is a run of the
-- net, these are the values for one choice.
use Rattle.std.specs.Prelude.{◌≡◌, ℕ, ◌+◌, max, nat_eq, Bool, false, ◌&&◌, ◌||◌, List, [], ◌∷◌}
use Rattle.bit_net.specs.declared.nodes.Node.{Node}
use Rattle.bit_net.specs.Runs.{Runs}
use Rattle.flow_ways.specs.declared.ways.Way.{Way}
use Rattle.flow_ways.specs.declared.ways.Split.{Split}

-- the gate of at least one of the ways holds
abbrev pub any : (v : ℕ → Bool) → List Way → Bool
any v [] = false
any v (w ∷ ws) = v w.gate.at || any v ws

-- the gate of at least one of the ways that wait at this node holds
abbrev pub held : (v : ℕ → Bool) → List Way → (node : ℕ) → Bool
held v [] node = false
held v (w ∷ ws) node = (nat_eq w.node node && v w.gate.at) || held v ws node

-- the same, with more ways that are at one node
abbrev pub held_with : (v : ℕ → Bool) → (waits : List Way) → (at : ℕ) → (more : List Way) → (node : ℕ) → Bool
held_with v waits at more node = held v waits node || (nat_eq at node && any v more)

-- the two sides of each branch, put together, are the ways that came to it
abbrev pub AllSplit : (v : ℕ → Bool) → List Split → Type 0
AllSplit v [] = Unit {0}
AllSplit v (s ∷ ss) = ((v s.hit.at || v s.miss.at) ≡ any v s.before.items) × AllSplit v ss

-- the same for every choice
pub record AreSplits (ns : List Node) (splits : List Split) : Type 0 where
  pub all : (choice v : ℕ → Bool) → Runs ns choice v → AllSplit v splits

-- one more than the greatest gate of the ways
unfoldable pub ways_top : List Way → ℕ
ways_top [] = 0
ways_top (w ∷ ws) = max (w.gate.at + 1) (ways_top ws)

-- one more than the greatest gate of the branches
unfoldable pub splits_top : List Split → ℕ
splits_top [] = 0
splits_top (s ∷ ss) = max (max (s.hit.at + 1) (s.miss.at + 1)) (max (ways_top s.before.items) (splits_top ss))
