-- A graph while it grows. It is made from its end to its beginning: each piece is told the nodes at which it goes on, and
-- gives the node at which it begins.
use Rattle.std.specs.Prelude.{ℕ, zero, suc, ◌+◌, List, [], ◌∷◌, length}
use Rattle.flow_graph.specs.Nodes.{Node}

-- The nodes, the newest first: a node's number is how many stand behind it. And how many temps and slots are taken.
pub record Growing : Type 0 where
  pub nodes : List Node
  pub temps : ℕ
  pub slots : ℕ

abbrev pub empty : Growing
empty = record { nodes = []; temps = 0; slots = 0 }

-- Steps.
abbrev pub Build : Type 0 → Type 0
Build A = Growing → A × Growing

infixl 10 ◌>>=◌
abbrev pub ◌>>=◌ : {A B : Type 0} → Build A → (A → Build B) → Build B
◌>>=◌ m f g = f (m g).0 (m g).1

abbrev pub pure : {A : Type 0} → A → Build A
pure a g = (a, g)

-- one node more
abbrev pub put : Node → Build ℕ
put n g = (length g.nodes, record g { nodes = n ∷ g.nodes })

-- so many new temps, and so many new slots: the number of the first one
abbrev pub fresh : ℕ → Build ℕ
fresh n g = (g.temps, record g { temps = g.temps + n })

abbrev pub fresh_slots : ℕ → Build ℕ
fresh_slots n g = (g.slots, record g { slots = g.slots + n })

-- n numbers from k on
abbrev pub numbers : (k n : ℕ) → List ℕ
numbers k zero = []
numbers k (suc n) = k ∷ numbers (k + 1) n
