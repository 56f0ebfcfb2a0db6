-- The temps that a node reads.
use Rattle.std.specs.Prelude.{◌≡◌, ℕ, Bool, true, ◌&&◌, Option, Some, None, List, [], ◌∷◌, ◌++◌, map}
use Rattle.gate_runs.specs.Stands.{told}
use Rattle.flow_graph.specs.Conditions.{InTemp, among}
use Rattle.flow_turns.specs.declared.temps.Temps.{Temps}
use Rattle.flow_turns.specs.Kept.{is_kept}
use Rattle.flow_keeps.specs.declared.reads.Reads.{Reads}

abbrev pub one_of : Option ℕ → List ℕ
one_of None = []
one_of (Some m) = m ∷ []

abbrev pub named : Reads → List ℕ
named r = one_of r.first ++ one_of r.second

-- a number is one of these
abbrev pub IsNamed : ℕ → List ℕ → Type 0
IsNamed m ms = among (InTemp m) (map InTemp ms) ≡ true

-- some node has kept each of them
abbrev pub AllKept : Temps → List ℕ → Type 0
AllKept t ms = (m : ℕ) → IsNamed m ms → is_kept t m ≡ true

-- each of them may be used
abbrev pub each_sure : (v : ℕ → Bool) → Temps → List ℕ → Bool
each_sure v t [] = true
each_sure v t (m ∷ ms) = told v t.sure.items m && each_sure v t ms
