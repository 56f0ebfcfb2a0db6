-- How the clauses here and above speak of a net: by any assignment v of a value to each gate number that the net has for a choice.
-- So no definition above this file mentions two nets, and what was said of an older net stays true while the net grows.
use Rattle.std.specs.Prelude.{◌≡◌, ℕ, ◌<◌, ◌≤◌, Bool, ◌&&◌, List, length, Some, slice_get}
use Rattle.bit_net.specs.declared.nodes.Node.{Node}
use Rattle.bit_net.specs.Value.{value, table}
use Rattle.bit_net.specs.Circuit.{input_count}

-- v has at each gate of the net the value that the gate has for this choice
pub record Runs (ns : List Node) (choice v : ℕ → Bool) : Type 0 where
  pub same : (g : ℕ) → g < length ns → v g ≡ value choice ns g

-- the net has become longer, and each earlier gate keeps its value for every choice
pub record Grown (old new : List Node) : Type 0 where
  pub longer : length old ≤ length new
  pub inputs : input_count new ≡ input_count old
  pub runs : (choice v : ℕ → Bool) → Runs new choice v → Runs old choice v

-- g is a gate of the net, and its value for every choice is this function of the choice and of the values of the gates
pub record Gives (ns : List Node) (g : ℕ) (of : (choice v : ℕ → Bool) → Bool) : Type 0 where
  pub below : g < length ns
  pub value : (choice v : ℕ → Bool) → Runs ns choice v → v g ≡ of choice v

-- the fact holds of the values that the gates of the net have, for every choice
pub record Always (ns : List Node) (P : (choice v : ℕ → Bool) → Type 0) : Type 0 where
  pub holds : (choice v : ℕ → Bool) → Runs ns choice v → P choice v

-- two gates of the net that both hold just where a and b both do
pub record AreAsBoth (ns : List Node) (a b one other : ℕ) : Type 0 where
  pub first : one < length ns
  pub second : other < length ns
  pub same : Always ns (λ choice v. (v one && v other) ≡ (v a && v b))

-- v fits the table of each node of the net
pub record Fits (ns : List Node) (choice v : ℕ → Bool) : Type 0 where
  pub table : (g : ℕ) (n : Node) → slice_get ns g ≡ Some n → v g ≡ table choice v n
