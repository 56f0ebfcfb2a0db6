-- 64 choices at once: a gate has one word, and bit k of it is the value of the gate for choice k.
use Rattle.std.specs.Prelude.{◌≡◌, ℕ, ◌<◌, ◌≤◌, Bool, nat_eq, List, length, slice_index}
use Rattle.std.specs.Int.{bit_at}
use Rattle.bit_net.specs.declared.nodes.Node.{Node}
use Rattle.bit_net.specs.Value.{value}

-- bit k of a word
unfoldable pub bit : (word k : ℕ) → Bool
bit word k = nat_eq (bit_at word k) 1

-- the values that choice k has in a list of words
abbrev pub lane : List ℕ → (k : ℕ) → ℕ → Bool
lane words k g = bit (slice_index words g) k

-- the words are those of the first gates of the net, where the inputs have the words `inputs`
pub record AreLanes (ns : List Node) (inputs words : List ℕ) : Type 0 where
  pub within : length words ≤ length ns
  pub same : (k g : ℕ) → k < 64 → g < length words → lane words k g ≡ value (lane inputs k) ns g
