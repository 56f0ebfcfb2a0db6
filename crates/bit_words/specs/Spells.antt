-- How a clause says which number a word spells, for every choice.
use Rattle.std.specs.Prelude.{◌≡◌, ℕ, ◌≤◌, Bool, List, length}
use Rattle.bit_net.specs.declared.nodes.Gate.{Gate}
use Rattle.bit_net.specs.declared.nodes.Node.{Node}
use Rattle.bit_net.specs.Runs.{Runs}
use Rattle.bit_words.specs.Number.{number, top}

-- the word has this width, its gates are gates of the net, and for every choice it spells this number
pub record Spells (ns : List Node) (word : List Gate) (width : ℕ) (of : (v : ℕ → Bool) → ℕ) : Type 0 where
  pub wide : length word ≡ width
  pub below : top word ≤ length ns
  pub value : (choice v : ℕ → Bool) → Runs ns choice v → number v word ≡ of v
