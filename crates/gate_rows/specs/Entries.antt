-- The entry bits of a known call, as gates.
use Rattle.std.specs.Prelude.{◌≡◌, ℕ, ◌≤◌, Bool, List, length}
use Rattle.bit_net.specs.declared.nodes.Gate.{Gate}
use Rattle.bit_net.specs.declared.nodes.Node.{Node}
use Rattle.bit_net.specs.Runs.{Runs}
use Rattle.bit_words.specs.Number.{number, top}
use Rattle.gl_store.specs.declared.values.Val.{Val}
use Rattle.run_store.specs.Concrete.{Cell}
use Rattle.sc_world.specs.Known.{given_number}
use Rattle.gate_objects.specs.Escapes.{MeetsEach}
pub use Rattle.gate_objects.specs.Escapes.{AreBelow}

-- the bits spell the entry bits of all cells that the arguments are
pub record AreEntryBits (ns : List Node) (args : List Val) (bits : List Gate) : Type 0 where
  pub below : top bits ≤ length ns
  pub value : (choice v : ℕ → Bool) → Runs ns choice v → (cs : List Cell) → MeetsEach v args cs → number v bits ≡ given_number cs
