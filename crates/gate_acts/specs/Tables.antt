-- The table of an operation as gates: where it leads from the state that a word spells.
use Rattle.std.specs.Prelude.{◌≡◌, ℕ, ◌<◌, ◌≤◌, nat_eq, nat_lt, Bool, Option, Some, None, List, length, if◌then◌else◌}
use Rattle.bit_net.specs.declared.nodes.Gate.{Gate}
use Rattle.bit_net.specs.declared.nodes.Node.{Node}
use Rattle.bit_net.specs.Runs.{Runs}
use Rattle.bit_words.specs.Number.{number, top}
use Rattle.fsm_spec.specs.declared.table.MachineSpec.{MachineSpec}
use Rattle.fsm_spec.specs.Table.{target_of, on_any}
use Rattle.sc_world.specs.Layout.{is_there}
use Rattle.sc_world.specs.World.{any, state_width}
use Rattle.gate_acts.specs.declared.tables.Table.{Table}

-- the state to which an operation leads, also from any state; none where it is an error there
abbrev pub led_to : MachineSpec → (operation state : ℕ) → Option ℕ
led_to m n s = if nat_eq s any then on_any m n else target_of m n s

-- the same for the first k states, and nothing for other numbers
abbrev pub led_below : MachineSpec → (operation k : ℕ) → (state : ℕ) → Option ℕ
led_below m n k s = if nat_lt s k then target_of m n s else None

-- entries of numbers with one entry more
abbrev pub with_entry : (ℕ → Option ℕ) → (key : ℕ) → Option ℕ → (ℕ → Option ℕ)
with_entry f key entry k = if nat_eq k key then entry else f k

-- The gate holds where there is an entry for the number that the bits spell, and the word spells that entry.
pub record IsTable (ns : List Node) (bits : List Gate) (f : ℕ → Option ℕ) (table : Table) : Type 0 where
  pub known_below : table.known.at < length ns
  pub below : top table.state.bits.items ≤ length ns
  pub wide : length table.state.bits.items ≡ state_width
  pub known : (choice v : ℕ → Bool) → Runs ns choice v → v table.known.at ≡ is_there (f (number v bits))
  pub entry : (choice v : ℕ → Bool) → Runs ns choice v → (t : ℕ) → f (number v bits) ≡ Some t → number v table.state.bits.items ≡ t

-- a table with one entry more
pub record AddsEntry (old_net ns : List Node) (bits : List Gate) (key : ℕ) (entry : Option ℕ) (old new : Table) : Type 0 where
  pub adds : (f : ℕ → Option ℕ) → f key ≡ None → IsTable old_net bits f old → IsTable ns bits (with_entry f key entry) new
