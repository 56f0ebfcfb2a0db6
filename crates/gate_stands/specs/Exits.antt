-- The row of the end, as a gate.
use Rattle.std.specs.Prelude.{◌≡◌, ℕ, ◌<◌, ◌≤◌, Bool, false, Option, List, length}
use Rattle.bit_net.specs.declared.nodes.Gate.{Gate}
use Rattle.bit_net.specs.declared.nodes.Node.{Node}
use Rattle.bit_net.specs.Runs.{Runs}
use Rattle.bit_words.specs.declared.Word.{Word}
use Rattle.bit_words.specs.Number.{number}
use Rattle.sum_rows.specs.declared.row.Row.{Row}
use Rattle.sum_rows.specs.declared.row.State.{State}
use Rattle.sum_rows.specs.declared.row.State.TheVariants as state
use Rattle.sc_world.specs.Known.{row, same_state, stands}
use Rattle.gate_rows.specs.declared.given.Given.{Given}
use Rattle.gate_rows.specs.declared.sought.Side.{Side}
use Rattle.gate_rows.specs.Given.{IsKindBelow, is_kind}
use Rattle.gate_rows.specs.Sought.{IsSideBelow, gives_of, is_side}

-- the side is that of what is given
pub record IsKindSide (kind : Option Word) (side : Side) : Type 0 where
  pub below : (ns : List Node) → IsKindBelow ns kind → IsSideBelow ns side
  pub value : (v : ℕ → Bool) (x : State) → is_side v side x ≡ is_kind v kind x

-- the row of the end is among these: that to the state of what is given, and none where this is no state
pub record ExitStands (ns : List Node) (bits : List Gate) (r : Given) (rows : List Row) (gate : ℕ) : Type 0 where
  pub below : gate < length ns
  pub named : (choice v : ℕ → Bool) → Runs ns choice v → (after : State) → ((x : State) → is_kind v r.kind x ≡ same_state after x)
      → v gate ≡ stands (row (number v bits) state.Nil (gives_of v r.outcome) after) rows
  pub nothing : (choice v : ℕ → Bool) → Runs ns choice v → ((x : State) → is_kind v r.kind x ≡ false) → v gate ≡ false
