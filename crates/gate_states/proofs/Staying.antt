-- What a call has to do with stays so while the net grows.
use Rattle.std.proofs.Common.{◌≡◌, ℕ, ◌≤◌, List, length, arith}
use Rattle.std.proofs.lemmas.List.Elements.{All-weaker}
use Rattle.bit_net.specs.declared.nodes.Gate.{Gate}
use Rattle.bit_net.specs.declared.nodes.Node.{Node}
use Rattle.bit_net.specs.Runs.{Grown}
use Rattle.gl_sets.specs.Guards.{guards_top}
use Rattle.gl_store.specs.declared.values.Val.{Val}
use Rattle.gl_store.specs.Meets.{val_top}
use Rattle.gate_rows.specs.Entries.{AreBelow}
use Rattle.gate_paths.specs.declared.cells.Written.{Written}
use Rattle.gate_paths.specs.declared.gathered.Found.{Found}
use Rattle.gate_paths.specs.Cells.{AreCellsBelow, where_cell}
use Rattle.gate_paths.specs.Gathered.{AreItemsBelow, where_item}
use Rattle.gate_rows.specs.Entries.{AreEntryBits}
use Rattle.gate_states.specs.declared.called.Called.{Called}
use Rattle.gate_states.specs.Called.{IsCalled}

pub args_stay : (old ns : List Node) (xs : List Val) → length old ≤ length ns → AreBelow old xs → AreBelow ns xs
args_stay old ns xs longer h = All-weaker (λ x. val_top x ≤ length old) (λ x. val_top x ≤ length ns) (λ x low. omega (arith, low, longer)) xs h

pub items_stay : (old ns : List Node) (fs : List Found) → length old ≤ length ns → AreItemsBelow old fs → AreItemsBelow ns fs
items_stay old ns fs longer h =
    All-weaker (λ f. guards_top (where_item f) ≤ length old) (λ f. guards_top (where_item f) ≤ length ns) (λ f low. omega (arith, low, longer)) fs h

pub cells_stay : (old ns : List Node) (xs : List Written) → length old ≤ length ns → AreCellsBelow old xs → AreCellsBelow ns xs
cells_stay old ns xs longer h =
    All-weaker (λ x. guards_top (where_cell x) ≤ length old) (λ x. guards_top (where_cell x) ≤ length ns) (λ x low. omega (arith, low, longer)) xs h

pub entry_stays : (old ns : List Node) (args : List Val) (bits : List Gate) → Grown old ns → AreEntryBits old args bits → AreEntryBits ns args bits
entry_stays old ns args bits grown h =
    record { below = omega (arith, h.below, grown.longer); value = λ choice v runs cs met. h.value choice v (grown.runs choice v runs) cs met }

pub is_called : (old new : List Node) (c : Called) → Grown old new → IsCalled old c → IsCalled new c
is_called old new c grown h =
    record {
      args = args_stay old new c.args.now grown.longer h.args;
      given = entry_stays old new c.args.now c.given.now grown h.given;
      locks = items_stay old new c.locks.now grown.longer h.locks;
      outs = items_stay old new c.outs.now grown.longer h.outs;
      writes = cells_stay old new c.writes.now grown.longer h.writes;
    }
