-- What the gates of single steps do, for the values v of the gates.
use Rattle.std.specs.Prelude.{◌≡◌, ℕ, ◌<◌, nat_eq, Bool, true, false, if◌then◌else◌, Option, List, length}
use Rattle.bit_net.specs.declared.nodes.Node.{Node as Gates}
use Rattle.bit_net.specs.Runs.{Runs}
use Rattle.gl_store.specs.declared.values.Val.{Val}
use Rattle.gl_store.specs.Meets.{Meets}
use Rattle.gl_store.specs.Steps.{IsOverwritten}
use Rattle.gate_runs.specs.Stands.{told}
use Rattle.run_store.specs.Concrete.{Cell}
use Rattle.flow_stages.specs.NodeKinds.{passes}
use Rattle.flow_ways.specs.declared.ways.Way.{Way}
use Rattle.flow_ways.specs.declared.ways.Ways.{Ways}
use Rattle.flow_ways.specs.Held.{any, held, AllSplit}
use Rattle.flow_turns.specs.declared.temps.Temps.{Temps}
use Rattle.flow_turns.specs.Kept.{val_at, is_kept}

-- the gate holds where the value is that number, or not 0
pub record IsTest (ns : List Gates) (number : Option ℕ) (x : Val) (gate : ℕ) : Type 0 where
  pub below : gate < length ns
  pub value : (choice v : ℕ → Bool) → Runs ns choice v → (c : Cell) → Meets v x c → v gate ≡ passes number c

-- Where none of the ways holds, each node is held as before: so they may go on anywhere.
pub record Anywhere (ways : List Way) (old new : Ways) : Type 0 where
  pub splits : new.splits.items ≡ old.splits.items
  pub held : (v : ℕ → Bool) → AllSplit v old.splits.items → any v ways ≡ false → (q : ℕ) → held v new.waits.items q ≡ held v old.waits.items q

-- A value is kept in temp m where a gate holds, with the gate that makes it sure; where it was not kept before, it is kept everywhere.
pub record Keeps (ns : List Gates) (when m : ℕ) (val : Val) (sure : ℕ) (old new : Temps) : Type 0 where
  pub slots : new.slots ≡ old.slots
  pub count : length new.vals.items ≡ length old.vals.items
  pub kept : (j : ℕ) → is_kept new j ≡ (if nat_eq m j then true else is_kept old j)
  pub others : (j : ℕ) → nat_eq m j ≡ false → val_at new j ≡ val_at old j
  pub first : is_kept old m ≡ false → val_at new m ≡ val
  pub again : is_kept old m ≡ true → IsOverwritten ns when (val_at old m) val (val_at new m)
  pub sures : (choice v : ℕ → Bool) → Runs ns choice v → (j : ℕ)
      → told v new.sure.items j ≡ (if nat_eq m j then (if is_kept old m then (if v when then v sure else told v old.sure.items m) else v sure) else told v old.sure.items j)
