-- What is noted of locations where a step may end a run: what the store tells of them, where no step has ended the run.
use Rattle.std.specs.Prelude.{◌≡◌, ℕ, ◌<◌, nat_eq, Bool, true, false, List, length, if◌then◌else◌}
use Rattle.bit_net.specs.declared.nodes.Gate.{Gate}
use Rattle.gl_store.specs.declared.stores.Location.{Location}
use Rattle.gl_store.specs.Meets.{MeetsAll}
use Rattle.gate_runs.specs.Stands.{told}
use Rattle.run_store.specs.Concrete.{Place, flag_at}
use Rattle.run_store.specs.declared.Flag.TheVariants as flag

-- Of a run that a step ended all is kept. Of any other one what is kept of location k is what is told of it now, if what was noted last is
-- what was kept; and so it is noted.
pub record NotesAt (v : ℕ → Bool) (stopped k : ℕ) (now : Bool) (old_touched old_noted new_touched new_noted : List Gate) : Type 0 where
  pub stays : v stopped ≡ true → (l : ℕ) → told v new_touched l ≡ told v old_touched l
  pub noted : (l : ℕ) → told v new_noted l ≡ (if nat_eq k l then now else told v old_noted l)
  pub same : v stopped ≡ false → ((l : ℕ) → told v old_touched l ≡ told v old_noted l) → (l : ℕ) → told v new_touched l ≡ told v new_noted l

-- the same of all locations
pub record NotesAll (v : ℕ → Bool) (stopped : ℕ) (stored : List Location) (old_touched old_noted new_touched new_noted : List Gate) : Type 0 where
  pub stays : v stopped ≡ true → (l : ℕ) → told v new_touched l ≡ told v old_touched l
  pub noted : (ps : List Place) → MeetsAll v stored ps → (l : ℕ) → l < length old_touched → told v new_noted l ≡ flag_at ps l flag.Touched
  pub same : v stopped ≡ false → ((l : ℕ) → told v old_touched l ≡ told v old_noted l) → (l : ℕ) → told v new_touched l ≡ told v new_noted l
