-- Where a path leads over the places of a store, in the targets of guarded sets: target n + 1 is location n, and 0 says that
-- the path is missing.
use Rattle.std.specs.Prelude.{ℕ, zero, suc, ◌≤◌, Bool, true, false, Option, Some, None, List, [], ◌∷◌, length, if◌then◌else◌}
use Rattle.bit_net.specs.declared.nodes.Node.{Node}
use Rattle.bit_net.specs.Runs.{Runs}
use Rattle.gl_sets.specs.declared.pairs.Pair.{Pair}
use Rattle.gl_sets.specs.Guards.{Points, guards_top}
use Rattle.gl_store.specs.declared.stores.Location.{Location}
use Rattle.gl_store.specs.Meets.{MeetsAll}
use Rattle.run_store.specs.declared.Flag.TheVariants as flag
use Rattle.run_store.specs.Concrete.{Cell, Place, Pointers, flag_at, load}
use Rattle.sum_rows.specs.declared.path.Step.{Step}
use Rattle.sum_rows.specs.declared.path.Step.TheVariants as step
use Rattle.sc_world.specs.declared.run.Origin.TheVariants as origin
use Rattle.sc_world.specs.Layout.{Layout, location, location_of, part, is_stub, is_pointer_cell}
use Rattle.sc_world.specs.World.{target_of}
use Rattle.gate_paths.specs.declared.moves.Move.{Move}
use Rattle.gate_paths.specs.declared.moves.Move.TheVariants as move

-- the target of what was found; 0 of nothing
abbrev pub found_target : Option ℕ → ℕ
found_target None = zero
found_target (Some at) = suc at

-- Moves, by the layout alone.

-- a pointer cell stays, and what is no stub; or a part is taken
abbrev pub led_to : Layout → Move → (at : ℕ) → Option ℕ
led_to p move.Cell at = if is_pointer_cell (location p at) then Some at else None
led_to p move.Real at = if is_stub (location p at) then None else Some at
led_to p (move.Part s) at = part p at s

abbrev pub gone : Layout → Move → (from : ℕ) → ℕ
gone p m zero = zero
gone p m (suc at) = found_target (led_to p m at)

pub record Goes (ns : List Node) (p : Layout) (m : Move) (from made : List Pair) : Type 0 where
  pub below : guards_top made ≤ length ns
  pub points : (choice v : ℕ → Bool) → Runs ns choice v → (t : ℕ) → Points v from t → Points v made (gone p m t)

-- Pointers.

-- whether the object in which a target is was freed
abbrev pub is_lost : Layout → List Place → (from : ℕ) → Bool
is_lost p ps zero = false
is_lost p ps (suc at) = flag_at ps (location p at).root flag.Freed

abbrev pub unless_lost : Bool → ℕ → ℕ
unless_lost true t = 0
unless_lost false t = t

-- the target of a pointer, which is missing where that is a stub or in a freed object
abbrev pub usable_target : Layout → List Place → (from : ℕ) → ℕ
usable_target p ps t = unless_lost (is_lost p ps (gone p move.Real t)) (gone p move.Real t)

pub record IsUsable (ns : List Node) (p : Layout) (locations : List Location) (pointer made : List Pair) : Type 0 where
  pub below : guards_top made ≤ length ns
  pub points : (choice v : ℕ → Bool) → Runs ns choice v → (ps : List Place) → MeetsAll v locations ps → (t : ℕ) → Points v pointer t
      → Points v made (usable_target p ps t)

-- the target of the pointer that a location has; missing where it has none
abbrev pub read_target : Layout → List Place → (from : ℕ) → ℕ
read_target p ps t = target_of (load ps Pointers (gone p move.Cell t))

-- Steps.

abbrev pub step_target : Layout → List Place → Step → (from : ℕ) → ℕ
step_target p ps step.Deref t = usable_target p ps (read_target p ps t)
step_target p ps (step.Field n) t = gone p (move.Part (step.Field n)) t
step_target p ps (step.Elem k) t = gone p (move.Part (step.Elem k)) t

abbrev pub steps_target : Layout → List Place → List Step → (from : ℕ) → ℕ
steps_target p ps [] t = t
steps_target p ps (s ∷ ss) t = steps_target p ps ss (step_target p ps s t)

-- steps from the locations of a set, one after the other
pub record Steps (ns : List Node) (p : Layout) (locations : List Location) (steps : List Step) (from made : List Pair) : Type 0 where
  pub below : guards_top made ≤ length ns
  pub points : (choice v : ℕ → Bool) → Runs ns choice v → (ps : List Place) → MeetsAll v locations ps → (t : ℕ) → Points v from t
      → Points v made (steps_target p ps steps t)

-- Roots.

abbrev pub global_target : Layout → List Place → (global : ℕ) → List Step → ℕ
global_target p ps n ss = steps_target p ps ss (suc (location_of p (origin.Global n)))

-- an argument itself has no location, and no parts
abbrev pub argument_target : Layout → List Place → Cell → List Step → ℕ
argument_target p ps c [] = 0
argument_target p ps c (step.Deref ∷ ss) = steps_target p ps ss (usable_target p ps (target_of c))
argument_target p ps c (s ∷ ss) = 0
