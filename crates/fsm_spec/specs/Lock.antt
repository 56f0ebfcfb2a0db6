-- The machine of locks as a table: a lock is unlocked (U) or locked (L); locking a locked lock and unlocking an
-- unlocked one are errors. The functions that only try to lock are no operations of it: where no file gives the
-- machine, they have a rule of their own.
use Rattle.std.specs.Prelude.{ℕ, List, [], ◌∷◌, ◌++◌, Some, None, codes}
use Rattle.fsm_spec.specs.declared.table.MachineSpec.{MachineSpec}
use Rattle.fsm_spec.specs.declared.table.Operation.{Operation}
use Rattle.fsm_spec.specs.declared.table.Returns.{Returns}
use Rattle.fsm_spec.specs.declared.table.Returns.TheVariants.{Nothing, Zero}

-- U>L L>!
abbrev pub locking : List ℕ → Returns → Operation
locking function returns = record { function = function; returns = returns; targets = Some 1 ∷ None ∷ [] }

-- U>! L>U
abbrev pub unlocking : List ℕ → Returns → Operation
unlocking function returns = record { function = function; returns = returns; targets = None ∷ Some 0 ∷ [] }

abbrev pub lock_operations : List Operation
lock_operations =
    locking (codes "spin_lock") Nothing ∷ locking (codes "mutex_lock") Nothing ∷ locking (codes "pthread_mutex_lock") Zero
    ∷ unlocking (codes "spin_unlock") Nothing ∷ unlocking (codes "mutex_unlock") Nothing ∷ unlocking (codes "pthread_mutex_unlock") Zero ∷ []

unfoldable pub locks : MachineSpec
locks = record { name = codes "lock"; states = codes "U" ∷ codes "L" ∷ []; operations = lock_operations }

-- the bytes of these lines, each ended by a line feed
abbrev pub file_of : List (List ℕ) → List ℕ
file_of [] = []
file_of (line ∷ lines) = line ++ 10 ∷ file_of lines

-- the machine of locks as a machine file
abbrev pub lock_file : List ℕ
lock_file = file_of (
    codes "machine lock" ∷ codes "states U L" ∷ codes "op spin_lock void U>L L>!" ∷ codes "op mutex_lock void U>L L>!"
    ∷ codes "op pthread_mutex_lock zero U>L L>!" ∷ codes "op spin_unlock void U>! L>U" ∷ codes "op mutex_unlock void U>! L>U"
    ∷ codes "op pthread_mutex_unlock zero U>! L>U" ∷ [])
