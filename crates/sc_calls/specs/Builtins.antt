-- Names that mean a built-in function where they are called, whatever is declared under them: what each gives
-- and takes.
use Rattle.std.specs.Prelude.{ℕ, Bool, true, false, Option, Some, None, List, [], ◌∷◌, codes, slice_get}
use Rattle.sc_tree.specs.Tables.{Table, named, ◌|?◌}
use Rattle.fsm_spec.specs.declared.table.MachineSpec.{MachineSpec}
use Rattle.fsm_spec.specs.Table.{find_in, returns_zero}
use Rattle.sc_rules.specs.declared.walk.Builtin.{Builtin}
use Rattle.sc_rules.specs.declared.walk.Builtin.TheVariants as b
use Rattle.sc_rules.specs.declared.walk.Given.TheVariants as takes

-- operations on locks
abbrev pub lock_rows : Table Builtin
lock_rows =
    (codes "spin_lock", b.Nothing takes.Pointer)
    ∷ (codes "mutex_lock", b.Nothing takes.Pointer)
    ∷ (codes "pthread_mutex_lock", b.Int takes.Pointer)
    ∷ (codes "spin_unlock", b.Nothing takes.Pointer)
    ∷ (codes "mutex_unlock", b.Nothing takes.Pointer)
    ∷ (codes "pthread_mutex_unlock", b.Int takes.Pointer)
    ∷ (codes "spin_trylock", b.Int takes.Pointer)
    ∷ (codes "mutex_trylock", b.Int takes.Pointer)
    ∷ (codes "pthread_mutex_trylock", b.Int takes.Pointer)
    ∷ []

-- allocation, release, ends of the program, and what is not taken
abbrev pub other_rows : Table Builtin
other_rows =
    (codes "malloc", b.Object takes.Any)
    ∷ (codes "kmalloc", b.Object takes.Any)
    ∷ (codes "calloc", b.Object takes.Any)
    ∷ (codes "kzalloc", b.Object takes.Any)
    ∷ (codes "free", b.Nothing takes.Pointer)
    ∷ (codes "kfree", b.Nothing takes.Pointer)
    ∷ (codes "exit", b.Nothing takes.Any)
    ∷ (codes "_exit", b.Nothing takes.Any)
    ∷ (codes "abort", b.Nothing takes.Any)
    ∷ (codes "panic", b.Nothing takes.Any)
    ∷ (codes "__assert_fail", b.Nothing takes.Any)
    ∷ (codes "__builtin_expect", b.Long takes.Two)
    ∷ (codes "realloc", b.Refused)
    ∷ (codes "setjmp", b.Refused)
    ∷ (codes "sigsetjmp", b.Refused)
    ∷ []

-- an operation of a machine: its function takes a pointer first, and gives nothing or an `int`
abbrev pub operation : (zero : Bool) → Builtin
operation true = b.Int takes.Pointer
operation false = b.Nothing takes.Pointer

abbrev pub operation_if : MachineSpec → Option ℕ → Option Builtin
operation_if m None = None
operation_if m (Some n) = Some (operation (returns_zero (slice_get m.operations n)))

-- the built-in functions on locks, or the operations of the machine where there is one
abbrev pub lock_builtin : Option MachineSpec → List ℕ → Option Builtin
lock_builtin None name = named lock_rows name
lock_builtin (Some m) name = operation_if m (find_in m name)

-- the built-in function that a name means
abbrev pub builtin : Option MachineSpec → List ℕ → Option Builtin
builtin machine name = lock_builtin machine name |? named other_rows name
