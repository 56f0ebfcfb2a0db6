-- What typing takes a name for fits what a call of it does in a run.
use Rattle.std.proofs.Common.{◌≡◌, ℕ, List, [], ◌∷◌, refl, sym, ap, subst, ◌∙◌}
use Rattle.std.specs.Prelude.{Bool, true, false, ◌||◌, Option, Some, None, codes, bytes_eq, slice_get, slice_index_or, position, if◌then◌else◌}
use Rattle.fsm_spec.specs.declared.table.MachineSpec.{MachineSpec}
use Rattle.fsm_spec.specs.Lock.{locks}
use Rattle.fsm_spec.specs.Table.{find_in, returns_zero}
use Rattle.sc_tree.specs.Tables.{named, ◌|?◌}
use Rattle.sc_base.specs.declared.pos.NameId.{NameId}
use Rattle.sc_rules.specs.declared.walk.Builtin.{Builtin}
use Rattle.sc_rules.specs.declared.walk.Builtin.TheVariants as is
use Rattle.sc_rules.specs.declared.walk.Given.{Given}
use Rattle.sc_rules.specs.declared.walk.Given.TheVariants as takes
use Rattle.sc_calls.specs.Builtins.{builtin, lock_builtin, lock_rows, other_rows, operation, operation_if}
use Rattle.sc_typing.specs.Here.{Here}
use Rattle.sc_world.specs.Source.{Source, Effect, Operation, Try, Allocate, Release, Ends, Expect, Known, Unknown, or_else, operation_if as operates_if, trying, trying_if, built_in, effect_of_name, text_of}
use Rattle.sc_world.specs.Programs.{machine_or_locks, is_of_locks}
use Rattle.typed_laws.specs.Meanings.{MeansAlike}

-- A call that typing takes for this does that; where typing takes it for nothing, it has no meaning of its own.
pub data Does : Builtin → Effect → Type 0 where
  Locks : (n : ℕ) → Does (is.Nothing takes.Pointer) (Operation n)
  LocksAndTells : (n : ℕ) → Does (is.Int takes.Pointer) (Operation n)
  Tries : (a b : ℕ) → Does (is.Int takes.Pointer) (Try a b)
  Makes : (zeroed : Bool) → Does (is.Object takes.Any) (Allocate zeroed)
  Frees : Does (is.Nothing takes.Pointer) Release
  Stops : Does (is.Nothing takes.Any) Ends
  Expects : Does (is.Long takes.Two) Expect
  Refuses : (e : Effect) → Does is.Refused e

abbrev pub Means : Option Builtin → Option Effect → Type 0
Means None None = Unit {0}
Means None (Some e) = ⊥
Means (Some b) None = Unit {0}
Means (Some b) (Some e) = Does b e

-- The tables, by which of their rows the name is.

abbrev other_row : (a b c d e f g h i j k l m n o : Bool) → Option Builtin
other_row a b c d e f g h i j k l m n o =
    if a then Some (is.Object takes.Any)
    else (if b then Some (is.Object takes.Any)
    else (if c then Some (is.Object takes.Any)
    else (if d then Some (is.Object takes.Any)
    else (if e then Some (is.Nothing takes.Pointer)
    else (if f then Some (is.Nothing takes.Pointer)
    else (if g then Some (is.Nothing takes.Any)
    else (if h then Some (is.Nothing takes.Any)
    else (if i then Some (is.Nothing takes.Any)
    else (if j then Some (is.Nothing takes.Any)
    else (if k then Some (is.Nothing takes.Any)
    else (if l then Some (is.Long takes.Two)
    else (if m then Some is.Refused else (if n then Some is.Refused else (if o then Some is.Refused else None))))))))))))))

abbrev does_row : (a b c d e f g h i j k l : Bool) → Option Effect
does_row a b c d e f g h i j k l =
    if a || (b || false)
    then Some (Allocate false)
    else (if c || (d || false)
    then Some (Allocate true)
    else (if e || (f || false)
    then Some Release
    else (if g || (h || (i || (j || (k || false)))) then Some Ends else (if l then Some Expect else None))))

refused_rest : (m n o : Bool) → Means (if m then Some is.Refused else (if n then Some is.Refused else (if o then Some is.Refused else None))) None
refused_rest true n o = tt
refused_rest false true o = tt
refused_rest false false true = tt
refused_rest false false false = tt

other_does : (a b c d e f g h i j k l m n o : Bool) → Means (other_row a b c d e f g h i j k l m n o) (does_row a b c d e f g h i j k l)
other_does true b c d e f g h i j k l m n o = Makes false
other_does false true c d e f g h i j k l m n o = Makes false
other_does false false true d e f g h i j k l m n o = Makes true
other_does false false false true e f g h i j k l m n o = Makes true
other_does false false false false true f g h i j k l m n o = Frees
other_does false false false false false true g h i j k l m n o = Frees
other_does false false false false false false true h i j k l m n o = Stops
other_does false false false false false false false true i j k l m n o = Stops
other_does false false false false false false false false true j k l m n o = Stops
other_does false false false false false false false false false true k l m n o = Stops
other_does false false false false false false false false false false true l m n o = Stops
other_does false false false false false false false false false false false true m n o = Expects
other_does false false false false false false false false false false false false m n o = refused_rest m n o

others : (t : List ℕ) → Means (named other_rows t) (built_in t)
others t =
    other_does (bytes_eq (codes "malloc") t) (bytes_eq (codes "kmalloc") t) (bytes_eq (codes "calloc") t) (bytes_eq (codes "kzalloc") t) (bytes_eq (codes "free") t) (bytes_eq (codes "kfree") t)
    (bytes_eq (codes "exit") t) (bytes_eq (codes "_exit") t) (bytes_eq (codes "abort") t) (bytes_eq (codes "panic") t) (bytes_eq (codes "__assert_fail") t) (bytes_eq (codes "__builtin_expect") t)
    (bytes_eq (codes "realloc") t) (bytes_eq (codes "setjmp") t) (bytes_eq (codes "sigsetjmp") t)

abbrev lock_row : (a b c d e f t u v : Bool) → Option Builtin
lock_row a b c d e f t u v =
    if a then Some (is.Nothing takes.Pointer)
    else (if b then Some (is.Nothing takes.Pointer)
    else (if c then Some (is.Int takes.Pointer)
    else (if d then Some (is.Nothing takes.Pointer)
    else (if e then Some (is.Nothing takes.Pointer)
    else (if f then Some (is.Int takes.Pointer)
    else (if t then Some (is.Int takes.Pointer)
    else (if u then Some (is.Int takes.Pointer)
    else (if v then Some (is.Int takes.Pointer) else None))))))))

abbrev does_lock : (a b c d e f t u v : Bool) → Option Effect → Option Effect
does_lock a b c d e f t u v rest =
    or_else (operates_if (position (λ x. x) (a ∷ b ∷ c ∷ d ∷ e ∷ f ∷ []))) (or_else (if t || (u || false) then Some (Try 1 0) else (if v then Some (Try 0 16) else None)) rest)

locks_do : (a b c d e f t u v : Bool) (o : Option Builtin) (rest : Option Effect) → Means o rest → Means (lock_row a b c d e f t u v |? o) (does_lock a b c d e f t u v rest)
locks_do true b c d e f t u v o rest h = Locks 0
locks_do false true c d e f t u v o rest h = Locks 1
locks_do false false true d e f t u v o rest h = LocksAndTells 2
locks_do false false false true e f t u v o rest h = Locks 3
locks_do false false false false true f t u v o rest h = Locks 4
locks_do false false false false false true t u v o rest h = LocksAndTells 5
locks_do false false false false false false true u v o rest h = Tries 1 0
locks_do false false false false false false false true v o rest h = Tries 1 0
locks_do false false false false false false false false true o rest h = Tries 0 16
locks_do false false false false false false false false false o rest h = h

operation_does : (z : Bool) (n : ℕ) → Means (Some (operation z)) (Some (Operation n))
operation_does true n = LocksAndTells n
operation_does false n = Locks n

machine_does : (m : MachineSpec) (k : Option ℕ) (o : Option Builtin) (rest : Option Effect) → Means o rest → Means (operation_if m k |? o) (or_else (operates_if k) rest)
machine_does m None o rest h = h
machine_does m (Some n) o rest h = operation_does (returns_zero (slice_get m.operations n)) n

means : (m : Option MachineSpec) (t : List ℕ) → Means (builtin m t) (or_else (operates_if (find_in (machine_or_locks m) t)) (or_else (trying_if (is_of_locks m) t) (built_in t)))
unfolding locks
means None t =
    locks_do (bytes_eq (codes "spin_lock") t) (bytes_eq (codes "mutex_lock") t) (bytes_eq (codes "pthread_mutex_lock") t)
    (bytes_eq (codes "spin_unlock") t) (bytes_eq (codes "mutex_unlock") t) (bytes_eq (codes "pthread_mutex_unlock") t)
    (bytes_eq (codes "spin_trylock") t) (bytes_eq (codes "mutex_trylock") t) (bytes_eq (codes "pthread_mutex_trylock") t) (named other_rows t) (built_in t) (others t)
means (Some m) t = machine_does m (find_in m t) (named other_rows t) (built_in t) (others t)

pub names_mean : (here : Here) (s : Source) → MeansAlike here s → (n : NameId) → Means (here.builtin n.at) (effect_of_name s (text_of s n))
names_mean here s alike n =
    subst (λ b. Means b (effect_of_name s (text_of s n))) (sym (alike.builtins n.at))
    (subst (λ x. Means (builtin alike.machine (text_of s n)) (or_else (operates_if (find_in x (text_of s n))) (or_else (trying_if s.tries (text_of s n)) (built_in (text_of s n))))) (sym alike.given)
    (subst (λ y. Means (builtin alike.machine (text_of s n)) (or_else (operates_if (find_in (machine_or_locks alike.machine) (text_of s n))) (or_else (trying_if y (text_of s n)) (built_in (text_of s n))))) (sym alike.tries)
    (means alike.machine (text_of s n))))
