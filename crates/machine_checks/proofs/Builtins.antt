-- A name means the same built-in function with the machine of locks as without a machine, if it does not try to lock.
use Rattle.std.proofs.Common.{◌≡◌, ℕ, List, [], ◌∷◌, refl, sym, ap, ◌∙◌}
use Rattle.std.specs.Prelude.{Bool, true, false, ◌||◌, Option, Some, None, codes, bytes_eq, slice_get, position, if◌then◌else◌}
use Rattle.fsm_spec.specs.Lock.{locks}
use Rattle.fsm_spec.specs.Table.{find_in}
use Rattle.sc_tree.specs.Tables.{named, ◌|?◌}
use Rattle.sc_rules.specs.declared.walk.Builtin.{Builtin}
use Rattle.sc_rules.specs.declared.walk.Builtin.TheVariants as is
use Rattle.sc_rules.specs.declared.walk.Given.TheVariants as takes
use Rattle.sc_calls.specs.Builtins.{builtin, lock_builtin, other_rows, operation_if}
use Rattle.sc_world.specs.Source.{Effect, Try, trying}

-- the rows of the table, by which of them the name is: six that lock and unlock, and three that try
abbrev row_of : (a b c d e f t u v : Bool) → Option Builtin
row_of a b c d e f t u v =
    if a then Some (is.Nothing takes.Pointer)
    else (if b then Some (is.Nothing takes.Pointer)
    else (if c then Some (is.Int takes.Pointer)
    else (if d then Some (is.Nothing takes.Pointer)
    else (if e then Some (is.Nothing takes.Pointer)
    else (if f then Some (is.Int takes.Pointer)
    else (if t then Some (is.Int takes.Pointer)
    else (if u then Some (is.Int takes.Pointer)
    else (if v then Some (is.Int takes.Pointer) else None))))))))

abbrev tries_of : (t u v : Bool) → Option Effect
tries_of t u v = if t || (u || false) then Some (Try 1 0) else (if v then Some (Try 0 16) else None)

abbrev operation_of : (a b c d e f : Bool) → Option Builtin
operation_of a b c d e f = operation_if locks (position (λ x. x) (a ∷ b ∷ c ∷ d ∷ e ∷ f ∷ []))

some_is_none : {A : Type 0} {a : A} → Some a ≡ None → ⊥
some_is_none e = absurd (cc)

rows_same : (a b c d e f t u v : Bool) → tries_of t u v ≡ None → row_of a b c d e f t u v ≡ operation_of a b c d e f
unfolding locks
rows_same true b c d e f t u v h = refl
rows_same false true c d e f t u v h = refl
rows_same false false true d e f t u v h = refl
rows_same false false false true e f t u v h = refl
rows_same false false false false true f t u v h = refl
rows_same false false false false false true t u v h = refl
rows_same false false false false false false true u v h = absurd (some_is_none h)
rows_same false false false false false false false true v h = absurd (some_is_none h)
rows_same false false false false false false false false true h = absurd (some_is_none h)
rows_same false false false false false false false false false h = refl

lock_same : (name : List ℕ) → trying name ≡ None → lock_builtin None name ≡ lock_builtin (Some locks) name
unfolding locks
lock_same name h =
    rows_same (bytes_eq (codes "spin_lock") name) (bytes_eq (codes "mutex_lock") name) (bytes_eq (codes "pthread_mutex_lock") name)
    (bytes_eq (codes "spin_unlock") name) (bytes_eq (codes "mutex_unlock") name) (bytes_eq (codes "pthread_mutex_unlock") name)
    (bytes_eq (codes "spin_trylock") name) (bytes_eq (codes "mutex_trylock") name) (bytes_eq (codes "pthread_mutex_trylock") name) h

pub builtin_same : (name : List ℕ) → trying name ≡ None → builtin None name ≡ builtin (Some locks) name
builtin_same name h = λ i. lock_same name h i |? named other_rows name
