-- The table of built-in functions, one name after the other.
use Rattle.std.proofs.Common.{◌≡◌, ℕ, zero, suc, ◌+◌, ◌<◌, ◌≤◌, length, drop, map, Option, Some, None, List, []}
use Rattle.std.proofs.Common.{◌∷◌, ◌++◌, append_assoc, refl, sym, ◌∙◌, ap}
use Rattle.std.proofs.lemmas.List.{append-nil, drop_more, drop_all}
use Rattle.std.proofs.lemmas.Option.{slice_get-get_or}
use Rattle.std.specs.List.{slice_get}
use Rattle.fsm_spec.specs.declared.table.MachineSpec.{MachineSpec}
use Rattle.sc_rules.specs.declared.walk.Builtin.{Builtin}
use Rattle.sc_calls.specs.Builtins.{builtin}
use Rattle.sc_check.specs.Heres.{entry_of}
use Rattle.sc_check.specs.Typed.{builtin_if}

-- what each text means
abbrev pub meanings : Option MachineSpec → List (List ℕ) → List (Option Builtin)
meanings m ts = map (builtin m) ts

pub one_more : (m : Option MachineSpec) (ts : List (List ℕ)) (k : ℕ) (b : Option Builtin)
    (before new all : List (Option Builtin)) → k < length ts → b ≡ builtin_if m (slice_get ts k)
    → new ≡ before ++ b ∷ [] → before ++ meanings m (drop k ts) ≡ all → new ++ meanings m (drop (k + 1) ts) ≡ all
one_more m ts k b before new all within is added so_far =
    ap (λ (xs : List (Option Builtin)). xs ++ meanings m (drop (k + 1) ts)) added
    ∙ append_assoc before (b ∷ []) (meanings m (drop (k + 1) ts))
    ∙ ap (λ (x : Option Builtin). before ++ x ∷ meanings m (drop (k + 1) ts))
    (is ∙ ap (builtin_if m) (slice_get-get_or ts k [] within))
    ∙ ap (λ (xs : List (List ℕ)). before ++ meanings m xs) (sym (drop_more ts k [] within))
    ∙ so_far

pub entry_found : (m : Option MachineSpec) (ts : List (List ℕ)) (n : ℕ)
    → entry_of (meanings m ts) n ≡ builtin_if m (slice_get ts n)
entry_found m [] zero = refl
entry_found m [] (suc n) = refl
entry_found m (t ∷ ts) zero = refl
entry_found m (t ∷ ts) (suc n) = entry_found m ts n

-- the table of all names
pub all_found : (m : Option MachineSpec) (ts : List (List ℕ)) (k : ℕ) (builtins : List (Option Builtin))
    → length ts ≤ k
    → builtins ++ meanings m (drop k ts) ≡ meanings m ts → (n : ℕ) → entry_of builtins n ≡ builtin_if m (slice_get ts n)
all_found m ts k builtins done so_far n =
    ap (λ (bs : List (Option Builtin)). entry_of bs n)
    (sym (append-nil builtins) ∙ ap (λ (xs : List (List ℕ)). builtins ++ meanings m xs) (sym (drop_all k ts done))
    ∙ so_far)
    ∙ entry_found m ts n
