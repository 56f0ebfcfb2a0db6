-- A clause read from its front, under a partial assignment.

use Rattle.std.proofs.Common.{◌≡◌, ℕ, ◌+◌, ◌<◌, Bool, true, false, ◌||◌, List, [], ◌∷◌, ◌++◌, length, take, get_or, Option, None, Some, is_some, sym, subst, ap, ◌∙◌}
use Rattle.std.proofs.lemmas.List.{take_more}
use Rattle.std.proofs.lemmas.List.Folds.{list_any_at}
use Rattle.std.proofs.lemmas.Bool.{or_from, true≢false}
use Rattle.sat_base.specs.declared.literal.Lit.{Lit}
use Rattle.sat_base.specs.Logic.{lit_true, some_true, LitsBelow}
use Rattle.sat_base.specs.Marks.{Extends, lit_mark}
use Rattle.sat_base.specs.Propagation.{IsOpen}
use Rattle.sat_base.proofs.Marking.{lit_true-marked, mark_from_lit_mark, some_true-push, or-false}

-- no literal so far is true; this one, if any, has no value, and where there are not several, all others are false
abbrev pub Scanned : List Lit → List (Option Bool) → Option Lit → Bool → Type 0
Scanned front ms None several = (f : ℕ → Bool) → Extends f ms → some_true f front ≡ false
Scanned front ms (Some l) several =
    IsOpen ms l.var × (several ≡ false → (f : ℕ → Bool) → Extends f ms → some_true f front ≡ lit_true f l)

pub scanned_false : (front : List Lit) (ms : List (Option Bool)) (unset : Option Lit) (several : Bool) (l : Lit)
    → lit_mark ms l ≡ Some false → Scanned front ms unset several → Scanned (front ++ l ∷ []) ms unset several
scanned_false front ms None several l is scanned =
    λ f ext. some_true-push f front l ∙ or_from (some_true f front) (lit_true f l) (scanned f ext) (lit_true-marked f ms l false ext is)
scanned_false front ms (Some q) several l is scanned = (
  scanned.0,
  λ single f ext.
      some_true-push f front l
      ∙ ap (λ b. b || lit_true f l) (scanned.1 single f ext)
      ∙ ap (λ b. lit_true f q || b) (lit_true-marked f ms l false ext is)
      ∙ or-false (lit_true f q),
)

pub scanned_open : (front : List Lit) (ms : List (Option Bool)) (unset : Option Lit) (several : Bool) (l : Lit)
    → IsOpen ms l.var → Scanned front ms unset several → Scanned (front ++ l ∷ []) ms (Some l) (is_some unset)
scanned_open front ms None several l is_open scanned =
    (is_open, λ single f ext. some_true-push f front l ∙ ap (λ b. b || lit_true f l) (scanned f ext))
scanned_open front ms (Some q) several l is_open scanned = (is_open, λ single. absurd (true≢false single))

-- the same at a place of the clause
pub scan_false : (clause : List Lit) (ms : List (Option Bool)) (unset : Option Lit) (several : Bool) (i : ℕ) (d : Lit) (b : Bool)
    → i < length clause → Some b ≡ lit_mark ms (get_or clause i d) → b ≡ false
    → Scanned (take i clause) ms unset several → Scanned (take (i + 1) clause) ms unset several
scan_false clause ms unset several i d b inside is value scanned =
    subst (λ front. Scanned front ms unset several) (sym (take_more clause i d inside))
    (scanned_false (take i clause) ms unset several (get_or clause i d) (sym is ∙ ap Some value) scanned)

pub scan_open : (clause : List Lit) (ms : List (Option Bool)) (unset : Option Lit) (several : Bool) (i : ℕ) (d : Lit)
    → i < length clause → LitsBelow (length ms) clause → None ≡ lit_mark ms (get_or clause i d)
    → Scanned (take i clause) ms unset several → Scanned (take (i + 1) clause) ms (Some (get_or clause i d)) (is_some unset)
scan_open clause ms unset several i d inside below is scanned =
    subst (λ front. Scanned front ms (Some (get_or clause i d)) (is_some unset)) (sym (take_more clause i d inside))
    (scanned_open (take i clause) ms unset several (get_or clause i d)
    (record { exists = below i d inside; empty = mark_from_lit_mark ms (get_or clause i d) (sym is) }) scanned)

-- a true literal satisfies the clause
pub scan_true : (clause : List Lit) (ms : List (Option Bool)) (i : ℕ) (d : Lit) (b : Bool)
    → i < length clause → Some b ≡ lit_mark ms (get_or clause i d) → b ≡ true → (f : ℕ → Bool) → Extends f ms → some_true f clause ≡ true
scan_true clause ms i d b inside is value f ext =
    list_any_at (lit_true f) clause i d inside (lit_true-marked f ms (get_or clause i d) true ext (sym is ∙ ap Some value))
