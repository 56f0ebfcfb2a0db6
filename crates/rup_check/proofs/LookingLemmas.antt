-- Open literals of a clause, and what they say of it.

use Rattle.std.proofs.Common.{◌≡◌, ◌≢◌, ℕ, zero, suc, ◌+◌, ◌<◌, ◌≤◌, List, [], ◌∷◌, ◌++◌, length, take, take_all, drop, get_or, refl, sym, subst, ap, ◌∙◌, ⊎_elim}
use Rattle.std.specs.List.{Contains}
use Rattle.std.proofs.lemmas.List.{take_more}
use Rattle.std.proofs.lemmas.List.Elements.{Contains-push, Contains-append_left, Contains-push_cases}
use Rattle.sat_base.specs.declared.literal.Lit.{Lit}
use Rattle.sat_base.specs.Logic.{negation}
use Rattle.rup_check.specs.declared.look.OpenLits.{OpenLits}
use Rattle.rup_check.specs.declared.look.OpenLits.TheVariants.{Nothing, One, Two}
use Rattle.rup_check.specs.Looking.{IsOpen, AreOpen, IsClosed}
use Rattle.rup_check.proofs.MarkingLemmas.{lit_cases, nothing_in}

widen : (lits front : List Lit) (x l : Lit) → IsOpen lits front l → IsOpen lits (front ++ x ∷ []) l
widen lits front x l h = (Contains-append_left front (x ∷ []) l h.0, h.1)

open_last : (lits front : List Lit) (x : Lit) → (Contains lits (negation x) → ⊥) → IsOpen lits (front ++ x ∷ []) x
open_last lits front x open_x = (Contains-push front x, open_x)

-- a literal that is shut
skip_push : (lits front : List Lit) (x : Lit) (o : OpenLits) → Contains lits (negation x) → AreOpen lits front o → AreOpen lits (front ++ x ∷ []) o
skip_push lits front x Nothing shut h =
    λ q k. ⊎_elim (λ b. h q b) (λ e. subst (λ y. Contains lits (negation y)) e shut) (Contains-push_cases front x q k)
skip_push lits front x (One l) shut h = (
  widen lits front x l h.0,
  λ q k ne. ⊎_elim (λ b. h.1 q b ne) (λ e. subst (λ y. Contains lits (negation y)) e shut) (Contains-push_cases front x q k),
)
skip_push lits front x (Two l m) shut h = (widen lits front x l h.0, widen lits front x m h.1, h.2)

pub skip_more : (lits clause : List Lit) (i : ℕ) (d : Lit) (o : OpenLits) → i < length clause → Contains lits (negation (get_or clause i d))
    → AreOpen lits (take i clause) o → AreOpen lits (take (i + 1) clause) o
skip_more lits clause i d o inside shut h =
    subst (λ c. AreOpen lits c o) (sym (take_more clause i d inside)) (skip_push lits (take i clause) (get_or clause i d) o shut h)

pub open_first : (lits front : List Lit) (x : Lit) → AreOpen lits front Nothing → (Contains lits (negation x) → ⊥) → AreOpen lits (front ++ x ∷ []) (One x)
open_first lits front x h open_x = (
  open_last lits front x open_x,
  λ q k ne. ⊎_elim (λ b. h q b) (λ e. absurd (ne (sym e))) (Contains-push_cases front x q k),
)

pub open_again : (lits front : List Lit) (l x : Lit) → AreOpen lits front (One l) → l ≡ x → AreOpen lits (front ++ x ∷ []) (One l)
open_again lits front l x h same = (
  widen lits front x l h.0,
  λ q k ne. ⊎_elim (λ b. h.1 q b ne) (λ e. absurd (ne (sym (same ∙ e)))) (Contains-push_cases front x q k),
)

pub open_second : (lits front : List Lit) (l x : Lit) → AreOpen lits front (One l) → (Contains lits (negation x) → ⊥) → l ≢ x
    → AreOpen lits (front ++ x ∷ []) (Two l x)
open_second lits front l x h open_x other = (widen lits front x l h.0, open_last lits front x open_x, other)

pub open_still : (lits front : List Lit) (l m x : Lit) → AreOpen lits front (Two l m) → AreOpen lits (front ++ x ∷ []) (Two l m)
open_still lits front l m x h = (widen lits front x l h.0, widen lits front x m h.1, h.2)

pub open_more : (lits clause : List Lit) (i : ℕ) (d : Lit) (o p : OpenLits) → i < length clause
    → ((ls front : List Lit) → AreOpen ls front o → (Contains ls (negation (get_or clause i d)) → ⊥) → AreOpen ls (front ++ get_or clause i d ∷ []) p)
    → (Contains lits (negation (get_or clause i d)) → ⊥) → AreOpen lits (take i clause) o → AreOpen lits (take (i + 1) clause) p
open_more lits clause i d o p inside step shut h =
    subst (λ c. AreOpen lits c p) (sym (take_more clause i d inside)) (step lits (take i clause) h shut)

take_split : (n : ℕ) (xs : List Lit) → take n xs ++ drop n xs ≡ xs
take_split zero [] = refl
take_split zero (x ∷ xs) = refl
take_split (suc n) [] = refl
take_split (suc n) (x ∷ xs) = ap (λ t. x ∷ t) (take_split n xs)

within_take : (clause : List Lit) (n : ℕ) (l : Lit) → Contains (take n clause) l → Contains clause l
within_take clause n l h =
    subst (λ c. Contains c l) (take_split n clause) (Contains-append_left (take n clause) (drop n clause) l h)

pub two_all : (lits clause : List Lit) (n : ℕ) (l m : Lit) → AreOpen lits (take n clause) (Two l m) → AreOpen lits clause (Two l m)
two_all lits clause n l m h = ((within_take clause n l h.0.0, h.0.1), (within_take clause n m h.1.0, h.1.1), h.2)

pub open_none : (lits clause : List Lit) → AreOpen lits (take 0 clause) Nothing
open_none lits clause = λ q h. absurd (nothing_in q h)

pub open_all : (lits clause : List Lit) (i : ℕ) (o : OpenLits) → length clause ≤ i → AreOpen lits (take i clause) o → AreOpen lits clause o
open_all lits clause i o over h = subst (λ c. AreOpen lits c o) (take_all i clause over) h

pub closed_one : (lits clause : List Lit) (m : Lit) → AreOpen lits clause (One m) → Contains lits m → IsClosed lits clause
closed_one lits clause m h has = record {
  forces = λ l there others.
      ⊎_elim (λ same. subst (λ x. Contains lits x) same has) (λ ne. absurd (h.0.1 (others m h.0.0 ne))) (lit_cases m l);
  stands = λ all. h.0.1 (all m h.0.0);
}

pub closed_two : (lits clause : List Lit) (a b : Lit) → AreOpen lits clause (Two a b) → IsClosed lits clause
closed_two lits clause a b h = record {
  forces = λ l there others.
      ⊎_elim (λ same. absurd (h.1.1 (others b h.1.0 (λ e. h.2 (same ∙ sym e))))) (λ ne. absurd (h.0.1 (others a h.0.0 ne))) (lit_cases a l);
  stands = λ all. h.0.1 (all a h.0.0);
}
