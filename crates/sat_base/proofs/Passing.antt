-- A pass over the clauses, and several passes.

use Rattle.std.proofs.Common.{◌≡◌, ℕ, ◌+◌, ◌<◌, Bool, true, false, not, List, [], ◌∷◌, ◌++◌, length, take, get_or, set, length-set, Option, None, Some, refl, sym, subst, ap, ◌∙◌, arith}
use Rattle.std.proofs.lemmas.List.{take_more}
use Rattle.std.proofs.lemmas.List.Elements.{Contains-get_or}
use Rattle.std.proofs.lemmas.Bool.{and_from, false_from_ne_true, false≢true, true≢false}
use Rattle.std.specs.List.{Contains}
use Rattle.std.specs.Option.{option_or}
use Rattle.sat_base.specs.declared.literal.Lit.{Lit}
use Rattle.sat_base.specs.Logic.{lit_true, some_true, all_true}
use Rattle.sat_base.specs.Marks.{Extends, open_count}
use Rattle.sat_base.specs.Propagation.{IsOpen, Narrows, Refutes, Satisfies}
use Rattle.sat_base.proofs.Marking.{Extends-set, Extends_before_set, value_from_Extends, open_count-set, value_from_lit_true, lit_true_from_value, all_true-push, some_true_from_all}

-- what is open after the front: nothing, and it is satisfied; or a variable, unless something changed
abbrev pub Rests : List (List Lit) → List (Option Bool) → Option ℕ → Bool → Type 0
Rests front ms None changed = Satisfies front ms
Rests front ms (Some var) changed = changed ≡ false → IsOpen ms var

pub record Passed (clauses front : List (List Lit)) (old new : List (Option Bool)) (unset : Option ℕ) (changed : Bool) : Type 0 where
  pub narrows : Narrows clauses old new
  pub counted : changed ≡ true → open_count new < open_count old
  pub rests : Rests front new unset changed

pub narrows_nothing : (clauses : List (List Lit)) (ms : List (Option Bool)) → Narrows clauses ms ms
narrows_nothing clauses ms =
    record { size = refl; grown = λ f ext. ext; forced = λ f all ext. ext; fewer = omega arith }

pub narrows_further : (clauses : List (List Lit)) (a b c : List (Option Bool)) → Narrows clauses a b → Narrows clauses b c → Narrows clauses a c
narrows_further clauses a b c first next =
    record {
      size = next.size ∙ first.size;
      grown = λ f ext. first.grown f (next.grown f ext);
      forced = λ f all ext. next.forced f all (first.forced f all ext);
      fewer = omega arith;
    }

pub passed_none : (clauses : List (List Lit)) (ms : List (Option Bool)) → Passed clauses [] ms ms None false
passed_none clauses ms =
    record { narrows = narrows_nothing clauses ms; counted = λ changed. absurd (false≢true changed); rests = λ f ext. refl }

rests_satisfied : (front : List (List Lit)) (ms : List (Option Bool)) (unset : Option ℕ) (changed : Bool) (c : List Lit)
    → ((f : ℕ → Bool) → Extends f ms → some_true f c ≡ true) → Rests front ms unset changed → Rests (front ++ c ∷ []) ms unset changed
rests_satisfied front ms None changed c is rests =
    λ f ext. all_true-push f front c ∙ and_from (all_true f front) (some_true f c) (rests f ext) (is f ext)
rests_satisfied front ms (Some var) changed c is rests = rests

pub passed_satisfied : (clauses front : List (List Lit)) (old new : List (Option Bool)) (unset : Option ℕ) (changed : Bool) (c : List Lit)
    → ((f : ℕ → Bool) → Extends f new → some_true f c ≡ true)
    → Passed clauses front old new unset changed → Passed clauses (front ++ c ∷ []) old new unset changed
passed_satisfied clauses front old new unset changed c is passed =
    record { narrows = passed.narrows; counted = passed.counted; rests = rests_satisfied front new unset changed c is passed.rests }

rests_open : (front : List (List Lit)) (ms : List (Option Bool)) (unset : Option ℕ) (changed : Bool) (c : List Lit) (var : ℕ)
    → IsOpen ms var → Rests front ms unset changed → Rests (front ++ c ∷ []) ms (option_or unset (Some var)) changed
rests_open front ms None changed c var is_open rests = λ _. is_open
rests_open front ms (Some q) changed c var is_open rests = rests

pub passed_open : (clauses front : List (List Lit)) (old new : List (Option Bool)) (unset : Option ℕ) (changed : Bool) (c : List Lit) (var : ℕ)
    → IsOpen new var
    → Passed clauses front old new unset changed → Passed clauses (front ++ c ∷ []) old new (option_or unset (Some var)) changed
passed_open clauses front old new unset changed c var is_open passed =
    record { narrows = passed.narrows; counted = passed.counted; rests = rests_open front new unset changed c var is_open passed.rests }

-- a clause that leaves its literal no other value
narrows_unit : (clauses : List (List Lit)) (ms : List (Option Bool)) (c : List Lit) (l : Lit)
    → Contains clauses c → IsOpen ms l.var → ((f : ℕ → Bool) → Extends f ms → some_true f c ≡ lit_true f l)
    → Narrows clauses ms (set ms l.var (Some (not l.neg)))
narrows_unit clauses ms c l has is_open unit =
    record {
      size = length-set ms l.var (Some (not l.neg));
      grown = λ f ext. Extends_before_set f ms l.var (not l.neg) is_open.empty ext;
      forced =
          λ f all ext.
          Extends-set f ms l.var (not l.neg) is_open.exists ext
          (value_from_lit_true f l (sym (unit f ext) ∙ some_true_from_all f clauses c all has));
      fewer = let one_less = open_count-set ms l.var (not l.neg) is_open.exists is_open.empty in omega (arith, one_less);
    }

rests_unit : (front : List (List Lit)) (ms : List (Option Bool)) (unset : Option ℕ) (changed : Bool) (c : List Lit) (l : Lit)
    → IsOpen ms l.var → ((f : ℕ → Bool) → Extends f ms → some_true f c ≡ lit_true f l)
    → Rests front ms unset changed → Rests (front ++ c ∷ []) (set ms l.var (Some (not l.neg))) unset true
rests_unit front ms None changed c l is_open unit rests =
    λ f ext.
    let before = Extends_before_set f ms l.var (not l.neg) is_open.empty ext in
    all_true-push f front c
    ∙ and_from (all_true f front) (some_true f c) (rests f before)
    (unit f before ∙ lit_true_from_value f l (value_from_Extends f ms l.var (not l.neg) is_open.exists ext))
rests_unit front ms (Some q) changed c l is_open unit rests = λ same. absurd (true≢false same)

pub passed_unit : (clauses front : List (List Lit)) (old new : List (Option Bool)) (unset : Option ℕ) (changed : Bool) (c : List Lit) (l : Lit)
    → Contains clauses c → IsOpen new l.var → ((f : ℕ → Bool) → Extends f new → some_true f c ≡ lit_true f l)
    → Passed clauses front old new unset changed → Passed clauses (front ++ c ∷ []) old (set new l.var (Some (not l.neg))) unset true
passed_unit clauses front old new unset changed c l has is_open unit passed =
    let one_less = open_count-set new l.var (not l.neg) is_open.exists is_open.empty in
    record {
      narrows = narrows_further clauses old new (set new l.var (Some (not l.neg))) passed.narrows (narrows_unit clauses new c l has is_open unit);
      counted = λ _. omega (arith, one_less, passed.narrows.fewer);
      rests = rests_unit front new unset changed c l is_open unit passed.rests;
    }

-- a clause with no true literal left
pub conflict : (clauses front : List (List Lit)) (old new : List (Option Bool)) (unset : Option ℕ) (changed : Bool) (c : List Lit)
    → Contains clauses c → ((f : ℕ → Bool) → Extends f new → some_true f c ≡ false)
    → Passed clauses front old new unset changed → Refutes clauses old
conflict clauses front old new unset changed c has fails passed f ext =
    false_from_ne_true (all_true f clauses)
    (λ all.
    false≢true (sym (fails f (passed.narrows.forced f all ext)) ∙ some_true_from_all f clauses c all has))

-- the same at a place of the clauses
one_more : (clauses : List (List Lit)) (i : ℕ) (d c : List Lit)
    → i < length clauses → c ≡ get_or clauses i d → take i clauses ++ c ∷ [] ≡ take (i + 1) clauses
one_more clauses i d c inside is = ap (λ q. take i clauses ++ q ∷ []) is ∙ sym (take_more clauses i d inside)

contains_at : (clauses : List (List Lit)) (i : ℕ) (d c : List Lit) → i < length clauses → c ≡ get_or clauses i d → Contains clauses c
contains_at clauses i d c inside is = subst (Contains clauses) (sym is) (Contains-get_or clauses i d inside)

pub pass_satisfied : (clauses : List (List Lit)) (old new : List (Option Bool)) (unset : Option ℕ) (changed : Bool) (i : ℕ) (d c : List Lit)
    → i < length clauses → c ≡ get_or clauses i d → ((f : ℕ → Bool) → Extends f new → some_true f c ≡ true)
    → Passed clauses (take i clauses) old new unset changed → Passed clauses (take (i + 1) clauses) old new unset changed
pass_satisfied clauses old new unset changed i d c inside same is passed =
    subst (λ front. Passed clauses front old new unset changed) (one_more clauses i d c inside same)
    (passed_satisfied clauses (take i clauses) old new unset changed c is passed)

pub pass_open : (clauses : List (List Lit)) (old new : List (Option Bool)) (unset : Option ℕ) (changed : Bool) (i : ℕ) (d c : List Lit) (var : ℕ)
    → i < length clauses → c ≡ get_or clauses i d → IsOpen new var
    → Passed clauses (take i clauses) old new unset changed → Passed clauses (take (i + 1) clauses) old new (option_or unset (Some var)) changed
pass_open clauses old new unset changed i d c var inside same is_open passed =
    subst (λ front. Passed clauses front old new (option_or unset (Some var)) changed) (one_more clauses i d c inside same)
    (passed_open clauses (take i clauses) old new unset changed c var is_open passed)

pub pass_unit : (clauses : List (List Lit)) (old new : List (Option Bool)) (unset : Option ℕ) (changed : Bool) (i : ℕ) (d c : List Lit) (l : Lit)
    → i < length clauses → c ≡ get_or clauses i d
    → IsOpen new l.var × ((f : ℕ → Bool) → Extends f new → some_true f c ≡ lit_true f l)
    → Passed clauses (take i clauses) old new unset changed
    → Passed clauses (take (i + 1) clauses) old (set new l.var (Some (not l.neg))) unset true
pass_unit clauses old new unset changed i d c l inside same unit passed =
    subst (λ front. Passed clauses front old (set new l.var (Some (not l.neg))) unset true) (one_more clauses i d c inside same)
    (passed_unit clauses (take i clauses) old new unset changed c l (contains_at clauses i d c inside same) unit.0 unit.1 passed)

pub pass_conflict : (clauses : List (List Lit)) (old new : List (Option Bool)) (unset : Option ℕ) (changed : Bool) (i : ℕ) (d c : List Lit)
    → i < length clauses → c ≡ get_or clauses i d → ((f : ℕ → Bool) → Extends f new → some_true f c ≡ false)
    → Passed clauses (take i clauses) old new unset changed → Refutes clauses old
pass_conflict clauses old new unset changed i d c inside same fails passed =
    conflict clauses (take i clauses) old new unset changed c (contains_at clauses i d c inside same) fails passed
