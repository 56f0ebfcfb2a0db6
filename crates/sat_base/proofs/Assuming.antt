-- Assumed literals, put among the marks one after the other.

use Rattle.std.proofs.Common.{◌≡◌, ℕ, ◌+◌, ◌<◌, ◌≤◌, Bool, true, false, not, ◌&&◌, List, [], ◌∷◌, ◌++◌, length, length-set, take, take_all, set, get_or, Option, None, Some, replicate, refl, sym, subst, ap, ◌∙◌, ⊎_elim, arith, MatchOption}
use Rattle.std.proofs.lemmas.List.{take_more, get_or-replicate, get_or_past, length-replicate}
use Rattle.std.proofs.lemmas.List.Folds.{list_all-append, list_all_at}
use Rattle.std.proofs.lemmas.Bool.{and_from, and_parts, and_right, cases_lt, false_from_ne_true, true_from_ne_false, false≢true}
use Rattle.sat_base.specs.declared.literal.Lit.{Lit}
use Rattle.sat_base.specs.Logic.{at, lit_true, each_true, all_true, satisfied, LitsBelow}
use Rattle.sat_base.specs.Marks.{mark, Extends, lit_mark}
use Rattle.sat_base.specs.Propagation.{Refutes, Completes, IsAssumed}
use Rattle.sat_base.proofs.Marking.{Extends-set, Extends_before_set, value_from_Extends, lit_true-marked, mark_from_lit_mark, value_from_lit_true, lit_true_from_value, and-true}

-- so far: the literals of the front are true, and whoever makes all assumed ones true has these marks
pub record Assumed (assumed front : List Lit) (old new : List (Option Bool)) : Type 0 where
  pub size : length new ≡ length old
  pub true_so_far : (f : ℕ → Bool) → Extends f new → each_true f front ≡ true
  pub forced : (f : ℕ → Bool) → each_true f assumed ≡ true → Extends f old → Extends f new

pub assumed_none : (assumed : List Lit) (ms : List (Option Bool)) → Assumed assumed [] ms ms
assumed_none assumed ms = record { size = refl; true_so_far = λ f ext. refl; forced = λ f all ext. ext }

each_true-push : (f : ℕ → Bool) (front : List Lit) (l : Lit) → each_true f (front ++ l ∷ []) ≡ (each_true f front && lit_true f l)
each_true-push f front l = list_all-append (lit_true f) front (l ∷ []) ∙ ap (λ b. each_true f front && b) (and-true (lit_true f l))

each_true-more : (f : ℕ → Bool) (assumed : List Lit) (i : ℕ) (d : Lit) → i < length assumed
    → each_true f (take i assumed) ≡ true → lit_true f (get_or assumed i d) ≡ true → each_true f (take (i + 1) assumed) ≡ true
each_true-more f assumed i d inside front here =
    ap (each_true f) (take_more assumed i d inside)
    ∙ each_true-push f (take i assumed) (get_or assumed i d)
    ∙ and_from (each_true f (take i assumed)) (lit_true f (get_or assumed i d)) front here

lit_true_at : (f : ℕ → Bool) (assumed : List Lit) (i : ℕ) (d : Lit) → i < length assumed → each_true f assumed ≡ true → lit_true f (get_or assumed i d) ≡ true
lit_true_at f assumed i d inside all =
    true_from_ne_false (lit_true f (get_or assumed i d)) (λ fails. false≢true (sym (list_all_at (lit_true f) assumed i d inside fails) ∙ all))

pub assume_true : (assumed : List Lit) (old new : List (Option Bool)) (i : ℕ) (d : Lit) (b : Bool)
    → i < length assumed → Some b ≡ lit_mark new (get_or assumed i d) → b ≡ true
    → Assumed assumed (take i assumed) old new → Assumed assumed (take (i + 1) assumed) old new
assume_true assumed old new i d b inside is value so_far =
    record {
      size = so_far.size;
      true_so_far =
          λ f ext.
          each_true-more f assumed i d inside (so_far.true_so_far f ext)
          (lit_true-marked f new (get_or assumed i d) true ext (sym is ∙ ap Some value));
      forced = so_far.forced;
    }

pub assume_open : (assumed : List Lit) (old new : List (Option Bool)) (i : ℕ) (d : Lit)
    → i < length assumed → LitsBelow (length old) assumed → None ≡ lit_mark new (get_or assumed i d)
    → Assumed assumed (take i assumed) old new
    → Assumed assumed (take (i + 1) assumed) old (set new (get_or assumed i d).var (Some (not (get_or assumed i d).neg)))
assume_open assumed old new i d inside below is so_far =
    let l = get_or assumed i d in
    let exists : l.var < length new = subst (λ n. l.var < n) (sym so_far.size) (below i d inside) in
    let empty = mark_from_lit_mark new l (sym is) in
    record {
      size = length-set new l.var (Some (not l.neg)) ∙ so_far.size;
      true_so_far =
          λ f ext.
          each_true-more f assumed i d inside (so_far.true_so_far f (Extends_before_set f new l.var (not l.neg) empty ext))
          (lit_true_from_value f l (value_from_Extends f new l.var (not l.neg) exists ext));
      forced =
          λ f all ext.
          Extends-set f new l.var (not l.neg) exists (so_far.forced f all ext)
          (value_from_lit_true f l (lit_true_at f assumed i d inside all));
    }

pub assume_false : (assumed : List Lit) (old new : List (Option Bool)) (i : ℕ) (d : Lit) (b : Bool)
    → i < length assumed → Some b ≡ lit_mark new (get_or assumed i d) → b ≡ false
    → Assumed assumed (take i assumed) old new → IsAssumed assumed old new false
assume_false assumed old new i d b inside is value so_far f ext =
    false_from_ne_true (each_true f assumed)
    (λ all.
    let here = lit_true-marked f new (get_or assumed i d) false (so_far.forced f all ext) (sym is ∙ ap Some value) in
    false≢true (sym here ∙ lit_true_at f assumed i d inside all))

pub assume_all : (assumed : List Lit) (old new : List (Option Bool)) (i : ℕ) → length assumed ≡ i
    → Assumed assumed (take i assumed) old new → IsAssumed assumed old new true
assume_all assumed old new i all so_far = (
  so_far.size,
  (λ f ext. ap (each_true f) (sym (take_all i assumed (omega (arith, all)))) ∙ so_far.true_so_far f ext),
  so_far.forced,
)

-- nothing is assumed of variables without values
pub extends_nothing : (f : ℕ → Bool) (n : ℕ) → Extends f (replicate n None)
unfolding mark
extends_nothing f n var value is =
    ⊎_elim
    (λ inside. let none : None ≡ Some value = sym (get_or-replicate n var None None inside) ∙ is in cc)
    (λ past. let none : None ≡ Some value = sym (get_or_past (replicate n None) var None (subst (λ k. k ≤ var) (sym (length-replicate n None)) past)) ∙ is in cc)
    (cases_lt var n)

-- assumptions that disagree
pub refuted_assumed : (n : ℕ) (clauses : List (List Lit)) (assumed : List Lit) (marks : List (Option Bool))
    → IsAssumed assumed (replicate n None) marks false → (f : ℕ → Bool) → satisfied f clauses assumed ≡ false
refuted_assumed n clauses assumed marks fails f =
    and_right (all_true f clauses) (each_true f assumed) (fails f (extends_nothing f n))

-- no completion
pub refuted_search : (n : ℕ) (clauses : List (List Lit)) (assumed : List Lit) (marks : List (Option Bool))
    → IsAssumed assumed (replicate n None) marks true → Refutes clauses marks → (f : ℕ → Bool) → satisfied f clauses assumed ≡ false
refuted_search n clauses assumed marks is_assumed refutes f =
    false_from_ne_true (satisfied f clauses assumed)
    (λ all.
    let parts = and_parts (all_true f clauses) (each_true f assumed) all in
    false≢true (sym (refutes f (is_assumed.2 f parts.1 (extends_nothing f n))) ∙ parts.0))

pub satisfied_search : (n : ℕ) (clauses : List (List Lit)) (assumed : List Lit) (marks : List (Option Bool)) (values : List Bool)
    → IsAssumed assumed (replicate n None) marks true → Completes clauses marks values → satisfied (at values) clauses assumed ≡ true
satisfied_search n clauses assumed marks values is_assumed completes =
    and_from (all_true (at values) clauses) (each_true (at values) assumed) completes.satisfied (is_assumed.1 (at values) completes.agrees)

pub answered_search : (X : Type 0) (items : X → List Bool) (n : ℕ) (clauses : List (List Lit)) (assumed : List Lit) (marks : List (Option Bool)) (found : Option X)
    → IsAssumed assumed (replicate n None) marks true
    → MatchOption found (Refutes clauses marks) (λ x. Completes clauses marks (items x))
    → MatchOption found ((f : ℕ → Bool) → satisfied f clauses assumed ≡ false) (λ x. (length (items x) ≡ n) × (satisfied (at (items x)) clauses assumed ≡ true))
answered_search X items n clauses assumed marks None is_assumed search = refuted_search n clauses assumed marks is_assumed search
answered_search X items n clauses assumed marks (Some x) is_assumed search =
    (search.size ∙ is_assumed.0 ∙ length-replicate n None, satisfied_search n clauses assumed marks (items x) is_assumed search)
