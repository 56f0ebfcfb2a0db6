-- Both values of an open variable, and what a narrowed partial assignment says of the one before.

use Rattle.std.proofs.Common.{◌≡◌, ℕ, ◌<◌, Bool, true, false, List, length, length-set, map, set, get_or, Option, None, Some, unwrap_or, MatchOption, sym, subst, ap, ◌∙◌, ⊎_elim, arith}
use Rattle.std.proofs.lemmas.List.{get_or-map, get_or_past, length-map}
use Rattle.std.proofs.lemmas.Bool.{cases_lt, cases_Bool, false_from_ne_true, false≢true}
use Rattle.sat_base.specs.declared.literal.Lit.{Lit}
use Rattle.sat_base.specs.Logic.{at, all_true, ClausesBelow}
use Rattle.sat_base.specs.Marks.{mark, Extends, open_count}
use Rattle.sat_base.specs.Propagation.{IsOpen, Narrows, Refutes, Satisfies, Completes}
use Rattle.sat_base.proofs.Marking.{Extends-set, Extends_before_set, open_count-set}

-- values given to the others change none of those that are there
agrees_filled : (ms : List (Option Bool)) (values : List Bool) → values ≡ map (λ m. unwrap_or m false) ms → Extends (at values) ms
unfolding at mark
agrees_filled ms values is var value has =
    ⊎_elim
    (λ inside.
    ap (λ vs. get_or vs var false) is
    ∙ get_or-map (λ m. unwrap_or m false) ms var None false inside
    ∙ ap (λ m. unwrap_or m false) has)
    (λ past. let none : None ≡ Some value = sym (get_or_past ms var None past) ∙ has in cc)
    (cases_lt var (length ms))

pub completes_filled : (clauses : List (List Lit)) (old new : List (Option Bool)) (values : List Bool)
    → Narrows clauses old new → Satisfies clauses new → values ≡ map (λ m. unwrap_or m false) new → Completes clauses old values
completes_filled clauses old new values narrows satisfies is =
    let agrees = agrees_filled new values is in
    record {
      size = ap length is ∙ length-map new (λ m. unwrap_or m false) ∙ narrows.size;
      agrees = narrows.grown (at values) agrees;
      satisfied = satisfies (at values) agrees;
    }

pub completes_split : (clauses : List (List Lit)) (old new : List (Option Bool)) (var : ℕ) (b : Bool) (values : List Bool)
    → Narrows clauses old new → IsOpen new var → Completes clauses (set new var (Some b)) values → Completes clauses old values
completes_split clauses old new var b values narrows is_open completes =
    record {
      size = completes.size ∙ length-set new var (Some b) ∙ narrows.size;
      agrees = narrows.grown (at values) (Extends_before_set (at values) new var b is_open.empty completes.agrees);
      satisfied = completes.satisfied;
    }

pub refutes_split : (clauses : List (List Lit)) (old new : List (Option Bool)) (var : ℕ)
    → Narrows clauses old new → IsOpen new var
    → Refutes clauses (set new var (Some false)) → Refutes clauses (set new var (Some true)) → Refutes clauses old
refutes_split clauses old new var narrows is_open without with' f ext =
    false_from_ne_true (all_true f clauses)
    (λ all.
    let ext' = narrows.forced f all ext in
    ⊎_elim
    (λ yes'. false≢true (sym (with' f (Extends-set f new var true is_open.exists ext' yes')) ∙ all))
    (λ no'. false≢true (sym (without f (Extends-set f new var false is_open.exists ext' no')) ∙ all))
    (cases_Bool (f var)))

pub open_count-split : (clauses : List (List Lit)) (old new : List (Option Bool)) (var : ℕ) (b : Bool)
    → Narrows clauses old new → IsOpen new var → open_count (set new var (Some b)) < open_count old
open_count-split clauses old new var b narrows is_open =
    let one_less = open_count-set new var b is_open.exists is_open.empty in omega (arith, one_less, narrows.fewer)

pub below_split : (clauses : List (List Lit)) (old new : List (Option Bool)) (var : ℕ) (b : Bool)
    → Narrows clauses old new → ClausesBelow (length old) clauses → ClausesBelow (length (set new var (Some b))) clauses
below_split clauses old new var b narrows below =
    subst (λ n. ClausesBelow n clauses) (sym (length-set new var (Some b) ∙ narrows.size)) below

-- where one value has no completion, those of the other are all there are
pub settles_split : (X : Type 0) (items : X → List Bool) (clauses : List (List Lit)) (old new : List (Option Bool)) (var : ℕ) (found : Option X)
    → Narrows clauses old new → IsOpen new var → Refutes clauses (set new var (Some false))
    → MatchOption found (Refutes clauses (set new var (Some true))) (λ x. Completes clauses (set new var (Some true)) (items x))
    → MatchOption found (Refutes clauses old) (λ x. Completes clauses old (items x))
settles_split X items clauses old new var None narrows is_open without with' = refutes_split clauses old new var narrows is_open without with'
settles_split X items clauses old new var (Some x) narrows is_open without with' =
    completes_split clauses old new var true (items x) narrows is_open with'
