-- The two values of an open variable.
use Rattle.std.proofs.Common.{◌≡◌, ◌<◌, length, set, Some, true, false, MatchOption, sym, subst, ◌∙◌, arith}
use Rattle.sat_base.specs.Logic.{ClausesBelow}
use Rattle.sat_base.specs.Marks.{open_count}
use Rattle.sat_base.specs.Propagation.{Refutes, Completes}
use Rattle.sat_base.proofs.Splitting.{completes_filled, completes_split, settles_split, open_count-split, below_split}
use Rattle.sat_base.proofs.split.+search.Goals as goal

pub search-requires : goal.search-requires
search-requires t c =
    let copy : c.as_mut_slice.result.now ≡ set c.propagate.new.marks c.in-Open.var (Some false) = c.as_mut_slice.ensures.value ∙ c.in_ok-without-in-Open.ensures in
    let fewer : open_count c.as_mut_slice.result.now < open_count c.args.marks.now =
    rw copy (open_count-split _ _ _ _ _ c.in-Open.ensures.0 c.in-Open.ensures.1) in (
      omega (arith, fewer, c.decreases),
      subst (λ marks. ClausesBelow (length marks) c.args.clauses.now) (sym copy) (below_split _ _ _ _ _ c.in-Open.ensures.0 c.requires),
    )

pub search-requires-in-Open : goal.search-requires-in-Open
search-requires-in-Open t c =
    let copy : c.as_mut_slice-in-Open.result.now ≡ set c.propagate.new.marks c.in-Open.var (Some true) = c.as_mut_slice-in-Open.ensures.value ∙ c.in_ok-with-in-Open.ensures in
    let fewer : open_count c.as_mut_slice-in-Open.result.now < open_count c.args.marks.now =
    rw copy (open_count-split _ _ _ _ _ c.in-Open.ensures.0 c.in-Open.ensures.1) in (
      omega (arith, fewer, c.decreases),
      subst (λ marks. ClausesBelow (length marks) c.args.clauses.now) (sym copy) (below_split _ _ _ _ _ c.in-Open.ensures.0 c.requires),
    )

pub returns-in-Some : goal.returns-in-Some
returns-in-Some t c =
    let copy : c.as_mut_slice.result.now ≡ set c.propagate.new.marks c.in-Open.var (Some false) = c.as_mut_slice.ensures.value ∙ c.in_ok-without-in-Open.ensures in
    let found : Completes c.args.clauses.now c.as_mut_slice.result.now c.in-Some.values.items = rw c.in-Some.is at c.in_ok-values-in-Open.ensures in
    completes_split _ _ _ _ _ _ c.in-Open.ensures.0 c.in-Open.ensures.1 (subst (λ marks. Completes c.args.clauses.now marks c.in-Some.values.items) copy found)

pub returns-in_ok-values-in-Satisfied : goal.returns-in_ok-values-in-Satisfied
returns-in_ok-values-in-Satisfied t c = completes_filled _ _ _ _ c.in-Satisfied.ensures.0 c.in-Satisfied.ensures.1 c.in_ok-values-in-Satisfied.ensures

pub returns-in_ok-found-in-Open : goal.returns-in_ok-found-in-Open
returns-in_ok-found-in-Open t c =
    let clauses = c.args.clauses.now in
    let found = c.in_ok-found-in-Open.found in
    let without : c.as_mut_slice.result.now ≡ set c.propagate.new.marks c.in-Open.var (Some false) =
    c.as_mut_slice.ensures.value ∙ c.in_ok-without-in-Open.ensures in
    let with' : c.as_mut_slice-in-Open.result.now ≡ set c.propagate.new.marks c.in-Open.var (Some true) =
    c.as_mut_slice-in-Open.ensures.value ∙ c.in_ok-with-in-Open.ensures in
    let none : Refutes clauses c.as_mut_slice.result.now = rw c.in_default.is at c.in_ok-values-in-Open.ensures in
    settles_split _ (λ values. values.items) clauses _ _ c.in-Open.var found c.in-Open.ensures.0 c.in-Open.ensures.1
    (subst (Refutes clauses) without none)
    (subst (λ marks. MatchOption found (Refutes clauses marks) (λ values. Completes clauses marks values.items)) with' c.in_ok-found-in-Open.ensures)
