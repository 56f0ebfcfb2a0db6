-- With a decision the trail rises, and with none nothing satisfies all.
use Rattle.std.proofs.Common.{◌≡◌, ◌<◌, ◌+◌, false, length, drop, slice_get, Some, subst, sym}
use Rattle.sat_trail.specs.declared.trail.Step.{Step}
use Rattle.sat_trail.specs.Steps.{AllImplied}
use Rattle.sat_cdcl.specs.Answered.{Clashes, Rises}
use Rattle.sat_cdcl.proofs.SearchLemmas.{none_of}
use Rattle.sat_cdcl.proofs.ResolventLemmas.{when_true, when_false}
use Rattle.sat_cdcl.proofs.conflict.resolve.Goals as goal

pub returns-in-None-clause-progress : goal.returns-in-None-clause-progress
returns-in-None-clause-progress c assumed clashes follow = none_of c.args.search.now.clauses.given assumed c.args.search.now.trail.steps c.in-None.ensures clashes follow

pub returns-then-jumped-clause-progress : goal.returns-then-jumped-clause-progress
returns-then-jumped-clause-progress c assumed clashes = when_true c.in_ok-jumped.jumped _ _ c.if-jumped.true c.in_ok-jumped.ensures.jumped assumed

pub flip_last-requires : goal.flip_last-requires
flip_last-requires c =
    let same = when_false c.in_ok-jumped.jumped _ _ c.if-jumped.false c.in_ok-jumped.ensures.jumped in
    let last = c.in-Some.last in
    record {
      inside = subst (λ t. last < length t.steps) (sym same) c.in-Some.ensures.0;
      decision = subst (λ t. (s : Step) → slice_get t.steps last ≡ Some s → s.implied ≡ false) (sym same) c.in-Some.ensures.1;
      last = subst (λ t. AllImplied (drop (last + 1) t.steps)) (sym same) c.in-Some.ensures.2;
    }

pub returns-clause-progress : goal.returns-clause-progress
returns-clause-progress c assumed clashes =
    let same = when_false c.in_ok-jumped.jumped _ _ c.if-jumped.false c.in_ok-jumped.ensures.jumped in
    subst (λ t. Rises c.args.search.now.clauses.given assumed t c.flip_last.new.trail) same
    (c.flip_last.ensures c.args.search.now.clauses.given assumed (subst (λ t. Clashes c.args.search.now.clauses.given assumed t.steps) (sym same) clashes))
