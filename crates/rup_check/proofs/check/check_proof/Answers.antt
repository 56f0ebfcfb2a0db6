-- One step after the other, and the end.
use Rattle.std.proofs.Common.{◌<◌, ◌≤◌, ℕ, Bool, length, sym, subst, ap, ◌∙◌, arith}
use Rattle.sat_base.specs.declared.certificate.Step.{Step}
use Rattle.sat_base.specs.Certificates.{IsStep}
use Rattle.rup_check.specs.Stored.{present, StoredBelow}
use Rattle.rup_check.specs.Stepping.{IsTaken, end_of}
use Rattle.rup_check.proofs.SteppingLemmas.{reaches_more, reaches_all, refused_at, ended}
use Rattle.rup_check.proofs.check.check_proof.Goals as goal

pub returns-then-not-branch : goal.returns-then-not-branch
returns-then-not-branch c =
    let now = present c.loop-k.store in
    let inside : c.loop-k.k < length c.args.steps.now.items = omega (arith, c.loop-k-test.true, c.len-k-end.ensures, c.args.steps.now.ok.0) in
    let bars = subst (λ (b : Bool). IsTaken now c.index.result.now (present c.take_step.new.store) b) c.if-not-branch.true c.in_ok-take_step.ensures.taken in
    refused_at c.args.clauses.now c.args.steps.now.items c.loop-k.k c.index.result.now now inside c.loop-k.invariant.reached
    (λ next step. bars next (subst (λ (s : Step). IsStep now s next) (sym c.index.ensures) step))

pub loop-k-preserved : goal.loop-k-preserved
loop-k-preserved c =
    let now = present c.loop-k.store in
    let next = present c.take_step.new.store in
    let inside : c.loop-k.k < length c.args.steps.now.items = omega (arith, c.loop-k-test.true, c.len-k-end.ensures, c.args.steps.now.ok.0) in
    let step = subst (λ (b : Bool). IsTaken now c.index.result.now next b) c.if-not-branch.false c.in_ok-take_step.ensures.taken in
    record {
      same = c.take_step.ensures.vars ∙ c.loop-k.invariant.same;
      low = subst (λ (n : ℕ). StoredBelow n c.take_step.new.store) c.loop-k.invariant.same c.in_ok-take_step.ensures.stored;
      reached = reaches_more c.args.clauses.now c.args.steps.now.items c.loop-k.k c.index.result.now now next inside c.loop-k.invariant.reached
          (subst (λ (s : Step). IsStep now s next) c.index.ensures step);
    }

pub returns : goal.returns
returns c =
    let over : length c.args.steps.now.items ≤ c.loop-k.k = omega (arith, c.loop-k-test.false, c.len-k-end.ensures, c.args.steps.now.ok.0) in
    ended c.args.clauses.now c.args.steps.now.items (present c.loop-k.store) c.end_of.result
    (reaches_all c.args.clauses.now c.args.steps.now.items c.loop-k.k (present c.loop-k.store) over c.loop-k.invariant.reached)
    (c.end_of.ensures ∙ ap end_of c.deref.ensures.value)
