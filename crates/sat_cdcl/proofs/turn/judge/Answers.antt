-- The values are tested.
use Rattle.std.proofs.Common.{sym, ap, ◌∙◌}
use Rattle.sat_base.specs.Logic.{all_true, each_true, at}
use Rattle.sat_cdcl.proofs.SearchLemmas.{clash_clauses, clash_assumed}
use Rattle.sat_cdcl.proofs.turn.judge.Goals as goal

pub returns-in-Some : goal.returns-in-Some
returns-in-Some c =
    clash_clauses c.args.clauses.now.given c.args.assumed.now c.args.trail.now c.args.values.items c.requires.clauses c.requires.values
    (ap (λ v. all_true (at v) c.args.clauses.now.given) (sym c.as_slice.ensures.value) ∙ c.in-Some.ensures)

pub returns-then-not-meets_each : goal.returns-then-not-meets_each
returns-then-not-meets_each c =
    clash_assumed c.args.clauses.now.given c.args.assumed.now c.args.trail.now c.args.values.items c.requires.assumed c.requires.values
    (ap (λ v. each_true (at v) c.args.assumed.now) (sym c.as_slice-2.ensures.value) ∙ sym c.if-not-meets_each.ensures)
