-- What comes after the propagation.
use Rattle.std.proofs.Common.{sym, subst, ap, ◌∙◌}
use Rattle.sat_base.specs.Logic.{ClausesBelow, LitsBelow}
use Rattle.sat_trail.specs.Decided.{IsChoice, Agrees}
use Rattle.sat_trail.specs.declared.decisions.Choice.TheVariants.{Full}
use Rattle.sat_cdcl.specs.declared.turn.Advance.TheVariants.{Decided}
use Rattle.sat_cdcl.specs.Answered.{IsAdvance}
use Rattle.sat_cdcl.proofs.SearchLemmas.{clash_of, advance_after, rises_decided, refuted_some}
use Rattle.sat_cdcl.proofs.turn.take_turn.Goals as goal

pub returns-then-is_some-clause-turn : goal.returns-then-is_some-clause-turn
returns-then-is_some-clause-turn c =
    clash_of c.args.search.now.clauses.given c.args.assumed.now _ _ c.in_ok-conflict.ensures.0
    (refuted_some c.in_ok-conflict.conflict _ c.in_ok-conflict.ensures.1 (sym c.is_some.ensures ∙ c.if-is_some.true))

pub returns-in-Made-clause-turn : goal.returns-in-Made-clause-turn
returns-in-Made-clause-turn c =
    advance_after c.args.search.now.clauses.given c.args.assumed.now _ _ _ Decided c.in_ok-conflict.ensures.0
    (rises_decided c.args.search.now.clauses.given c.args.assumed.now _ _ (rw c.in-Made.is at c.in_ok-choice.ensures))

pub judge-requires : goal.judge-requires
judge-requires c =
    let full : IsChoice c.settle.new.trail c.decide.new.trail (Full c.in-Full.values) = rw c.in-Full.is at c.in_ok-choice.ensures in
    let vars = ap (λ t. t.vars) full.0 ∙ c.in_ok-conflict.ensures.0.vars in
    record {
      clauses = subst (λ n. ClausesBelow n c.args.search.now.clauses.given) (sym vars) c.requires.clauses;
      assumed = subst (λ n. LitsBelow n c.args.assumed.now) (sym vars) c.requires.assumed;
      values = subst (λ t. Agrees t c.in-Full.values.items) (sym full.0) full.1;
    }

pub returns-in-Full-clause-turn : goal.returns-in-Full-clause-turn
returns-in-Full-clause-turn c =
    let full : IsChoice c.settle.new.trail c.decide.new.trail (Full c.in-Full.values) = rw c.in-Full.is at c.in_ok-choice.ensures in
    advance_after c.args.search.now.clauses.given c.args.assumed.now _ _ _ _ c.in_ok-conflict.ensures.0
    (subst (λ t. IsAdvance c.args.search.now.clauses.given c.args.assumed.now t c.decide.new.trail c.judge.result) full.0 c.judge.ensures)
