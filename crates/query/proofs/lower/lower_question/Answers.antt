-- The clauses are those of all bits, and the assumptions the goals, the first variable and not the last.
use Rattle.std.proofs.Common.{◌≡◌, ◌≤◌, ◌∷◌, [], ◌++◌, refl, sym, subst, ap, ◌∙◌, arith}
use Rattle.sat_base.specs.Logic.{LitsBelow}
use Rattle.query.specs.Lower.{on, off}
use Rattle.query.proofs.Lowering.{extends_same, extends_at, asks_at, below_more, below_question, goals_from}
use Rattle.query.proofs.lower.lower_question.Goals as goal

pub add_links-requires-clause-bits : goal.add_links-requires-clause-bits
add_links-requires-clause-bits g c = subst (λ n. LitsBelow n c.args.bits.now) (sym c.in_ok-first.ensures.ok.0) c.requires.bits

pub returns-in_err-question-clause-clauses : goal.returns-in_err-question-clause-clauses
returns-in_err-question-clause-clauses g c = extends_same _ _ _ refl

pub returns-in_err-first-clause-clauses : goal.returns-in_err-first-clause-clauses
returns-in_err-first-clause-clauses g c = extends_same _ _ _ c.in_err-first.ensures.clauses

pub returns-in_err-last-clause-clauses : goal.returns-in_err-last-clause-clauses
returns-in_err-last-clause-clauses g c =
    extends_at _ c.in_ok-first.first c.args.bits.now c.args.values.now _ _ _ c.in_ok-first.ensures.ok.0 c.in_ok-first.ensures.unused c.requires.bits
    c.requires.values c.in_ok-first.ensures.clauses c.add_links.ensures.begun

pub returns-in_err-push-clause-clauses : goal.returns-in_err-push-clause-clauses
returns-in_err-push-clause-clauses g c =
    extends_at _ c.in_ok-first.first c.args.bits.now c.args.values.now _ _ _ c.in_ok-first.ensures.ok.0 c.in_ok-first.ensures.unused c.requires.bits
    c.requires.values c.in_ok-first.ensures.clauses c.add_links.ensures.begun

pub returns-in_err-push-2-clause-clauses : goal.returns-in_err-push-2-clause-clauses
returns-in_err-push-2-clause-clauses g c =
    extends_at _ c.in_ok-first.first c.args.bits.now c.args.values.now _ _ _ c.in_ok-first.ensures.ok.0 c.in_ok-first.ensures.unused c.requires.bits
    c.requires.values c.in_ok-first.ensures.clauses c.add_links.ensures.begun

pub returns-clause-clauses : goal.returns-clause-clauses
returns-clause-clauses g c =
    extends_at _ c.in_ok-first.first c.args.bits.now c.args.values.now _ _ _ c.in_ok-first.ensures.ok.0 c.in_ok-first.ensures.unused c.requires.bits
    c.requires.values c.in_ok-first.ensures.clauses c.add_links.ensures.begun

pub returns-clause-asks : goal.returns-clause-asks
returns-clause-asks g c =
    let first = c.in_ok-first.first in
    let goals = c.args.goals.now in
    asks_at _ first c.args.bits.now goals c.args.values.now _ _ _ c.push-2.new.self.items c.in_ok-first.ensures.ok.0 c.in_ok-first.ensures.unused
    c.requires.bits c.requires.goals c.requires.values c.in_ok-first.ensures.clauses c.in_ok-last.ensures.ok
    (c.in_ok-push-2.ensures.items
    ∙ ap (λ ls. ls ++ off c.in_ok-last.last ∷ []) (c.in_ok-push.ensures.items ∙ ap (λ ls. ls ++ on first ∷ []) c.in_ok-question.ensures.items)
    ∙ ap (λ x. (goals ++ on first ∷ []) ++ off x ∷ []) c.in_ok-last.ensures.last.0)

pub returns-clause-goals : goal.returns-clause-goals
returns-clause-goals g c =
    let first = c.in_ok-first.first in
    goals_from c.args.goals.now _ (on first) (off c.in_ok-last.last)
    (c.in_ok-push-2.ensures.items
    ∙ ap (λ ls. ls ++ off c.in_ok-last.last ∷ []) (c.in_ok-push.ensures.items ∙ ap (λ ls. ls ++ on first ∷ []) c.in_ok-question.ensures.items))

pub returns-clause-below : goal.returns-clause-below
returns-clause-below g c =
    let first = c.in_ok-first.first in
    let grown = c.in_ok-last.ensures.vars in
    let one = c.in_ok-first.ensures.ok.1 in
    let here = c.in_ok-first.ensures.ok.0 in
    below_question _ c.args.goals.now _ (on first) (off c.in_ok-last.last)
    (c.in_ok-push-2.ensures.items
    ∙ ap (λ ls. ls ++ off c.in_ok-last.last ∷ []) (c.in_ok-push.ensures.items ∙ ap (λ ls. ls ++ on first ∷ []) c.in_ok-question.ensures.items))
    (below_more _ _ c.args.goals.now (omega (arith, grown, one)) c.requires.goals) (omega (arith, grown, one, here)) c.in_ok-last.ensures.last.1
