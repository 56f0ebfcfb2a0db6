-- A given clause holds where all do, and so does a learnt one. Both are known.
use Rattle.std.proofs.Common.{◌≡◌, ◌≤◌, length, slice_get, Some, MatchOption, subst, ap, ◌∙◌}
use Rattle.sat_base.specs.Logic.{all_true}
use Rattle.sat_clauses.specs.Held.{clauses_of}
use Rattle.sat_clauses.proofs.HeldLemmas.{entailed_at, entailed_by}
use Rattle.sat_clauses.proofs.CertifiedLemmas.{known_at, known_by}
use Rattle.sat_clauses.proofs.held.Clauses.get.Goals as goal

pub returns-in-Given-clause-entailed : goal.returns-in-Given-clause-entailed
returns-in-Given-clause-entailed c =
    entailed_at (λ b. b.now) c.args.self.now.given _ c.in-Given.i _ _
    (λ f all. ap (all_true f) (ap (clauses_of c.self.inside.pool) c.as_slice.ensures.value ∙ ap (λ s. s.given) c.self.view_is) ∙ all)
    c.clause_at.ensures

pub returns-in-Given-clause-known : goal.returns-in-Given-clause-known
returns-in-Given-clause-known c =
    known_at (λ b. b.now) c.args.self.now c.in-Given.i _ c.clause_at.result
    (subst (λ cs. MatchOption c.clause_at.result (length c.as_slice.result.now ≤ c.in-Given.i) (λ b. slice_get cs c.in-Given.i ≡ Some b.now))
    (ap (clauses_of c.self.inside.pool) c.as_slice.ensures.value ∙ ap (λ s. s.given) c.self.view_is) c.clause_at.ensures)

pub returns-in-Learnt-clause-entailed : goal.returns-in-Learnt-clause-entailed
returns-in-Learnt-clause-entailed c =
    entailed_by (λ b. b.now) c.args.self.now.given c.self.inside.learnt c.in-Learnt.i c.get.result
    (λ f all. c.self.invariant.0.entailed f (ap (all_true f) (ap (λ s. s.given) c.self.view_is) ∙ all) c.in-Learnt.i) c.get.ensures

pub returns-in-Learnt-clause-known : goal.returns-in-Learnt-clause-known
returns-in-Learnt-clause-known c =
    known_by (λ b. b.now) c.args.self.now c.self.inside.learnt c.in-Learnt.i c.get.result (ap (λ s. s.learnt) c.self.view_is) c.get.ensures
