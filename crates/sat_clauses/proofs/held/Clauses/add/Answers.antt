-- A reference more, or one that is not noted.
use Rattle.std.proofs.Common.{◌++◌, ◌∷◌, [], sym, subst, ap, ◌∙◌}
use Rattle.sat_clauses.specs.Held.{clauses_of, IsHeld}
use Rattle.sat_clauses.specs.Certified.{IsRecorded}
use Rattle.sat_clauses.proofs.HeldLemmas.{kept, held_kept, held_given, clauses_of-push, on_err}
use Rattle.sat_clauses.proofs.CertifiedLemmas.{recorded_given}
use Rattle.sat_clauses.proofs.held.Clauses.add.Goals as goal

pub invariant_of-self-in_err-push : goal.invariant_of-self-in_err-push
invariant_of-self-in_err-push c =
    let same = (kept c.self.inside.pool c.put.new.self c.self.inside.given.items c.self.invariant.0.given_live c.put.ensures.kept).0 in (
      subst (λ given. IsHeld c.put.new.self given c.self.inside.learnt) (sym c.in_err-push.ensures.items)
          (held_kept c.self.inside.pool c.put.new.self c.self.inside.given.items c.self.inside.learnt c.put.ensures.kept c.self.invariant.0),
      subst (λ cs. IsRecorded cs c.self.inside.learnt c.self.inside.log) (sym (ap (clauses_of c.put.new.self) c.in_err-push.ensures.items ∙ same))
          c.self.invariant.1,
    )

pub returns-in_err-push-clause-err : goal.returns-in_err-push-clause-err
returns-in_err-push-clause-err c =
    on_err _ _
    (ap (clauses_of c.put.new.self) c.in_err-push.ensures.items
    ∙ (kept c.self.inside.pool c.put.new.self c.self.inside.given.items c.self.invariant.0.given_live c.put.ensures.kept).0
    ∙ ap (λ s. s.given) c.self.view_is)

pub invariant_of-self-2 : goal.invariant_of-self-2
invariant_of-self-2 c =
    let same = (kept c.self.inside.pool c.put.new.self c.self.inside.given.items c.self.invariant.0.given_live c.put.ensures.kept).0 in (
      subst (λ given. IsHeld c.put.new.self given c.self.inside.learnt) (sym c.in_ok-push.ensures.items)
          (held_given c.self.inside.pool c.put.new.self c.self.inside.given.items c.self.inside.learnt c.in_ok-r.r c.args.clause.now
          c.put.ensures.kept c.in_ok-r.ensures.read c.self.invariant.0),
      recorded_given _ _ c.self.inside.learnt c.args.clause.now c.self.inside.log
          (ap (clauses_of c.put.new.self) c.in_ok-push.ensures.items
          ∙ clauses_of-push c.put.new.self c.self.inside.given.items c.in_ok-r.r c.args.clause.now c.in_ok-r.ensures.read
          ∙ ap (λ cs. cs ++ c.args.clause.now ∷ []) same) c.self.invariant.1,
    )

pub returns-clause-ok : goal.returns-clause-ok
returns-clause-ok c =
    ap (clauses_of c.put.new.self) c.in_ok-push.ensures.items
    ∙ clauses_of-push c.put.new.self c.self.inside.given.items c.in_ok-r.r c.args.clause.now c.in_ok-r.ensures.read
    ∙ ap (λ cs. cs ++ c.args.clause.now ∷ [])
    ((kept c.self.inside.pool c.put.new.self c.self.inside.given.items c.self.invariant.0.given_live c.put.ensures.kept).0 ∙ ap (λ s. s.given) c.self.view_is)
