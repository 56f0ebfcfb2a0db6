-- The clause follows, and it is in the log where it is held.
use Rattle.std.proofs.Common.{sym, subst}
use Rattle.sat_clauses.specs.Held.{Entails, clauses_of}
use Rattle.sat_clauses.specs.Certified.{IsInferred, IsRecorded}
use Rattle.sat_clauses.proofs.HeldLemmas.{held_learnt}
use Rattle.sat_clauses.proofs.CertifiedLemmas.{recorded_learnt}
use Rattle.sat_clauses.proofs.held.Clauses.learn.Goals as goal

pub invariant_of-self-in_err-number : goal.invariant_of-self-in_err-number
invariant_of-self-in_err-number c = (
  held_learnt c.self.inside.pool c.self.inside.given.items c.self.inside.learnt c.push.new.self c.args.clause.now c.self.invariant.0
      (subst (λ s. Entails s.given c.args.clause.now) (sym c.self.view_is) c.requires.entailed) c.push.ensures,
  subst (IsRecorded (clauses_of c.self.inside.pool c.self.inside.given.items) c.push.new.self) (sym c.in_ok-note_step.ensures.ok)
      (recorded_learnt (clauses_of c.self.inside.pool c.self.inside.given.items) c.self.inside.learnt c.push.new.self c.self.inside.log c.args.clause.now
      c.self.invariant.1 (subst (λ s. IsInferred s c.args.clause.now) (sym c.self.view_is) c.requires.inferred) c.push.ensures),
)

pub invariant_of-self-2 : goal.invariant_of-self-2
invariant_of-self-2 c = (
  held_learnt c.self.inside.pool c.self.inside.given.items c.self.inside.learnt c.push.new.self c.args.clause.now c.self.invariant.0
      (subst (λ s. Entails s.given c.args.clause.now) (sym c.self.view_is) c.requires.entailed) c.push.ensures,
  subst (IsRecorded (clauses_of c.self.inside.pool c.self.inside.given.items) c.push.new.self) (sym c.in_ok-note_step.ensures.ok)
      (recorded_learnt (clauses_of c.self.inside.pool c.self.inside.given.items) c.self.inside.learnt c.push.new.self c.self.inside.log c.args.clause.now
      c.self.invariant.1 (subst (λ s. IsInferred s c.args.clause.now) (sym c.self.view_is) c.requires.inferred) c.push.ensures),
)
