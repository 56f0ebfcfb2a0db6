-- Fewer clauses are held, and the log is one of those that are left.
use Rattle.sat_clauses.specs.Held.{clauses_of}
use Rattle.sat_clauses.proofs.HeldLemmas.{held_thinned}
use Rattle.sat_clauses.proofs.LearntLemmas.{thins_trans}
use Rattle.sat_clauses.proofs.CertifiedLemmas.{recorded_thinned}
use Rattle.sat_clauses.proofs.held.Clauses.forget.Goals as goal

pub invariant_of-self : goal.invariant_of-self
invariant_of-self c = (
  held_thinned c.self.inside.pool c.self.inside.given.items c.self.inside.learnt c.lay_out.new.self c.self.invariant.0
      (thins_trans c.self.inside.learnt c.forget_marked.new.learnt c.lay_out.new.self c.forget_marked.ensures.thins c.lay_out.ensures),
  recorded_thinned (clauses_of c.self.inside.pool c.self.inside.given.items) c.forget_marked.new.learnt c.lay_out.new.self c.forget_marked.new.log
      (c.forget_marked.ensures.recorded (clauses_of c.self.inside.pool c.self.inside.given.items) c.self.invariant.1) c.lay_out.ensures,
)
