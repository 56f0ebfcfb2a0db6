-- No learnt clause is held, and the log has no step.
use Rattle.std.proofs.Common.{Some, ap}
use Rattle.sat_clauses.specs.Held.{clauses_of}
use Rattle.sat_clauses.proofs.HeldLemmas.{held_thinned}
use Rattle.sat_clauses.proofs.LearntLemmas.{thins_none}
use Rattle.sat_clauses.proofs.CertifiedLemmas.{recorded_begun}
use Rattle.sat_clauses.proofs.held.Clauses.begin_log.Goals as goal

pub invariant_of-self : goal.invariant_of-self
invariant_of-self c = (
  held_thinned c.self.inside.pool c.self.inside.given.items c.self.inside.learnt c.new.result c.self.invariant.0
      (thins_none c.self.inside.learnt c.new.result c.new.ensures),
  recorded_begun (clauses_of c.self.inside.pool c.self.inside.given.items) c.new.result (Some c.new-2.result) c.new.ensures (ap Some c.new-2.ensures),
)
