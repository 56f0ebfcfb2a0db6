use Rattle.std.proofs.Common.{arith}
use Rattle.gl_store.proofs.MarkLemmas.{target_none, target_there}
use Rattle.gl_store.proofs.marks.mark_target.Goals as goal
use Rattle.gl_store.proofs.marks.mark_target.Goals.{then-target-eq0-via-then-target-eq0, then-target-eq0-via-else-target-eq0+then-target-locations}

pub returns-then-target-eq0-clause-ok : goal.returns-then-target-eq0-clause-ok
returns-then-target-eq0-clause-ok c =
    target_none _ c.args.when.at c.args.target c.args.flag c.args.locations.now
    (λ some. elim c.then-target-eq0.branch [
      | then-target-eq0-via-then-target-eq0 w ↦ omega arith
      | then-target-eq0-via-else-target-eq0+then-target-locations w ↦ omega arith
    ]) c.requires.locations

pub returns-clause-ok : goal.returns-clause-ok
returns-clause-ok c =
    target_there _ c.args.when.at c.args.target c.args.flag c.args.locations.now _ c.if-target-eq0.false c.in_ok-mark_at.ensures.ok
