use Rattle.sc_bodies.proofs.Kept.{left, scalar_kept}
use Rattle.sc_bodies.proofs.parts.judged.Goals as goal

pub returns-clause-kept : goal.returns-clause-kept
returns-clause-kept c =
    left _ c.scalar.result c.scalar.new.walk c.args.walk.now.globals
    c.scalar.ensures (scalar_kept c.args.at c.args.e c.args.walk.now)
