use Rattle.sc_bodies.proofs.Kept.{left, jump_kept}
use Rattle.sc_bodies.proofs.parts.left_by.Goals as goal

pub returns-clause-kept : goal.returns-clause-kept
returns-clause-kept c =
    left _ c.jump.result c.jump.new.walk c.args.walk.now.globals
    c.jump.ensures (jump_kept c.args.allowed c.args.s c.args.at c.args.walk.now)
