use Rattle.sc_bodies.proofs.Kept.{gives_left, return_kept}
use Rattle.sc_bodies.proofs.parts.returned_as.Goals as goal

pub returns-clause-kept : goal.returns-clause-kept
returns-clause-kept c =
    gives_left _ c.return_as.result c.return_as.new.walk c.args.walk.now.globals
    c.return_as.ensures (return_kept c.args.w c.args.at _ c.args.e c.args.walk.now)
