use Rattle.sc_bodies.proofs.Kept.{gives_left, switched_kept}
use Rattle.sc_bodies.proofs.parts.promoted.Goals as goal

pub returns-clause-kept : goal.returns-clause-kept
returns-clause-kept c =
    gives_left _ c.switched.result c.switched.new.walk c.args.walk.now.globals
    c.switched.ensures (switched_kept c.args.at c.args.e c.args.walk.now)
