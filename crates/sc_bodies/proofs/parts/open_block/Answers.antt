use Rattle.std.proofs.Common.{refl}
use Rattle.sc_bodies.proofs.Kept.{gives_left}
use Rattle.sc_bodies.proofs.parts.open_block.Goals as goal

pub returns-clause-kept : goal.returns-clause-kept
returns-clause-kept c =
    gives_left _ c.open_scope.result c.open_scope.new.walk c.args.walk.now.globals
    c.open_scope.ensures.ok refl
