use Rattle.sc_typing.specs.Tables.{here_of}
use Rattle.sc_check.proofs.Bare.{body_outside}
use Rattle.sc_check.proofs.passing.outside_stays.Goals as goal

pub returns : goal.returns
returns c =
    body_outside c.plain_bodies_leave_nothing.ensures c.jumps_leave_faults.ensures (here_of c.args.here.now) _ c.args.at c.args.b.now c.args.walk.now
    c.requires.plain c.requires.block
