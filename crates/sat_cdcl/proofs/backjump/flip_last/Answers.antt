-- The last decision gives way.
use Rattle.std.proofs.Common.{arith}
use Rattle.sat_cdcl.proofs.SearchLemmas.{rises_flipped}
use Rattle.sat_cdcl.proofs.backjump.flip_last.Goals as goal

pub returns : goal.returns
returns c clauses assumed clashes =
    let len = c.len-room.ensures.len in
    let room = c.len-room.ensures.room in
    let inside = c.requires.inside in
    rises_flipped clauses assumed c.args.trail.now c.flip.new.self c.args.k c.requires.inside (omega (arith, len, room, inside)) c.flip.ensures.vars
    c.requires.decision c.requires.last c.flip.ensures.flipped clashes
