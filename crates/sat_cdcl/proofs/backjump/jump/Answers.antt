-- The literal that the clause asserts is put.
use Rattle.std.proofs.Common.{refl, arith}
use Rattle.sat_cdcl.proofs.ResolventLemmas.{rises_jump}
use Rattle.sat_cdcl.proofs.backjump.jump.Goals as goal

pub returns-in-Done : goal.returns-in-Done
returns-in-Done c =
    let len = c.len-room.ensures.len in
    let room = c.len-room.ensures.room in
    rises_jump c.args.trail.now c.put.new.self c.args.clause.now c.args.lit c.args.k _ c.requires refl refl (omega (arith, len, room))
    c.put.ensures.vars c.in-Done.ensures.put
