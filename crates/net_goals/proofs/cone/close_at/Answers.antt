-- What a gate reads is marked, or the gate is not marked.
use Rattle.std.proofs.Common.{◌<◌, length, refl, arith}
use Rattle.net_goals.specs.Cones.{EachOperand}
use Rattle.net_goals.proofs.Marks.{each_more, reads_earlier, closing_marked, closing_unmarked}
use Rattle.net_goals.proofs.cone.close_at.Goals as goal

pub mark_operands-requires : goal.mark_operands-requires
mark_operands-requires c =
    let at = c.args.at in
    let room = c.requires.at in
    each_more (λ a. a < at) (λ a. a < length c.args.marks.now) (λ a less. omega (arith, less, room)) c.node-node.result
    (reads_earlier c.args.net.now at c.node-node.result c.sound.ensures c.node-node.ensures)

pub returns : goal.returns
returns c =
    let room = c.requires.at in
    closing_marked c.args.net.now c.args.at c.node-node.result c.args.marks.now _ c.sound.ensures c.node-node.ensures (omega (arith, room)) c.mark_operands.ensures
