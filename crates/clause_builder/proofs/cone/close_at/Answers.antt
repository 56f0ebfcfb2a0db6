-- What a gate reads is marked, or the gate is not marked or loaded already.
use Rattle.std.proofs.Common.{◌<◌, length, sym, subst, refl, ◌∙◌, ap, arith}
use Rattle.clause_builder.specs.Cones.{EachOperand, plain, with_operands}
use Rattle.clause_builder.proofs.Marks.{each_more, plain_reads, closing_marked, closing_unmarked, not_open}
use Rattle.clause_builder.proofs.cone.close_at.Goals as goal

pub returns-then-not-is_open : goal.returns-then-not-is_open
returns-then-not-is_open c =
    closing_unmarked _ _ _ _ _ refl (not_open c.args.marks.now c.args.lits.now c.args.at c.is_open.result c.is_open.ensures c.if-not-is_open.true)

pub mark_operands-requires : goal.mark_operands-requires
mark_operands-requires c =
    let at = c.args.at in
    let room = c.requires.at in
    subst (EachOperand (λ a. a < length c.args.marks.now)) (sym c.plain_node-node.ensures)
    (each_more (λ a. a < at) (λ a. a < length c.args.marks.now) (λ a less. omega (arith, less, room)) (plain c.node-read.result)
    (plain_reads c.args.net.now at c.node-read.result c.sound.ensures c.node-read.ensures))

pub returns : goal.returns
returns c =
    let room = c.requires.at in
    closing_marked c.args.net.now c.args.lits.now c.args.at c.node-read.result c.args.marks.now _ c.sound.ensures c.node-read.ensures
    (omega (arith, room)) (c.mark_operands.ensures ∙ ap (λ n. with_operands n c.args.marks.now) c.plain_node-node.ensures)
