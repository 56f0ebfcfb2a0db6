use Rattle.std.proofs.Common.{false, length, subst}
use Rattle.bit_words.specs.Number.{number, converted}
use Rattle.bit_words.specs.Spells.{Spells}
use Rattle.gate_steps.specs.Steps.{GoesOnWhere}
use Rattle.gate_values.proofs.Operating.{numbers_operate}
use Rattle.gate_values.proofs.binary.on_numbers.Goals as goal

pub returns-clause-ok : goal.returns-clause-ok
returns-clause-ok c =
    numbers_operate _ _ _ _ c.args.op c.args.signed c.args.bits c.args.a.now c.args.b.now c.in_ok-right.right c.in_ok-made.made c.args.ends.now _ _
    c.in_ok-unless.ensures.grown c.in_ok-right.ensures.grown c.in_ok-made.ensures.grown c.requires.operands c.in_ok-takes.ensures.ok
    (subst (λ r. GoesOnWhere c.unless.new.net c.in_ok-takes.takes.at r c.args.ends.now c.unless.new.ends) c.not_taken.ensures c.in_ok-unless.ensures.ok)
    (subst (λ n. Spells c.convert.new.net c.in_ok-right.right.bits.items n (λ v. converted false (length c.args.b.now.bits.items) n (number v c.args.b.now.bits.items))) c.width-n.ensures c.in_ok-right.ensures.ok)
    c.in_ok-made.ensures.ok
