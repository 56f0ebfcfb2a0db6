use Rattle.std.proofs.Common.{get_or, sym, ◌∙◌}
use Rattle.bit_net.proofs.lanes.word_of.Goals as goal
use Rattle.bit_net.proofs.LaneLemmas.{bit-all, bit-none, bit-not, bit-and, bit-or, bit-xor}

pub returns-in-Constant-true : goal.returns-in-Constant-true
returns-in-Constant-true c = λ k h. rw c.in-Constant-true.is (bit-all k h ∙ sym c.in-Constant-true.field-0-test)

pub returns-in-Constant-false : goal.returns-in-Constant-false
returns-in-Constant-false c = λ k h. rw c.in-Constant-false.is (bit-none k ∙ sym c.in-Constant-false.field-0-test)

pub returns-in-Not : goal.returns-in-Not
returns-in-Not c = λ k h. rw c.in-Not.is (bit-not (get_or c.args.seen.now c.in-Not.a.at 0) k (c.type_inv.seen c.in-Not.a.at).fits h)

pub returns-in-And : goal.returns-in-And
returns-in-And c = λ k h. rw c.in-And.is (bit-and (get_or c.args.seen.now c.in-And.a.at 0) (get_or c.args.seen.now c.in-And.b.at 0) k)

pub returns-in-Or : goal.returns-in-Or
returns-in-Or c = λ k h. rw c.in-Or.is (bit-or (get_or c.args.seen.now c.in-Or.a.at 0) (get_or c.args.seen.now c.in-Or.b.at 0) k)

pub returns-in-Xor : goal.returns-in-Xor
returns-in-Xor c = λ k h. rw c.in-Xor.is (bit-xor (get_or c.args.seen.now c.in-Xor.a.at 0) (get_or c.args.seen.now c.in-Xor.b.at 0) k)
