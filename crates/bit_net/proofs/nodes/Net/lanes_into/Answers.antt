use Rattle.std.proofs.Common.{◌≡◌, ◌<◌, ◌++◌, ◌∷◌, [], Some, slice_get, length, arith, sym, subst}
use Rattle.bit_net.specs.Lanes.{AreLanes}
use Rattle.bit_net.proofs.nodes.Net.lanes_into.Goals as goal
use Rattle.bit_net.proofs.LaneLemmas.{reads_words, lanes-more}

pub word_of-word-requires : goal.word_of-word-requires
word_of-word-requires c =
    reads_words c.args.self.now c.args.inputs.now c.deref.result.now c.loop-g.g c.node.result c.sound.ensures c.node.ensures c.requires.inputs
    (omega (arith, c.deref.ensures.len, c.loop-g.invariant.count))

right : (c : goal.In_ok-push) → AreLanes c.args.self.now c.args.inputs.now (c.loop-g.words.items ++ c.word_of-word.result ∷ [])
right c =
    let at : c.loop-g.g ≡ length c.loop-g.words.items = omega (arith, c.loop-g.invariant.count) in
    let low : length c.loop-g.words.items < length c.args.self.now = omega (arith, c.loop-g-test.true, c.len-g-end.ensures) in
    lanes-more c.args.self.now c.args.inputs.now c.loop-g.words.items c.word_of-word.result c.node.result c.sound.ensures c.loop-g.invariant.right
    (subst (λ k. slice_get c.args.self.now k ≡ Some c.node.result) at c.node.ensures) low (rw (← c.deref.ensures.value) c.word_of-word.ensures)

pub loop-g-preserved : goal.loop-g-preserved
loop-g-preserved c = record {
  count = omega (arith, c.in_ok-push.ensures.len, c.loop-g.invariant.count);
  right = subst (AreLanes c.args.self.now c.args.inputs.now) (sym c.in_ok-push.ensures.items) (right c);
}
