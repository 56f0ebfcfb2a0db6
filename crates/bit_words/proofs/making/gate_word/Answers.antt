use Rattle.bit_words.proofs.MakeLemmas.{gate_word_spells}
use Rattle.bit_words.proofs.making.gate_word.Goals as goal

pub returns : goal.returns
returns c =
    gate_word_spells c.args.net.now c.in_ok-bits.bits.items _ c.constant-no.result.at c.args.gate c.args.width c.requires.some c.requires.gate
    c.constant-no.ensures c.in_ok-bits.ensures c.in_ok-push.ensures.items
