use Rattle.std.proofs.Common.{List, subst, length, arith}
use Rattle.std.proofs.lemmas.Grind.{common_steps}
use Rattle.bit_net.specs.declared.nodes.Gate.{Gate}
use Rattle.bit_words.specs.Number.{number}
use Rattle.bit_words.specs.Parts.{moved}
use Rattle.bit_words.specs.Spells.{Spells}
use Rattle.bit_words.proofs.MoveLemmas.{Shift-within, Shift-beyond}
use Rattle.bit_words.proofs.shifting.shift_once.Goals as goal

pub returns-in_ok-word-clause-ok : goal.returns-in_ok-word-clause-ok
returns-in_ok-word-clause-ok c =
    Shift-within c.args.net.now c.select.new.net c.args.shifted.word.items c.deref-then-by-len-2.result.now c.in_ok-moved.moved.items c.deref-then-by-len.result.now c.in_ok-word.word.items
    c.args.direction c.args.shifted.beyond.at c.args.by c.args.bit.at c.in_ok-word.ensures.grown c.requires.beyond c.deref-then-by-len-2.ensures.value c.deref-then-by-len.ensures.value
    (subst (λ (x : List Gate). Spells c.args.net.now c.in_ok-moved.moved.items (length x) (λ v. moved c.args.direction (length x) (number v x) c.args.by)) c.deref.ensures.value c.in_ok-moved.ensures)
    c.in_ok-word.ensures.ok

pub returns-in_ok-beyond-clause-ok : goal.returns-in_ok-beyond-clause-ok
returns-in_ok-beyond-clause-ok c =
    Shift-beyond c.args.net.now c.apply.new.net c.args.shifted.word.items c.args.direction c.args.shifted.beyond.at c.in_ok-beyond.beyond.at c.args.by c.args.bit.at
    c.requires.word c.in_ok-beyond.ensures.grown (grind (arith, common_steps)) c.in_ok-beyond.ensures.ok.below c.in_ok-beyond.ensures.ok.value
