use Rattle.std.proofs.Common.{sym, subst, refl, length}
use Rattle.std.proofs.lemmas.List.{take_rest}
use Rattle.bit_words.specs.declared.shifting.Direction.{Direction}
use Rattle.bit_words.specs.Number.{number}
use Rattle.bit_words.specs.Parts.{moved}
use Rattle.bit_words.specs.Spells.{Spells}
use Rattle.bit_words.proofs.MoveLemmas.{Moved-up, Moved-down}
use Rattle.bit_words.proofs.shifting.moved_by.Goals as goal

pub returns-in-Up : goal.returns-in-Up
returns-in-Up c =
    subst (λ (d : Direction). Spells c.args.net.now c.in_ok-bits-in-Up.bits.items (length c.args.a.now) (λ v. moved d (length c.args.a.now) (number v c.args.a.now) c.args.by)) (sym c.in-Up.is)
    (Moved-up c.args.net.now c.args.a.now _ c.in_ok-none.none.items c.deref.result.now c.in_ok-bits-in-Up.bits.items c.constant.result.at c.args.by c.requires.by c.requires.a
    (take_rest c.args.a.now c.args.by) c.deref.ensures.value c.in_ok-bits-in-Up.ensures c.in_ok-none.ensures c.constant.ensures.value)

pub returns : goal.returns
returns c =
    subst (λ (d : Direction). Spells c.args.net.now c.in_ok-bits-in-Down.bits.items (length c.args.a.now) (λ v. moved d (length c.args.a.now) (number v c.args.a.now) c.args.by)) (sym c.in-Down.is)
    (Moved-down c.args.net.now c.args.a.now _ c.in_ok-none.none.items c.deref-in-Down.result.now c.in_ok-bits-in-Down.bits.items c.constant.result.at c.args.by c.requires.by c.requires.a
    refl c.deref-in-Down.ensures.value c.in_ok-bits-in-Down.ensures c.in_ok-none.ensures c.constant.ensures.value)
