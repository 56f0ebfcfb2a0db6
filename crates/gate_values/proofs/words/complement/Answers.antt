use Rattle.std.proofs.Common.{◌-◌, ◌^◌, subst}
use Rattle.bit_words.specs.Spells.{Spells}
use Rattle.gate_values.proofs.Ones.{complement_word}
use Rattle.gate_values.proofs.words.complement.Goals as goal

pub returns-clause-ok : goal.returns-clause-ok
returns-clause-ok c =
    complement_word _ _ c.args.a.now c.in_ok-all.all c.in_ok-made.made c.in_ok-made.ensures.grown
    (subst (λ n. Spells c.args.net.now c.in_ok-all.all.bits.items n (λ v. 2 ^ n - 1)) c.width-n.ensures c.in_ok-all.ensures) c.in_ok-made.ensures.ok
