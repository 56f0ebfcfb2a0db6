use Rattle.std.proofs.Common.{ap, subst}
use Rattle.bit_words.specs.Number.{number, top}
use Rattle.gate_rows.specs.Sought.{is_spelt, pointer_number}
use Rattle.gate_stands.proofs.Ending.{pointer_kind}
use Rattle.gate_stands.proofs.exits.kind_side.Goals as goal

pub returns-in-Some : goal.returns-in-Some
returns-in-Some c =
    pointer_kind c.args.given.now.kind c.in-Some.word _ c.in-Some.is
    (λ ns low. rw c.deref.ensures.value low)
    (λ v x. ap (λ bs. is_spelt (number v bs) (pointer_number x)) c.deref.ensures.value)
