use Rattle.std.proofs.Common.{◌≡◌, ◌∙◌, Bool, true, false, not, List, Option, drop, sym, subst, ap}
use Rattle.std.specs.Prelude.{Vec}
use Rattle.std.specs.List.{list_all}
use Rattle.std.specs.Option.{MatchOption}
use Rattle.std.specs.declared.alloc.Global.{Global}
use Rattle.choice_texts.specs.Digits.{HaveBits, HaveNoBits}
use Rattle.choice_texts.specs.Choices.{IsSpelled}
use Rattle.choice_texts.proofs.Choices.{not_as_many, cut_is, none_is}
use Rattle.choice_texts.proofs.reading.read_bits.Goals as goal

pub returns-then-digits-bits : goal.returns-then-digits-bits
returns-then-digits-bits c = not_as_many c.args.bits c.args.digits.now c.requires.some c.if-digits-bits.true

pub returns-then-not-is_blank : goal.returns-then-not-is_blank
returns-then-not-is_blank c =
    let P : Option (Vec Bool Global) → Type 0 =
    λ found. MatchOption found (HaveNoBits c.args.digits.now) (λ bits. HaveBits c.args.digits.now bits.items) in
    let Q : List Bool → Type 0 = λ bits. list_all not (drop c.args.bits bits) ≡ false in
    let unset : Q c.in-Some.choice.items = subst Q c.as_slice.ensures.value (sym c.is_blank.ensures ∙ c.if-not-is_blank.true) in
    none_is c.args.bits c.args.digits.now c.requires.some c.if-digits-bits.false c.in-Some.choice.items (subst P c.in-Some.is c.in_ok-choice.ensures) unset

pub returns : goal.returns
returns c =
    let P : Option (Vec Bool Global) → Type 0 =
    λ found. MatchOption found (HaveNoBits c.args.digits.now) (λ bits. HaveBits c.args.digits.now bits.items) in
    let Q : List Bool → Type 0 = λ bits. list_all not (drop c.args.bits bits) ≡ true in
    let blank : Q c.in-Some.choice.items = subst Q c.as_slice.ensures.value (sym c.is_blank.ensures ∙ c.if-not-is_blank.false) in
    subst (IsSpelled c.args.bits c.args.digits.now) (sym c.truncate.ensures.items)
    (cut_is c.args.bits c.args.digits.now c.requires.some c.if-digits-bits.false c.in-Some.choice.items (subst P c.in-Some.is c.in_ok-choice.ensures) blank)
