use Rattle.std.proofs.Common.{◌≡◌, false, take_all, sym, ◌∙◌}
use Rattle.std.proofs.lemmas.List.{take_rest}
use Rattle.std.proofs.lemmas.List.Elements.{All-more}
use Rattle.std.proofs.lemmas.List.Splits.{slice_split_none}
use Rattle.drat_text.specs.Parts.{separates}
use Rattle.drat_text.proofs.PartLemmas.{first_part}
use Rattle.drat_text.proofs.parts.cut.Goals as goal

pub returns-then-is : goal.returns-then-is
returns-then-is c = rw take_rest (first_part _ _ _ c.loop-i-test.true (sym c.is.ensures ∙ c.if-is.true) c.loop-i.invariant)

pub returns : goal.returns
returns c = slice_split_none _ _ (rw (take_all _ _ c.loop-i-test.false) at c.loop-i.invariant)

pub loop-i-preserved : goal.loop-i-preserved
loop-i-preserved c = All-more (λ x. separates c.args.separator x ≡ false) _ _ 0 c.loop-i-test.true c.loop-i.invariant (sym c.is.ensures ∙ c.if-is.false)
