-- By the laws on matters and on functions that are read alike, and since each verdict is made of those of the kept callees.
use Rattle.std.proofs.Common.{◌≡◌, length, map, sym, ◌∙◌, arith}
use Rattle.std.proofs.lemmas.List.{length-map}
use Rattle.program_verdicts.specs.Verdicts.{kept_of, verdict_in}
use Rattle.matter_laws.proofs.Again.{read_again}
use Rattle.matter_laws.proofs.laws.equal_matters.Goals as goal

pub returns-clause-given : goal.returns-clause-given
returns-clause-given c earlier later g f depth reach vs again few =
    c.read_alike.ensures.verdicts earlier later g f depth reach vs
    (read_again c.matters_tell_parts.ensures.parts earlier later g f again) few

pub returns-clause-kept : goal.returns-clause-kept
returns-clause-kept c earlier later g f depth reach again =
    let vs = map (verdict_in earlier depth reach) (kept_of earlier g) in
    let many : length vs ≡ length (kept_of earlier g) = length-map (kept_of earlier g) (verdict_in earlier depth reach) in
    c.read_alike.ensures.verdicts earlier later g f depth reach vs
    (read_again c.matters_tell_parts.ensures.parts earlier later g f again) (omega (arith, many))
    ∙ sym (c.verdicts_by_callees.ensures.made earlier depth reach g)
