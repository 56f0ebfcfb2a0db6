use Rattle.std.proofs.Common.{◌∙◌, ap, ap₂, sym, ◌∷◌, drop}
use Rattle.line_marks.specs.Marks.{lines}
use Rattle.line_marks.proofs.Gathered.{lines_cut, lines_uncut}
use Rattle.line_marks.proofs.marks.first_line.Goals as goal

pub returns-in-None-clause-cut : goal.returns-in-None-clause-cut
returns-in-None-clause-cut c = lines_uncut c.args.bytes.now (sym c.feed.ensures ∙ c.in-None.is)

pub returns-in-Some-clause-cut : goal.returns-in-Some-clause-cut
returns-in-Some-clause-cut c =
    lines_cut c.args.bytes.now c.in-Some.end (sym c.feed.ensures ∙ c.in-Some.is)
    ∙ ap₂ (λ a b. a ∷ lines b) (sym c.split_at.ensures.front) (ap (drop 1) (sym c.split_at.ensures.back) ∙ sym c.split_at-in-Some.ensures.back)
