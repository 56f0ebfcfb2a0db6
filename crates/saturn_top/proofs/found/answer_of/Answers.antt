use Rattle.std.proofs.Common.{◌≡◌, ◌++◌, ℕ, List, sym, subst, ap, codes}
use Rattle.json_checks.specs.Seen as whole
use Rattle.top_answers.specs.declared.status.Status.TheVariants.{Refused}
use Rattle.top_answers.specs.Answer.{ToErrors}
use Rattle.top_answers.specs.Lines.{line_of, shown_name}
use Rattle.saturn_top.specs.Checks.{due_of_said}
use Rattle.saturn_top.proofs.found.answer_of.Goals as goal

pub returns-in_ok-line-in-Twice : goal.returns-in_ok-line-in-Twice
returns-in_ok-line-in-Twice c =
    let Q : List ℕ → Type 0 = λ n. c.in_ok-line-in-Twice.line.items ≡ line_of c.args.program.now (codes "duplicate " ++ shown_name n) in
    let line : Q c.in-Twice.name.items = subst Q c.deref.ensures.value c.in_ok-line-in-Twice.ensures in
    subst (λ said. ToErrors Refused c.in_ok-line-in-Twice.line.items ≡ due_of_said c.args.program.now (whole.said said)) (sym c.in-Twice.is)
    (ap (λ l. ToErrors Refused l) line)
