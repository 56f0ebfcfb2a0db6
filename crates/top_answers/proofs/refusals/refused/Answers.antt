use Rattle.std.proofs.Common.{rules, ◌≡◌, ◌++◌, ℕ, List, Some, IfOk, sym, subst, ap, codes}
use Rattle.sc_input.specs.declared.refusal.Refusal.{Refusal}
use Rattle.top_answers.specs.declared.status.Status.TheVariants.{ReadFault}
use Rattle.top_answers.specs.Answer.{ToErrors}
use Rattle.top_answers.specs.Lines.{line_of, shown_name}
use Rattle.top_answers.specs.Refusals.{due_of_refusal}
use Rattle.top_answers.specs.Seen.{seen}
use Rattle.top_answers.proofs.Dues.{as_due}
use Rattle.top_answers.proofs.refusals.refused.Goals as goal

pub returns-in_ok-line-in-Unread : goal.returns-in_ok-line-in-Unread
returns-in_ok-line-in-Unread c =
    let P : Refusal → Type 0 = λ why. due_of_refusal c.args.program.now why ≡ Some (ToErrors ReadFault c.in_ok-line-in-Unread.line.items) in
    let bytes : c.as_bytes.result.now ≡ c.in-Unread.name.now = search rules in
    let Q : List ℕ → Type 0 = λ n. c.in_ok-line-in-Unread.line.items ≡ line_of c.args.program.now (codes "cannot read " ++ shown_name n) in
    let line : Q c.in-Unread.name.now = subst Q bytes c.in_ok-line-in-Unread.ensures in
    subst P (sym c.in-Unread.is) (ap (λ l. Some (ToErrors ReadFault l)) (sym line))

pub returns-in-Unbalanced : goal.returns-in-Unbalanced
returns-in-Unbalanced c =
    let P : Refusal → Type 0 = λ why. IfOk c.placed-in-Unbalanced.result (λ answer. due_of_refusal c.args.program.now why ≡ Some (seen answer)) in
    subst P (sym c.in-Unbalanced.is) (as_due c.placed-in-Unbalanced.result _ c.placed-in-Unbalanced.ensures)
