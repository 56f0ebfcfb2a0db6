use Rattle.std.proofs.Common.{◌∙◌, ap, inr, Err}
use Rattle.verify_runs.specs.Answer.{due_for, unread, read}
use Rattle.verify_runs.proofs.Answered.{to_errors, Keeps-itself}
use Rattle.verify_runs.proofs.verify.verify_file.Goals as goal

pub returns-in-Ok-unread_line : goal.returns-in-Ok-unread_line
returns-in-Ok-unread_line g c words named =
    let cause = c.in-Err-Failed.ensures.failed (ap Err c.in-Err-Failed.field-0-is) in
    to_errors _ _ _ _ _ _ _ _ (unread c.args.name.now named cause.0 cause.1)
    (c.deref.ensures.value ∙ c.in-Ok-unread_line.ensures) c.say.ensures (Keeps-itself _)

pub returns-in-Ok-line_of : goal.returns-in-Ok-line_of
returns-in-Ok-line_of g c words named =
    inr (
      due_for c.args.name.now c.in-Ok-find.finding,
      read c.args.name.now c.in-Ok.bytes.items _ named c.in-Ok.ensures.read c.in-Ok-find.ensures,
      c.say_finding.ensures,
    )
