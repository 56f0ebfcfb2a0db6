use Rattle.std.proofs.Common.{◌≡◌, ◌++◌, OnOk, codes, subst}
use Rattle.report_text.specs.Reasons.{note_line}
use Rattle.report_text.proofs.reasons.put_note.Goals as goal

pub returns-in-Unsupported : goal.returns-in-Unsupported
returns-in-Unsupported c =
    rw c.in-Unsupported.is (subst
    (λ w. OnOk c.put_note_line-in-Unsupported.result (c.put_note_line-in-Unsupported.new.out.items
    ≡ c.args.out.now.items ++ note_line c.args.program.now c.in-Unsupported.pos (codes "unsupported " ++ w)))
    c.unsupported_word.ensures c.put_note_line-in-Unsupported.ensures)
