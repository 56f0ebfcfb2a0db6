-- What is due where the files are refused.

use Rattle.std.specs.Prelude.{ℕ, List, Option, Some, None, codes}
use Rattle.sc_base.specs.declared.skip.LimitKind.TheVariants as limit
use Rattle.sc_input.specs.declared.refusal.Refusal.{Refusal}
use Rattle.sc_input.specs.declared.refusal.Refusal.TheVariants as refusal
use Rattle.top_answers.specs.declared.status.Status.TheVariants.{Refused, ReadFault}
use Rattle.top_answers.specs.Answer.{Due, ToErrors}
use Rattle.top_answers.specs.Lines.{line_of, at_place, limit_tail, unread_tail, machine_tail}

-- the line of this program on the error output, with the status of a refusal
abbrev pub refused_with : (program tail : List ℕ) → Due
refused_with program tail = ToErrors Refused (line_of program tail)

-- What is due where the files give no input. Of memory that was refused no line is due.
abbrev pub due_of_refusal : (program : List ℕ) → Refusal → Option Due
due_of_refusal program (refusal.Files count) = Some (refused_with program (limit_tail limit.Files count))
due_of_refusal program (refusal.Unread name) = Some (ToErrors ReadFault (line_of program (unread_tail name.now)))
due_of_refusal program refusal.Bytes = Some (refused_with program (limit_tail limit.Input 8388609))
due_of_refusal program (refusal.Machine line) = Some (refused_with program (machine_tail line))
due_of_refusal program (refusal.Lexical name pos) = Some (refused_with program (at_place name.now pos (codes "lexical")))
due_of_refusal program (refusal.Unbalanced name pos) = Some (refused_with program (at_place name.now pos (codes "unbalanced")))
due_of_refusal program refusal.OutOfMemory = None
