-- The numbers of statuses.
use Rattle.std.specs.Prelude.{ℕ}
use Rattle.top_answers.specs.declared.status.Status.{Status}
use Rattle.top_answers.specs.declared.status.Status.TheVariants.{Clean, Reports, Refused, BadWords, ReadFault, WriteFault, Memory, Helped}

-- the number with which a program ends
abbrev pub status_number : Status → ℕ
status_number Clean = 0
status_number Reports = 1
status_number Refused = 2
status_number BadWords = 3
status_number ReadFault = 4
status_number WriteFault = 5
status_number Memory = 6
status_number Helped = 0
