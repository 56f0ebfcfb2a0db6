-- The numbers with which the program ends.

use Rattle.std.specs.Prelude.{ℕ}
use Rattle.verify_runs.specs.declared.verified.Verified.{Verified}
use Rattle.verify_runs.specs.declared.verified.Verified.TheVariants as answer

abbrev pub number_of : Verified → ℕ
number_of answer.Accepted = 0
number_of answer.Rejected = 1
number_of answer.Refused = 2
number_of answer.BadWords = 3
number_of answer.ReadFault = 4
number_of answer.WriteFault = 5
number_of answer.Memory = 6
number_of answer.Helped = 0
