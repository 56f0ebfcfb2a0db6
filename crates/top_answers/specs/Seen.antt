-- What the code finds, as the answer that is due.

use Rattle.top_answers.specs.declared.answer.Answer.{Answer}
use Rattle.top_answers.specs.declared.answer.Answer.TheVariants as code
use Rattle.top_answers.specs.Answer.{Due, ToOutput, ToErrors}

abbrev pub seen : Answer → Due
seen (code.Output due bytes) = ToOutput due bytes.items
seen (code.Errors due bytes) = ToErrors due bytes.items
