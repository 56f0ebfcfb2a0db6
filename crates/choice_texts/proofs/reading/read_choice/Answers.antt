use Rattle.std.proofs.lemmas.Result.{IfOk-weaker}
use Rattle.choice_texts.proofs.Choices.{read_is}
use Rattle.choice_texts.proofs.reading.read_choice.Goals as goal

pub returns-clause-defined : goal.returns-clause-defined
returns-clause-defined c =
    IfOk-weaker c.read.result _ _ (read_is c.the_first_choice.ensures.least c.the_first_choice.ensures.some c.args.bits c.args.digits.now) c.read.ensures
