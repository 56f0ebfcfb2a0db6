use Rattle.sc_lexer.proofs.LawProofs.{punctuator_is_longest}
use Rattle.sc_lexer.proofs.laws.punctuator_is_the_longest.Goals as goal

pub returns : goal.returns
returns c = λ bytes text row fit is et. punctuator_is_longest bytes text row fit is et
