use Rattle.sc_typing.specs.Typing.{typing}
use Rattle.typing_laws.proofs.Walk.{valued_kept}
use Rattle.typing_laws.proofs.Induction.{expressions_kept}
use Rattle.typing_laws.proofs.laws.values_keep_globals.Goals as goal

pub returns : goal.returns
returns c = λ here e. valued_kept (typing here e) (expressions_kept here e)
