-- Nothing is loaded, and no gate was evaluated.
use Rattle.std.proofs.Common.{sym}
use Rattle.gate_questions.proofs.Holding.{start_loaded, lanes_none}
use Rattle.gate_questions.proofs.questions.Questions.new.Goals as goal

pub returns : goal.returns
returns g c ns count = record {
  loaded = λ _. start_loaded _ _ _ _ c.what_is_loaded_stays.ensures.nothing c.new-loader.ensures c.requires;
  inputs = sym count;
  lanes = lanes_none _ _ _ c.new-words.ensures.items;
}
