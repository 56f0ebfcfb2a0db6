-- What who answers by gates keeps.
use Rattle.std.specs.Prelude.{◌≡◌, Bool, true, List}
use Rattle.bit_net.specs.declared.nodes.Node.{Node}
use Rattle.gate_questions.specs.Ready.{QuestionsState}
use Rattle.sc_world.specs.Paths.{Texts}
use Rattle.sc_world.specs.Source.{Source}
use Rattle.fn_runs.specs.declared.runs.Runs.{Runs}
use Rattle.fn_runs.specs.Runs.{source_of, texts_of}
use Rattle.fn_gated.specs.Asked.{MayAsk}

-- Who makes gates makes them of the same function as the runs are of. While no memory was refused, a question may be asked.
pub record IsSolving (r : Runs) (s : Source) (x : Texts) (Ready : List Node → Type 0) (ns : List Node) (q : QuestionsState) (usable : Bool) : Type 0 where
  pub source : s ≡ source_of r
  pub texts : x ≡ texts_of r
  pub may : usable ≡ true → MayAsk Ready x ns q
