-- What is asked of who makes gates of questions, before each of them.
use Rattle.std.specs.Prelude.{◌≡◌, List}
use Rattle.bit_net.specs.declared.nodes.Node.{Node}
use Rattle.bit_net.specs.Circuit.{input_count}
use Rattle.gate_questions.specs.Ready.{QuestionsState, IsReady}
use Rattle.sc_world.specs.Paths.{Texts}

-- A question may be asked about the net: gates may be made in it, its gates may be asked about, and its inputs are just the bits of a choice.
pub record MayAsk (Ready : List Node → Type 0) (x : Texts) (ns : List Node) (q : QuestionsState) : Type 0 where
  pub gates : Ready ns
  pub asks : IsReady ns q
  pub inputs : input_count ns ≡ x.layout.bits
