-- When gates are those of a function.
use Rattle.std.specs.Prelude.{◌≡◌, List}
use Rattle.bit_net.specs.declared.nodes.Node.{Node}
use Rattle.bit_net.specs.Circuit.{input_count}
use Rattle.sc_world.specs.Paths.{Texts}
use Rattle.sc_world.specs.Source.{Source}

-- Who makes gates makes them of this function, may make them in this net, and the inputs of the net are just the bits of a choice.
pub record AreGatesOf (s : Source) (x : Texts) (made_of : Source) (named : Texts) (Ready : List Node → Type 0) (ns : List Node) : Type 0 where
  pub source : made_of ≡ s
  pub texts : named ≡ x
  pub ready : Ready ns
  pub inputs : input_count ns ≡ x.layout.bits
