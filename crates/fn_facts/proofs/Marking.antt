-- Marks of runs that come to the function's end.
use Rattle.std.proofs.Common.{ℕ, List}
use Rattle.bit_net.specs.declared.nodes.Node.{Node}
use Rattle.run_store.specs.declared.Flag.{Flag}
use Rattle.gl_store.specs.Steps.{IsFlagAnywhere}
use Rattle.sc_world.specs.Shows.{has}
use Rattle.sc_world.specs.World.{bit_at}
use Rattle.fn_facts.specs.declared.around.Around.{Around}
use Rattle.fn_facts.specs.Showing.{ShowsAtExit}

pub mark_shown : (a : Around) (ns : List Node) (f : Flag) (at g : ℕ) → IsFlagAnywhere ns a.encoded.now.store.locations.items at f g
    → ShowsAtExit a ns (λ o. has o f at) g
mark_shown a ns f at g is =
    record { below = is.below; value = λ bits v c w runs t. is.value (bit_at bits) v runs w.places t.tells.1 }
