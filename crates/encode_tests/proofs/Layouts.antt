-- The layout that is given is the defined one, and so it is closed.
use Rattle.std.proofs.Common.{◌≡◌, subst}
use Rattle.std.specs.Prelude.{Ok, IfOk}
use Rattle.sc_world.specs.Source.{Source}
use Rattle.sc_world.specs.Layout.{Layout}
use Rattle.sc_world.specs.Places.{places}
use Rattle.run_laws.specs.Proper.{IsClosed}

pub closed_if : (s : Source) (p : Layout) → places s ≡ Ok p → IfOk (places s) IsClosed → IsClosed p
closed_if s p e closed = subst (λ o. IfOk o IsClosed) e closed
