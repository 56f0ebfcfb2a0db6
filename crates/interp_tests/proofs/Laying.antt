-- The layout that is given is the defined one, and so it is closed.
use Rattle.std.proofs.Common.{◌≡◌, subst}
use Rattle.std.specs.Prelude.{Result, Ok, Err, IfOk, MatchResult}
use Rattle.sc_world.specs.Source.{Source}
use Rattle.sc_world.specs.Places.{places}
use Rattle.layout_base.specs.Seen.{layout_of}
use Rattle.layout_base.specs.declared.layout.Places.{Places}
use Rattle.places.specs.Laying.{IsDue}
use Rattle.places.specs.declared.laying.PlaceAnswer.{PlaceAnswer}
use Rattle.run_laws.specs.Proper.{IsClosed}

pub closed_if : (s : Source) (r : Result Places PlaceAnswer)
    → MatchResult r (λ p. places s ≡ Ok (layout_of p)) (IsDue (places s))
    → IfOk (places s) IsClosed → IfOk r (λ p. IsClosed (layout_of p))
closed_if s (Ok p) e closed = subst (λ o. IfOk o IsClosed) e closed
closed_if s (Err a) e closed = tt
