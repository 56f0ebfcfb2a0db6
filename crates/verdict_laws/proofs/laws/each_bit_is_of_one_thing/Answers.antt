-- By what each step takes.
use Rattle.std.proofs.Common.{subst}
use Rattle.verdict_laws.proofs.Settled.{OfLayout}
use Rattle.verdict_laws.proofs.Owned.{Owned, places_owned}
use Rattle.verdict_laws.proofs.laws.each_bit_is_of_one_thing.Goals as goal

pub returns : goal.returns
returns c s p h = subst (OfLayout (Owned s)) h (places_owned s)
