use Rattle.std.proofs.Common.{refl}
use Rattle.gl_store.proofs.PlaceLemmas.{bits_set, bits_empty, no_bits}
use Rattle.gl_store.proofs.stores.bits_of.Goals as goal

pub returns-in-Set-clause-below : goal.returns-in-Set-clause-below
returns-in-Set-clause-below c = no_bits _ _ refl

pub returns-in-Set-clause-value : goal.returns-in-Set-clause-value
returns-in-Set-clause-value c = bits_set _ _ c.in-Set.is

pub returns-in-Unit-clause-below : goal.returns-in-Unit-clause-below
returns-in-Unit-clause-below c = no_bits _ _ refl

pub returns-in-Unit-clause-value : goal.returns-in-Unit-clause-value
returns-in-Unit-clause-value c = bits_empty _ c.in-Unit.is
