-- No label stands ahead of a `goto` to which no step leads.
use Rattle.std.proofs.Common.{◌≡◌, ◌<◌, false, length, [], ◌∷◌, refl, arith}
use Rattle.sc_jumps.specs.declared.jumps.Inward.TheVariants as inward
use Rattle.sc_jumps.specs.Jumps.{Way, is_ahead}

pub none_ahead : (label goto : Way) → length goto < 1 → false ≡ is_ahead label goto
none_ahead [] [] short = refl
none_ahead (inward.Item m ∷ []) [] short = refl
none_ahead (inward.Item m ∷ s ∷ ss) [] short = refl
none_ahead (inward.Part m ∷ ss) [] short = refl
none_ahead label (g ∷ gs) short = absurd (omega arith)
