-- The locations of items, as the code and as the definitions hold them.
use Rattle.std.proofs.Common.{◌≡◌, List, [], ◌∷◌, map, refl, ap}
use Rattle.run_paths.specs.declared.buffer.Found.{Found}
use Rattle.run_paths.specs.Seen.{locked, outed}

pub locked_ats : (fs : List Found) → map (λ l. l.at) (map locked fs) ≡ map (λ f. f.at) fs
locked_ats [] = refl
locked_ats (f ∷ fs) = ap (λ ns. f.at ∷ ns) (locked_ats fs)

pub outed_ats : (fs : List Found) → map (λ o. o.at) (map outed fs) ≡ map (λ f. f.at) fs
outed_ats [] = refl
outed_ats (f ∷ fs) = ap (λ ns. f.at ∷ ns) (outed_ats fs)
