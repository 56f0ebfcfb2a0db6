-- Temps, one after another.
use Rattle.std.proofs.Common.{◌≡◌, ℕ, zero, suc, ◌+◌, ◌-◌, ◌<◌, Bool, true, false, ◌&&◌, ◌||◌, List, [], ◌∷◌, map, replicate, refl, ◌∙◌, ap, arith}
use Rattle.flow_graph.specs.Conditions.{InTemp, InSlot}
use Rattle.flow_graph.specs.Growing.{numbers}
use Rattle.flow_fits.specs.Voids.{each_temp}

-- of the numbers from k on, the first and the others
pub numbers_first : (test : ℕ → Bool) (f c k : ℕ) → k < c
    → each_temp test (map InTemp (numbers (f + k) (c - k))) ≡ (test (f + k) && each_temp test (map InTemp (numbers (f + (k + 1)) (c - (k + 1)))))
numbers_first test f c k low =
    let more : c - k ≡ suc (c - (k + 1)) = omega arith in
    let next : f + k + 1 ≡ f + (k + 1) = omega arith in
    ap (λ n. each_temp test (map InTemp (numbers (f + k) n))) more
    ∙ ap (λ n. test (f + k) && each_temp test (map InTemp (numbers n (c - (k + 1))))) next

-- slots are no temps
pub slots_pass : (test : ℕ → Bool) (ns : List ℕ) → each_temp test (map InSlot ns) ≡ true
slots_pass test [] = refl
slots_pass test (n ∷ ns) = slots_pass test ns
