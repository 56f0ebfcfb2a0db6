-- Lists of gates: what one of them tells, and another one in its place.
use Rattle.std.proofs.Common.{◌≡◌, ℕ, zero, suc, ◌+◌, ◌<◌, ◌≤◌, max, nat_eq, Bool, false, cond, List, [], ◌∷◌, ◌++◌, length, slice_index_or, slice_set, refl, sym, ◌∙◌, ap, arith}
use lib.Dec.{eqb-suc-zero, eqb-suc-suc, eqb-zero-suc}
use Rattle.bit_net.specs.declared.nodes.Gate.{Gate}
use Rattle.gate_runs.specs.Stands.{told, gates_top}

pub told_at : (v : ℕ → Bool) (gs : List Gate) (k : ℕ) (d : Gate) → k < length gs → v (slice_index_or gs k d).at ≡ told v gs k
unfolding told
told_at v [] k d low = absurd (omega (arith, low))
told_at v (g ∷ gs) zero d low = refl
told_at v (g ∷ gs) (suc k) d low = told_at v gs k d (omega (arith, low))

pub below_at : (gs : List Gate) (k : ℕ) (d : Gate) → k < length gs → (slice_index_or gs k d).at < gates_top gs
unfolding gates_top
below_at [] k d low = absurd (omega (arith, low))
below_at (g ∷ gs) zero d low = omega arith
below_at (g ∷ gs) (suc k) d low = omega (arith, below_at gs k d (omega (arith, low)))

pub told_set : (v : ℕ → Bool) (gs : List Gate) (k j : ℕ) (g : Gate) → k < length gs
    → told v (slice_set gs k g) j ≡ cond (nat_eq k j) (v g.at) (told v gs j)
unfolding told
told_set v [] k j g low = absurd (omega (arith, low))
told_set v (x ∷ gs) zero zero g low = refl
told_set v (x ∷ gs) zero (suc j) g low = ap (λ b. cond b (v g.at) (told v gs j)) (sym (eqb-zero-suc j))
told_set v (x ∷ gs) (suc k) zero g low = ap (λ b. cond b (v g.at) (v x.at)) (sym (eqb-suc-zero k))
told_set v (x ∷ gs) (suc k) (suc j) g low =
    told_set v gs k j g (omega (arith, low)) ∙ ap (λ b. cond b (v g.at) (told v gs j)) (sym (eqb-suc-suc k j))

pub top_set : (gs : List Gate) (k : ℕ) (g : Gate) → gates_top (slice_set gs k g) ≤ max (gates_top gs) (g.at + 1)
unfolding gates_top
top_set [] k g = omega arith
top_set (x ∷ gs) zero g = omega arith
top_set (x ∷ gs) (suc k) g = omega (arith, top_set gs k g)

-- gates that never hold
pub told_more : (v : ℕ → Bool) (gs : List Gate) (g : Gate) → v g.at ≡ false → ((k : ℕ) → told v gs k ≡ false)
    → (k : ℕ) → told v (gs ++ g ∷ []) k ≡ false
unfolding told
told_more v [] g never none zero = never
told_more v [] g never none (suc k) = refl
told_more v (x ∷ gs) g never none zero = none zero
told_more v (x ∷ gs) g never none (suc k) = told_more v gs g never (λ j. none (suc j)) k

pub top_more : (gs : List Gate) (g : Gate) (n : ℕ) → g.at < n → gates_top gs ≤ n → gates_top (gs ++ g ∷ []) ≤ n
unfolding gates_top
top_more [] g n low top = omega (arith, low)
top_more (x ∷ gs) g n low top = omega (arith, top, top_more gs g n low (omega (arith, top)))

pub told_none : (v : ℕ → Bool) (k : ℕ) → told v [] k ≡ false
unfolding told
told_none v k = refl

pub top_none : gates_top [] ≡ 0
unfolding gates_top
top_none = refl

pub length_more : (gs : List Gate) (g : Gate) → length (gs ++ g ∷ []) ≡ length gs + 1
length_more [] g = refl
length_more (x ∷ gs) g = omega (arith, length_more gs g)
