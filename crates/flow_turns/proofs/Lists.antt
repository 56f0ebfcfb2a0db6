-- Lists of gates, of values and of flags: one of them, and another one in its place.
use Rattle.std.proofs.Common.{◌≡◌, ℕ, zero, suc, ◌+◌, ◌<◌, ◌≤◌, nat_eq, Bool, false, cond, if◌then◌else◌, List, [], ◌∷◌, ◌++◌, length, slice_index_or, slice_set, refl, sym, ◌∙◌, ap, arith}
use lib.Dec.{eqb-suc-zero, eqb-suc-suc, eqb-zero-suc}
use Rattle.bit_net.specs.declared.nodes.Gate.{Gate}
use Rattle.gate_runs.specs.Stands.{told, gates_top}
use Rattle.gl_store.specs.declared.values.Val.{Val}
use Rattle.gl_store.specs.declared.values.Val.TheVariants as val
use Rattle.gl_store.specs.Meets.{val_top}
use Rattle.flow_turns.specs.Kept.{vals_top}

pub told_at : (v : ℕ → Bool) (gs : List Gate) (k : ℕ) (d : Gate) → k < length gs → v (slice_index_or gs k d).at ≡ told v gs k
unfolding told
told_at v [] k d low = absurd (omega (arith, low))
told_at v (g ∷ gs) zero d low = refl
told_at v (g ∷ gs) (suc k) d low = told_at v gs k d (omega (arith, low))

pub below_at : (gs : List Gate) (k : ℕ) (d : Gate) → k < length gs → (slice_index_or gs k d).at < gates_top gs
unfolding gates_top
below_at [] k d low = absurd (omega (arith, low))
below_at (g ∷ gs) zero d low = omega arith
below_at (g ∷ gs) (suc k) d low = omega (arith, below_at gs k d (omega (arith, low)))

pub told_set : (v : ℕ → Bool) (gs : List Gate) (k j : ℕ) (g : Gate) → k < length gs
    → told v (slice_set gs k g) j ≡ cond (nat_eq k j) (v g.at) (told v gs j)
unfolding told
told_set v [] k j g low = absurd (omega (arith, low))
told_set v (x ∷ gs) zero zero g low = refl
told_set v (x ∷ gs) zero (suc j) g low = ap (λ b. cond b (v g.at) (told v gs j)) (sym (eqb-zero-suc j))
told_set v (x ∷ gs) (suc k) zero g low = ap (λ b. cond b (v g.at) (v x.at)) (sym (eqb-suc-zero k))
told_set v (x ∷ gs) (suc k) (suc j) g low =
    told_set v gs k j g (omega (arith, low)) ∙ ap (λ b. cond b (v g.at) (told v gs j)) (sym (eqb-suc-suc k j))

pub top_set : (gs : List Gate) (k : ℕ) (g : Gate) (n : ℕ) → gates_top gs ≤ n → g.at < n → gates_top (slice_set gs k g) ≤ n
unfolding gates_top
top_set [] k g n top low = omega arith
top_set (x ∷ gs) zero g n top low = omega arith
top_set (x ∷ gs) (suc k) g n top low = omega (arith, top_set gs k g n (omega arith) low)

pub vals_set : (xs : List Val) (k : ℕ) (x : Val) (n : ℕ) → vals_top xs ≤ n → val_top x ≤ n → vals_top (slice_set xs k x) ≤ n
unfolding vals_top
vals_set [] k x n top low = omega arith
vals_set (y ∷ xs) zero x n top low = omega arith
vals_set (y ∷ xs) (suc k) x n top low = omega (arith, vals_set xs k x n (omega arith) low)

pub val_below : (xs : List Val) (k : ℕ) → val_top (slice_index_or xs k val.Unit) ≤ vals_top xs
unfolding vals_top
val_below [] k = omega arith
val_below (x ∷ xs) zero = omega arith
val_below (x ∷ xs) (suc k) = omega (arith, val_below xs k)

pub flag_set : (xs : List Bool) (k j : ℕ) (b : Bool) → k < length xs → slice_index_or (slice_set xs k b) j false ≡ (if nat_eq k j then b else slice_index_or xs j false)
flag_set [] k j b low = absurd (omega (arith, low))
flag_set (x ∷ xs) zero zero b low = refl
flag_set (x ∷ xs) zero (suc j) b low = ap (λ c. if c then b else slice_index_or xs j false) (sym (eqb-zero-suc j))
flag_set (x ∷ xs) (suc k) zero b low = ap (λ c. if c then b else x) (sym (eqb-suc-zero k))
flag_set (x ∷ xs) (suc k) (suc j) b low =
    flag_set xs k j b (omega (arith, low)) ∙ ap (λ c. if c then b else slice_index_or xs j false) (sym (eqb-suc-suc k j))

pub val_at_below : (xs : List Val) (k : ℕ) (d : Val) → k < length xs → val_top (slice_index_or xs k d) ≤ vals_top xs
unfolding vals_top
val_at_below [] k d low = absurd (omega (arith, low))
val_at_below (x ∷ xs) zero d low = omega arith
val_at_below (x ∷ xs) (suc k) d low = omega (arith, val_at_below xs k d (omega (arith, low)))

pub length_more : {A : Type 0} (xs : List A) (x : A) → length (xs ++ x ∷ []) ≡ length xs + 1
length_more [] x = refl
length_more (y ∷ xs) x = omega (arith, length_more xs x)
