-- Lists of gates of which each holds also where others do.
use Rattle.std.proofs.Common.{◌≡◌, ℕ, ◌+◌, ◌<◌, ◌≤◌, nat_eq, Bool, true, false, ◌&&◌, ◌||◌, if◌then◌else◌, List, refl, sym, ◌∙◌, ap, arith, ◌⊎◌, inl, inr}
use Rattle.std.proofs.lemmas.Bool.{eqb-true, eq-eqb, ne_eqb, cases_eq, cases_lt}
use Rattle.bit_net.specs.declared.nodes.Gate.{Gate}
use Rattle.gate_runs.specs.Stands.{told}

-- the first `count` gates hold also where `more` says so, the others are as before
pub record ToldSoFar (v : ℕ → Bool) (count : ℕ) (more : ℕ → Bool) (old new : List Gate) : Type 0 where
  pub done : (l : ℕ) → l < count → told v new l ≡ (told v old l || more l)
  pub rest : (l : ℕ) → count ≤ l → told v new l ≡ told v old l

pub told_begin : (v : ℕ → Bool) (more : ℕ → Bool) (gs : List Gate) → ToldSoFar v 0 more gs gs
told_begin v more gs = record { done = λ l low. absurd (omega arith); rest = λ l low. refl }

pub told_step : (v : ℕ → Bool) (k : ℕ) (more : ℕ → Bool) (old mid new : List Gate) → ToldSoFar v k more old mid
    → ((l : ℕ) → told v new l ≡ (if nat_eq k l then (told v mid l || more k) else told v mid l)) → ToldSoFar v (k + 1) more old new
told_step v k more old mid new h e = record {
  done = λ l low. by_done l low (cases_eq k l);
  rest = λ l low. e l ∙ (ap (λ b. if b then (told v mid l || more k) else told v mid l) (ne_eqb k l (λ s. (let x : k ≡ l = s in omega arith))) ∙ h.rest l (omega arith));
}
  where
    by_done : (l : ℕ) → l < k + 1 → (k ≡ l) ⊎ (k ≡ l → ⊥) → told v new l ≡ (told v old l || more l)
    by_done l low (inl s) =
        e l ∙ (ap (λ b. if b then (told v mid l || more k) else told v mid l) (eq-eqb k l s)
        ∙ (ap (λ b. b || more k) (h.rest l (omega arith)) ∙ ap (λ j. told v old l || more j) s))
    by_done l low (inr n) =
        e l ∙ (ap (λ b. if b then (told v mid l || more k) else told v mid l) (ne_eqb k l n) ∙ h.done l (other l low n))
      where
        other : (l' : ℕ) → l' < k + 1 → (k ≡ l' → ⊥) → l' < k
        other l' less differ = (elim (cases_lt l' k) [ inl x ↦ x | inr x ↦ absurd (differ (omega arith)) ])

or_false : (b : Bool) → (b || false) ≡ b
or_false true = refl
or_false false = refl

-- where nothing ends, nothing is told
pub nothing_told : (a b x : Bool) → b ≡ false → a ≡ (a || (b && x))
nothing_told a b x e = sym (ap (λ y. a || (y && x)) e ∙ or_false a)

pub nothing_over : (a b : Bool) → b ≡ false → a ≡ (a || b)
nothing_over a b e = sym (ap (λ y. a || y) e ∙ or_false a)

pub put_at : (f : ℕ → Bool) (k l : ℕ) (x b : Bool) → x ≡ (f k || b) → (if nat_eq k l then x else f l) ≡ (if nat_eq k l then (f l || b) else f l)
put_at f k l x b e = by (nat_eq k l) refl
  where
    by : (t : Bool) → nat_eq k l ≡ t → (if t then x else f l) ≡ (if t then (f l || b) else f l)
    by true is = e ∙ ap (λ j. f j || b) (eqb-true k l is)
    by false is = refl
