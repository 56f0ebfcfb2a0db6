-- What holds of each number below another one.
use Rattle.std.proofs.Common.{◌≡◌, ◌⊎◌, inl, inr, ℕ, zero, suc, ◌-◌, ◌<◌, Bool, true, ◌&&◌, sym, ◌∙◌, ap, subst, arith}
use Rattle.std.proofs.lemmas.Bool.{and_parts, cases_order}
use Rattle.expr_fits.specs.Here.{each_below}

-- each passes
pub below : (test : ℕ → Bool) (n at : ℕ) → each_below test n ≡ true → at < n → test at ≡ true
below test zero at h low = absurd (omega (arith, low))
below test (suc n) at h low =
    let parts = and_parts (test n) (each_below test n) h in
    side (cases_order at n) parts.0 (λ less. below test n at parts.1 less)
  where
    side : (at ≡ n) ⊎ ((at < n) ⊎ (n < at)) → test n ≡ true → (at < n → test at ≡ true) → test at ≡ true
    side (inl same) last rest = subst (λ k. test k ≡ true) (sym same) last
    side (inr (inl less)) last rest = rest less
    side (inr (inr more)) last rest = absurd (omega (arith, low, more))

-- the last one passes, so that the others decide
pub fewer : (test : ℕ → Bool) (n : ℕ) (all : Bool) → 0 < n → test (n - 1) ≡ true → each_below test n ≡ all
    → each_below test (n - 1) ≡ all
fewer test zero all some last is = absurd (omega (arith, some))
fewer test (suc n) all some last is =
    let same : suc n - 1 ≡ n = omega arith in
    let passes : test n ≡ true = subst (λ k. test k ≡ true) same last in
    subst (λ k. each_below test k ≡ all) (sym same) (ap (λ b. b && each_below test n) (sym passes) ∙ is)
