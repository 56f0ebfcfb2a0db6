-- Some function has a report exactly if the reports of all are not none.
use Rattle.std.proofs.Common.{◌≡◌, ◌∙◌, ◌⊎◌, ℕ, ◌+◌, ◌<◌, ◌≤◌, ◌||◌, List, [], ◌∷◌, refl, sym, ap, inl, inr, arith}
use Rattle.std.specs.Prelude.{nat_lt, sum_by}
use Rattle.std.specs.List.{list_any}
use Rattle.std.proofs.lemmas.Bool.{cases_lt, lt-ltb, le-ltb}
use Rattle.std.proofs.lemmas.List.Sums.{sum_by-cons}
use Rattle.sum_rows.specs.declared.report.Verdict.{Verdict}
use Rattle.report_text.specs.Checks.{reports_in}
use Rattle.whole_checks.specs.Said.{has_report}

some_of_two : (a b : ℕ) → nat_lt 0 (a + b) ≡ (nat_lt 0 a || nat_lt 0 b)
some_of_two a b = by (cases_lt 0 a)
  where
    by : (0 < a) ⊎ (a ≤ 0) → nat_lt 0 (a + b) ≡ (nat_lt 0 a || nat_lt 0 b)
    by (inl some) = lt-ltb 0 (a + b) (omega (arith, some)) ∙ sym (ap (λ t. t || nat_lt 0 b) (lt-ltb 0 a some))
    by (inr none) =
        let same : a + b ≡ b = omega (arith, none) in ap (nat_lt 0) same ∙ sym (ap (λ t. t || nat_lt 0 b) (le-ltb 0 a none))

pub total_is_any : (vs : List Verdict) → nat_lt 0 (sum_by reports_in vs) ≡ list_any has_report vs
total_is_any [] = refl
total_is_any (v ∷ vs) =
    ap (nat_lt 0) (sum_by-cons reports_in v vs)
    ∙ (some_of_two (reports_in v) (sum_by reports_in vs) ∙ ap (λ t. nat_lt 0 (reports_in v) || t) (total_is_any vs))
