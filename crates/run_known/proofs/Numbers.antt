-- What numbers of the choice name, from 3 on; and that the largest summary has room for each.
use Rattle.std.proofs.Common.{◌≡◌, ℕ, zero, suc, ◌≤◌, max, List, [], ◌∷◌, Option, Some, None, slice_index_or, refl, arith}
use Rattle.sum_rows.specs.declared.row.State.TheVariants as state
use Rattle.sum_rows.specs.declared.row.Summary.{Summary}
use Rattle.sc_world.specs.Known.{given_pointer, param_state, out_state}
use Rattle.run_paths.specs.Seen.{Fits}
use Rattle.run_known.specs.Seen.{size_of, most_of}

pub given_pointer_many : (n : ℕ) (object : Option ℕ) → 3 ≤ n → given_pointer n object ≡ None
given_pointer_many zero o h = absurd (omega (arith, h))
given_pointer_many (suc zero) o h = absurd (omega (arith, h))
given_pointer_many (suc (suc zero)) o h = absurd (omega (arith, h))
given_pointer_many (suc (suc (suc n))) o h = refl

pub param_state_many : (n : ℕ) → 3 ≤ n → param_state n ≡ None
param_state_many zero h = absurd (omega (arith, h))
param_state_many (suc zero) h = absurd (omega (arith, h))
param_state_many (suc (suc zero)) h = absurd (omega (arith, h))
param_state_many (suc (suc (suc n))) h = refl

pub out_state_many : (n : ℕ) → 3 ≤ n → out_state n ≡ state.Same
out_state_many zero h = absurd (omega (arith, h))
out_state_many (suc zero) h = absurd (omega (arith, h))
out_state_many (suc (suc zero)) h = absurd (omega (arith, h))
out_state_many (suc (suc (suc n))) h = refl

fits_more : (m n : ℕ) (s : Option Summary) → m ≤ n → Fits m s → Fits n s
fits_more m n None h fits = tt
fits_more m n (Some sum) h fits = (omega (arith, h, fits.0), omega (arith, h, fits.1))

fits_itself : (n : ℕ) (s : Option Summary) → size_of s ≤ n → Fits n s
fits_itself n None h = tt
fits_itself n (Some sum) h = (omega (arith, h), omega (arith, h))

pub most_fits : (ss : List (Option Summary)) (k : ℕ) → Fits (most_of ss) (slice_index_or ss k None)
most_fits [] k = tt
most_fits (s ∷ ss) zero = fits_itself (max (size_of s) (most_of ss)) s (omega arith)
most_fits (s ∷ ss) (suc k) = fits_more (most_of ss) (max (size_of s) (most_of ss)) (slice_index_or ss k None) (omega arith) (most_fits ss k)
