-- The variables in the order of the trail, and the place of each.

use Rattle.std.specs.Prelude.{◌≡◌, ℕ, ◌<◌, Bool, true, false, not, List, length, slice_index, slice_index_or}
use Rattle.sat_trail.specs.declared.trail.Step.{Step}

-- each place has a variable, and each variable stands at its place
pub record IsOrder (order : List Step) (places : List ℕ) : Type 0 where
  pub same : length order ≡ length places
  pub inside : (x : ℕ) → x < length places → slice_index places x < length places
  pub inverse : (x : ℕ) (d : Step) → x < length places → (slice_index_or order (slice_index places x) d).lit.var ≡ x
  pub bounded : (j : ℕ) (d : Step) → j < length order → (slice_index_or order j d).lit.var < length places

abbrev pub differs : Bool → Bool → Bool
differs true other = not other
differs false other = other
