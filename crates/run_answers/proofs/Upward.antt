-- The path of a location, upward.
use Rattle.std.proofs.Common.{◌≡◌, ℕ, zero, suc, ◌+◌, ◌-◌, ◌<◌, ◌≤◌, Bool, true, ap, refl, ◌∙◌, arith, length}
use Rattle.sc_world.specs.declared.run.Origin.{Origin}
use Rattle.sc_world.specs.declared.run.Origin.TheVariants as origin
use Rattle.std.specs.List.{list_all}
use Rattle.sc_world.specs.Layout.{location}
use Rattle.sc_world.specs.Paths.{cells_on, cells_from}
use Rattle.sc_world.specs.Shows.{Over}
use Rattle.run_answers.specs.Seen.{was_true, met_by, met_from, is_met}

pub met_all : (o : Over) (at : ℕ) → is_met o at ≡ met_by o (length o.layout.locations) at
unfolding was_true met_by is_met
met_all o at = refl

from_is : (o : Over) (most : ℕ) (x : Origin) → list_all (was_true o) (cells_from (cells_on most o.layout) x) ≡ met_from o most x
unfolding met_by
from_is o most (origin.Param n) = refl
from_is o most (origin.Global n) = refl
from_is o most (origin.Local n) = refl
from_is o most (origin.Literal p) = refl
from_is o most (origin.Function n) = refl
from_is o most (origin.Target n) = refl
from_is o most (origin.Call n) = refl
from_is o most (origin.Part n s) = refl

pub met_begins : (o : Over) (n at : ℕ) → met_by o (n - 0) at ≡ met_by o n at
met_begins o n at = let e : n - 0 ≡ n = omega arith in ap (λ m. met_by o m at) e

one_step : (o : Over) (most at : ℕ) → met_by o (suc most) at ≡ met_from o most (location o.layout at).origin
unfolding met_by
one_step o most at = from_is o most (location o.layout at).origin

pub met_step : (o : Over) (n i at : ℕ) → i < n
    → met_by o (n - i) at ≡ met_from o (n - (i + 1)) (location o.layout at).origin
met_step o n i at low =
    let e : n - i ≡ suc (n - (i + 1)) = omega arith in
    ap (λ m. met_by o m at) e ∙ one_step o (n - (i + 1)) at

pub met_last : (o : Over) (n i at : ℕ) → n ≤ i → met_by o (n - i) at ≡ true
unfolding met_by
met_last o n i at past =
    let e : n - i ≡ zero = omega arith in ap (λ m. list_all (was_true o) (cells_on m o.layout at)) e

pub ruleset upward_steps = (met_all, met_begins, met_step, met_last)
