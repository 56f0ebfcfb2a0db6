-- One location more of a path and of a text.
use Rattle.std.proofs.Common.{◌≡◌, ℕ, zero, suc, ◌-◌, ◌<◌, ap, refl, arith}
use Rattle.sum_rows.specs.declared.path.Root.TheVariants as root
use Rattle.sc_world.specs.Layout.{Layout, location}
use Rattle.sc_world.specs.Paths.{path_by, path_from, begun, Texts, spelled_by, spelled_from, spelled}
use Rattle.std.specs.Prelude.{[]}

pub path_step : (most at : ℕ) (p : Layout) → 0 < most
    → path_by most p at ≡ path_from (path_by (most - 1) p) (location p at).origin
path_step zero at p h = absurd (omega arith)
path_step (suc n) at p h =
    let e : n ≡ suc n - 1 = omega arith in ap (λ m. path_from (path_by m p) (location p at).origin) e

pub path_last : (most at : ℕ) (p : Layout) → most ≡ 0 → path_by most p at ≡ begun (root.Param 0)
path_last zero at p h = refl
path_last (suc n) at p h = absurd (omega (arith, h))

pub spelled_step : (most at : ℕ) (x : Texts) → 0 < most
    → spelled_by most x at ≡ spelled_from x (spelled_by (most - 1) x) (location x.layout at).origin
spelled_step zero at x h = absurd (omega arith)
spelled_step (suc n) at x h =
    let e : n ≡ suc n - 1 = omega arith in ap (λ m. spelled_from x (spelled_by m x) (location x.layout at).origin) e

pub spelled_last : (most at : ℕ) (x : Texts) → most ≡ 0 → spelled_by most x at ≡ spelled []
spelled_last zero at x h = refl
spelled_last (suc n) at x h = absurd (omega (arith, h))

pub ruleset path_steps = (path_step, path_last)

pub ruleset spelled_steps = (spelled_step, spelled_last)
