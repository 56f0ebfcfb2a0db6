-- A call goes among calls that stand in order at the place that its definition says.
use Rattle.std.proofs.Common.{◌≡◌, zero, suc, Bool, true, false, List, [], ◌∷◌, map, refl, ap}
use Rattle.std.specs.Prelude.{if◌then◌else◌, insert}
use Rattle.sc_gather.specs.declared.found.Site.{Site}
use Rattle.sc_gather.specs.Seen.{call, calls_before}
use Rattle.sc_world.specs.Gather.{with_site, is_later}

step : (s r : Site) (rs : List Site) (b : Bool)
    → with_site (call s) (map call rs) ≡ map call (insert rs (calls_before s.pos rs) s)
    → (if b then call s ∷ call r ∷ map call rs else call r ∷ with_site (call s) (map call rs))
    ≡ map call (insert (r ∷ rs) (if b then zero else suc (calls_before s.pos rs)) s)
step s r rs true e = refl
step s r rs false e = ap (λ xs. call r ∷ xs) e

pub with_site_at : (s : Site) (rs : List Site) → with_site (call s) (map call rs) ≡ map call (insert rs (calls_before s.pos rs) s)
with_site_at s [] = refl
with_site_at s (r ∷ rs) = step s r rs (is_later s.pos r.pos) (with_site_at s rs)
