-- The locations of the layout of a function are right.
use Rattle.std.proofs.Common.{◌≡◌, ℕ, List, [], ◌∷◌, refl, sym, ap, subst, ◌∙◌}
use Rattle.std.specs.Prelude.{Result, Ok, Err}
use Rattle.sc_base.specs.declared.skip.LimitKind.{LimitKind}
use Rattle.sc_world.specs.Build.{Built}
use Rattle.sc_world.specs.Source.{Source}
use Rattle.sc_world.specs.Gather.{Found, nothing_found, gather_function}
use Rattle.sc_world.specs.Layout.{Layout, no_layout}
use Rattle.sc_world.specs.Places.{places, places_of, laid, lay_out}
use Rattle.layout_laws.specs.Origins.{IsLaidFor, found_in}
use Rattle.layout_laws.proofs.Steps.{After}
use Rattle.layout_laws.proofs.Layouts.{laid_for}
use Rattle.layout_laws.proofs.Literals.{literals_found}

abbrev Answer : Type 0
Answer = Result Layout LimitKind

abbrev ok : Layout → Answer
ok p = Ok p

ok_same : (p q : Layout) → ok p ≡ Ok q → p ≡ q
ok_same p q h = ap (ok_or p) h
  where
    ok_or : Layout → Answer → Layout
    ok_or d (Ok z) = z
    ok_or d (Err e) = d

abbrev err : LimitKind → Answer
err e = Err e

err_is : (p : Layout) (e : LimitKind) → err e ≡ Ok p → ⊥
err_is p e h = absurd (cc)

by_laid : (s : Source) (f : Found) (p : Layout) (r : Built Layout (Unit {0})) → After (λ u q. IsLaidFor s f q.locations) r
    → laid r ≡ Ok p → IsLaidFor s f p.locations
by_laid s f p (Ok (u, q)) h e = subst (λ (z : Layout). IsLaidFor s f z.locations) (ok_same q p e) h
by_laid s f p (Err k) h e = absurd (err_is p k e)

by_found : (s : Source) (p : Layout) (r : Built Found (Unit {0})) → gather_function s nothing_found ≡ r → places_of s r ≡ Ok p
    → IsLaidFor s (found_in r) p.locations
by_found s p (Ok (u, f)) g e =
    by_laid s f p (lay_out (record { source = s; found = f }) (record no_layout { sites = f.sites }))
    (laid_for s f (record no_layout { sites = f.sites }) refl (literals_found s f g)) e
by_found s p (Err k) g e = absurd (err_is p k e)

pub right : (s : Source) (p : Layout) → places s ≡ Ok p → IsLaidFor s (found_in (gather_function s nothing_found)) p.locations
right s p e = by_found s p (gather_function s nothing_found) refl e
