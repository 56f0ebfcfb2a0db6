-- The whole layout of a function.
use Rattle.std.proofs.Common.{◌≡◌, ℕ, zero, suc, ◌+◌, List, [], ◌∷◌, ap, subst, arith}
use Rattle.std.specs.Prelude.{Result, Ok, Err}
use Rattle.std.specs.List.{list_any}
use Rattle.std.specs.Prelude.{nat_eq}
use Rattle.sc_base.specs.declared.skip.LimitKind.{LimitKind}
use Rattle.sc_world.specs.declared.run.Origin.{Origin}
use Rattle.sc_world.specs.declared.run.Origin.TheVariants as origin
use Rattle.sc_world.specs.Tree.{Ty}
use Rattle.sc_world.specs.Build.{Built, ◌>>=◌}
use Rattle.sc_world.specs.Source.{Source}
use Rattle.sc_world.specs.Gather.{Found, nothing_found, gather_function}
use Rattle.sc_world.specs.Layout.{Layout, no_layout}
use Rattle.sc_world.specs.Objects.{Ground, Nothing, Cells, CellsAndStates, Object, Stub, whole, stub, count, follow_range, lay_params, lay_global, lay_globals, lay_locals, lay_literals, levels}
use Rattle.sc_world.specs.Occurrences.{occur_all, number_all}
use Rattle.sc_world.specs.Places.{lay_out, laid, places_of, places}
use Rattle.walk_laws.specs.Objects.{HasObjects}
use Rattle.object_laws.proofs.Steps.{After, Grows, Keeps, if_keeps, nothing_keeps, stub_keeps, joined, unit_done}
use Rattle.object_laws.proofs.Objects.{range_keeps, whole_keeps}
use Rattle.object_laws.proofs.Calls.{count_keeps, number_keeps, occur_all_keeps}

params_keep : (k : ℕ) (ts : List Ty) (g : Ground) → Keeps 0 (lay_params k ts g)
params_keep k [] g = nothing_keeps 0
params_keep k (t ∷ ts) g =
    joined 0 (whole g Cells t (origin.Param k)) (λ _. lay_params (k + 1) ts g) (whole_keeps g Cells t (origin.Param k)) (λ _. params_keep (k + 1) ts g)

global_keeps : (g : Ground) (k : ℕ) (t : Ty) → Keeps 0 (lay_global g k t)
global_keeps g k t =
    if_keeps 0 (list_any (nat_eq k) g.found.globals) (whole g CellsAndStates t (origin.Global k) >>= λ _. unit_done) unit_done
    (joined 0 (whole g CellsAndStates t (origin.Global k)) (λ _. unit_done) (whole_keeps g CellsAndStates t (origin.Global k)) (λ _. nothing_keeps 0))
    (nothing_keeps 0)

globals_keep : (k : ℕ) (ts : List Ty) (g : Ground) → Keeps 0 (lay_globals k ts g)
globals_keep k [] g = nothing_keeps 0
globals_keep k (t ∷ ts) g = joined 0 (lay_global g k t) (λ _. lay_globals (k + 1) ts g) (global_keeps g k t) (λ _. globals_keep (k + 1) ts g)

locals_keep : (k : ℕ) (ts : List Ty) (g : Ground) → Keeps 0 (lay_locals k ts g)
locals_keep k [] g = nothing_keeps 0
locals_keep k (t ∷ ts) g =
    joined 0 (whole g Nothing t (origin.Local k)) (λ _. lay_locals (k + 1) ts g) (whole_keeps g Nothing t (origin.Local k))
    (λ _. locals_keep (k + 1) ts g)

literals_keep : (os : List Origin) → Keeps 0 (lay_literals os)
literals_keep [] = nothing_keeps 0
literals_keep (o ∷ os) = joined 0 (stub o) (λ _. lay_literals os) (stub_keeps 0 o) (λ _. literals_keep os)

levels_keep : (reach from to : ℕ) (g : Ground) → Keeps 0 (levels reach from to g)
levels_keep zero from to g = range_keeps from to g Stub
levels_keep (suc reach) from to g =
    joined 0 count (λ start. follow_range from to g (Object CellsAndStates) >>= λ _. count >>= λ end. levels reach start end g) (count_keeps 0)
    (λ start.
    joined 0 (follow_range from to g (Object CellsAndStates)) (λ _. count >>= λ end. levels reach start end g)
    (range_keeps from to g (Object CellsAndStates))
    (λ _.
    joined 0 count (λ end. levels reach start end g) (count_keeps 0) (λ end. levels_keep reach start end g)))

calls_keep : (g : Ground) → Keeps 0 (occur_all 0 g.found.sites g >>= λ _. number_all 0 g.found.sites g)
calls_keep g =
    joined 0 (occur_all 0 g.found.sites g) (λ _. number_all 0 g.found.sites g) (occur_all_keeps 0 g.found.sites g) (λ _. number_keeps 0 g.found.sites g)

behind_keep : (g : Ground) (entered : ℕ)
    → Keeps 0 (lay_locals 0 g.source.locals g >>= λ _. lay_literals g.found.literals >>= λ _. levels g.source.reach 0 entered g >>= λ _.
    occur_all 0 g.found.sites g >>= λ _. number_all 0 g.found.sites g)
behind_keep g entered =
    joined 0 (lay_locals 0 g.source.locals g)
    (λ _. lay_literals g.found.literals >>= λ _. levels g.source.reach 0 entered g >>= λ _. occur_all 0 g.found.sites g >>= λ _.
    number_all 0 g.found.sites g)
    (locals_keep 0 g.source.locals g)
    (λ _.
    joined 0 (lay_literals g.found.literals)
    (λ _. levels g.source.reach 0 entered g >>= λ _. occur_all 0 g.found.sites g >>= λ _. number_all 0 g.found.sites g)
    (literals_keep g.found.literals)
    (λ _.
    joined 0 (levels g.source.reach 0 entered g) (λ _. occur_all 0 g.found.sites g >>= λ _. number_all 0 g.found.sites g)
    (levels_keep g.source.reach 0 entered g) (λ _. calls_keep g)))

whole_layout : (g : Ground) → Keeps 0 (lay_out g)
whole_layout g =
    joined 0 (lay_params 0 g.source.params g)
    (λ _. lay_globals 0 g.source.globals g >>= λ _. count >>= λ entered. lay_locals 0 g.source.locals g >>= λ _. lay_literals g.found.literals
    >>= λ _. levels g.source.reach 0 entered g >>= λ _. occur_all 0 g.found.sites g >>= λ _. number_all 0 g.found.sites g)
    (params_keep 0 g.source.params g)
    (λ _.
    joined 0 (lay_globals 0 g.source.globals g)
    (λ _. count >>= λ entered. lay_locals 0 g.source.locals g >>= λ _. lay_literals g.found.literals >>= λ _. levels g.source.reach 0 entered g
    >>= λ _. occur_all 0 g.found.sites g >>= λ _. number_all 0 g.found.sites g)
    (globals_keep 0 g.source.globals g)
    (λ _.
    joined 0 count
    (λ entered. lay_locals 0 g.source.locals g >>= λ _. lay_literals g.found.literals >>= λ _. levels g.source.reach 0 entered g >>= λ _.
    occur_all 0 g.found.sites g >>= λ _. number_all 0 g.found.sites g)
    (count_keeps 0) (λ entered. behind_keep g entered)))

-- The layout that there is.

abbrev Answer : Type 0
Answer = Result Layout LimitKind

abbrev ok : Layout → Answer
ok p = Ok p

ok_same : (p q : Layout) → ok p ≡ Ok q → p ≡ q
ok_same p q h = ap (ok_or p) h
  where
    ok_or : Layout → Answer → Layout
    ok_or d (Ok z) = z
    ok_or d (Err e) = d

abbrev err : LimitKind → Answer
err e = Err e

err_is : (p : Layout) (e : LimitKind) → err e ≡ Ok p → ⊥
err_is p e h = absurd (cc)

by_laid : (start p : Layout) (r : Built Layout (Unit {0})) → After (λ u q. Grows start q) r → laid r ≡ Ok p → HasObjects p
by_laid start p (Ok (u, q)) h e = subst (λ (z : Layout). HasObjects z) (ok_same q p e) (record { roots = h.good.roots })
by_laid start p (Err k) h e = absurd (err_is p k e)

by_found : (s : Source) (p : Layout) (r : Built Found (Unit {0})) → places_of s r ≡ Ok p → HasObjects p
by_found s p (Ok (u, f)) e =
    let start : Layout = record no_layout { sites = f.sites } in
    by_laid start p (lay_out (record { source = s; found = f }) start)
    (whole_layout (record { source = s; found = f }) start (omega arith) (record { roots = λ i low. absurd (omega (arith, low)) })) e
by_found s p (Err k) e = absurd (err_is p k e)

pub objects : (s : Source) (p : Layout) → places s ≡ Ok p → HasObjects p
objects s p e = by_found s p (gather_function s nothing_found) e
