-- The clause that the reference reads.
use Rattle.std.proofs.Common.{List, Option, slice_get, ap, sym, ◌∙◌}
use Rattle.sat_base.specs.declared.literal.Lit.{Lit}
use Rattle.sat_pool.specs.declared.pool.Ref.{Ref}
use Rattle.rup_check.proofs.StoredLemmas.{entries-some, entries-none}
use Rattle.rup_check.proofs.store.Store.get.Goals as goal

pub returns-in-Some : goal.returns-in-Some
returns-in-Some c =
    ap (λ (es : List (Option (List Lit))). slice_get es c.args.id) (sym c.self.view_is)
    ∙ entries-some c.self.inside.pool c.self.inside.table.items c.args.id c.in-Some.r c.get.result.now
    (ap (λ (es : List (Option Ref)). slice_get es c.args.id) (sym c.as_slice.ensures.value) ∙ c.in-Some.ensures.found) c.get.ensures

pub returns-in-None : goal.returns-in-None
returns-in-None c d h =
    entries-none c.self.inside.pool c.self.inside.table.items c.args.id d
    (λ r at. c.in-None.ensures.none r (ap (λ (es : List (Option Ref)). slice_get es c.args.id) c.as_slice.ensures.value ∙ at))
    (ap (λ (es : List (Option (List Lit))). slice_get es c.args.id) c.self.view_is ∙ h)
