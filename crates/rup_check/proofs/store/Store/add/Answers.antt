-- A reference more, or one that is not noted.
use Rattle.std.proofs.Common.{◌++◌, ◌∷◌, [], List, Option, Some, length, sym, subst, ap, ◌∙◌, arith}
use Rattle.sat_base.specs.declared.literal.Lit.{Lit}
use Rattle.sat_pool.specs.declared.pool.Ref.{Ref}
use Rattle.rup_check.specs.Stored.{entries, AllLive}
use Rattle.rup_check.proofs.StoredLemmas.{length-entries, live-kept, live-push, entries-kept, entries-push}
use Rattle.rup_check.proofs.store.Store.add.Goals as goal

pub invariant_of-self-in_err-push : goal.invariant_of-self-in_err-push
invariant_of-self-in_err-push c =
    subst (λ (es : List (Option Ref)). AllLive c.put.new.self es) (sym c.in_err-push.ensures.items)
    (live-kept c.self.inside.pool c.put.new.self c.self.inside.table.items c.self.invariant c.put.ensures.kept)

pub invariant_of-self-2 : goal.invariant_of-self-2
invariant_of-self-2 c =
    subst (λ (es : List (Option Ref)). AllLive c.put.new.self es) (sym c.in_ok-push.ensures.items)
    (live-push c.self.inside.pool c.put.new.self c.self.inside.table.items c.in_ok-r.r c.args.clause.now c.self.invariant c.put.ensures.kept
    c.in_ok-r.ensures.read)

pub returns : goal.returns
returns c =
    let size = ap length c.self.view_is in
    let same = length-entries c.self.inside.pool c.self.inside.table.items in
    let len = c.len-id.ensures in (
      omega (arith, size, same, len, c.self.inside.table.ok.0),
      ap (λ (es : List (Option Ref)). entries c.put.new.self es) c.in_ok-push.ensures.items
          ∙ entries-push c.put.new.self c.self.inside.table.items c.in_ok-r.r
          ∙ ap (λ (o : Option (List Lit)). entries c.put.new.self c.self.inside.table.items ++ o ∷ []) c.in_ok-r.ensures.read
          ∙ ap (λ (es : List (Option (List Lit))). es ++ Some c.args.clause.now ∷ [])
          (entries-kept c.self.inside.pool c.put.new.self c.self.inside.table.items c.self.invariant c.put.ensures.kept ∙ c.self.view_is),
    )
