-- The reference is gone.
use Rattle.std.proofs.Common.{List, Option, None, set, length, ap, ◌∙◌, arith}
use Rattle.sat_base.specs.declared.literal.Lit.{Lit}
use Rattle.rup_check.proofs.StoredLemmas.{length-entries, live-set, entries-set}
use Rattle.rup_check.proofs.store.Store.take_out.Goals as goal

pub index_mut-requires : goal.index_mut-requires
index_mut-requires c =
    let size = ap length c.self.view_is in
    let same = length-entries c.self.inside.pool c.self.inside.table.items in
    let low = c.requires in
    omega (arith, size, same, low, c.self.inside.table.ok.0)

pub invariant_of-self : goal.invariant_of-self
invariant_of-self c = live-set c.self.inside.pool c.self.inside.table.items c.args.id c.self.invariant

pub returns : goal.returns
returns c =
    entries-set c.self.inside.pool c.self.inside.table.items c.args.id
    ∙ ap (λ (es : List (Option (List Lit))). set es c.args.id None) c.self.view_is
