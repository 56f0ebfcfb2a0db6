-- The block of a clause that is read.
use Rattle.std.proofs.Common.{subst, sym, ap, ◌∙◌}
use Rattle.sat_pool.specs.Layout.{HasBlock, lits_at}
use Rattle.sat_pool.proofs.Blocks.{has_block_in, reads_in}
use Rattle.sat_pool.proofs.pool.Pool.get.Goals as goal

pub lits_at-requires : goal.lits_at-requires
lits_at-requires c =
    subst (λ list. HasBlock list c.args.r.at) (sym c.as_slice.ensures.value)
    (has_block_in c.self.inside.list.items c.args.self.now c.args.r.at c.self.view_is c.self.invariant c.requires)

pub returns : goal.returns
returns c =
    reads_in c.self.inside.list.items c.args.self.now c.args.r.at c.lits_at.result.now c.self.view_is c.self.invariant c.requires
    (c.lits_at.ensures ∙ ap (λ list. lits_at list c.args.r.at) c.as_slice.ensures.value)
