-- One header is marked.
use Rattle.std.proofs.Common.{ap, ◌∙◌}
use Rattle.sat_pool.specs.Region.{reads, size}
use Rattle.sat_pool.proofs.Blocks.{whole_of, view_of, marked_in, killed_in, has_block_in}
use Rattle.sat_pool.proofs.pool.Pool.drop_clause.Goals as goal

pub mark_dropped-requires : goal.mark_dropped-requires
mark_dropped-requires c = (has_block_in c.self.inside.list.items c.args.self.now c.args.r.at c.self.view_is c.self.invariant c.requires).begins

pub invariant_of-self : goal.invariant_of-self
invariant_of-self c =
    whole_of _ _ (c.mark_dropped.ensures ∙ marked_in c.self.inside.list.items c.args.self.now c.args.r.at c.self.view_is c.self.invariant c.requires)

pub returns : goal.returns
returns c =
    let gone = killed_in c.args.self.now c.args.r.at c.requires in
    let is = view_of _ _ (c.mark_dropped.ensures ∙ marked_in c.self.inside.list.items c.args.self.now c.args.r.at c.self.view_is c.self.invariant c.requires) in
    record {
      dropped = is;
      unread = ap (λ bs. reads bs c.args.r.at) is ∙ gone.unread;
      others = λ q other. ap (λ bs. reads bs q) is ∙ gone.others q other;
      size = ap size is ∙ gone.same_size;
    }
