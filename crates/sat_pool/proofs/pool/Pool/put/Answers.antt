-- One block more.
use Rattle.std.proofs.Common.{[], ap, ◌∙◌}
use Rattle.sat_pool.specs.Region.{reads}
use Rattle.sat_pool.proofs.Blocks.{whole_of, view_of, put_flat, length_of, reads-seam, reads-append, reads-end}
use Rattle.sat_pool.proofs.pool.Pool.put.Goals as goal

pub invariant_of-self-2 : goal.invariant_of-self-2
invariant_of-self-2 c =
    whole_of _ _ (c.in_ok-at.ensures.ok.1 ∙ put_flat c.self.inside.list.items c.args.self.now c.args.clause.now c.self.view_is c.self.invariant)

pub returns-clause-ok : goal.returns-clause-ok
returns-clause-ok c = (
  c.in_ok-at.ensures.ok.0 ∙ length_of c.self.inside.list.items c.args.self.now c.self.view_is c.self.invariant,
  view_of _ _ (c.in_ok-at.ensures.ok.1 ∙ put_flat c.self.inside.list.items c.args.self.now c.args.clause.now c.self.view_is c.self.invariant),
)

pub returns-clause-read : goal.returns-clause-read
returns-clause-read c =
    let is = view_of _ _ (c.in_ok-at.ensures.ok.1 ∙ put_flat c.self.inside.list.items c.args.self.now c.args.clause.now c.self.view_is c.self.invariant) in
    let at = c.in_ok-at.ensures.ok.0 ∙ length_of c.self.inside.list.items c.args.self.now c.self.view_is c.self.invariant in
    ap (λ bs. reads bs c.in_ok-at.at) is ∙ ap (reads _) at ∙ reads-seam c.args.self.now [] c.args.clause.now

pub returns-clause-kept : goal.returns-clause-kept
returns-clause-kept c q clause h =
    let is = view_of _ _ (c.in_ok-at.ensures.ok.1 ∙ put_flat c.self.inside.list.items c.args.self.now c.args.clause.now c.self.view_is c.self.invariant) in
    ap (λ bs. reads bs q) is ∙ reads-append c.args.self.now _ q clause h

pub returns-clause-fresh : goal.returns-clause-fresh
returns-clause-fresh c =
    let at = c.in_ok-at.ensures.ok.0 ∙ length_of c.self.inside.list.items c.args.self.now c.self.view_is c.self.invariant in
    ap (reads c.args.self.now) at ∙ reads-end c.args.self.now
