-- One bit more.
use Rattle.std.proofs.Common.{◌+◌, ◌<◌, false, length, get_or, refl, sym, subst, arith}
use Rattle.sat_base.specs.declared.literal.Lit.{Lit}
use Rattle.query.proofs.Lowering.{IsLinked, linked_start, linked_more, linked_begun, linked_all, link_next_from}
use Rattle.query.proofs.lower.add_links.Goals as goal

pub loop-place-init : goal.loop-place-init
loop-place-init g c = record {
  vars = omega arith;
  top = c.requires.first;
  from = omega arith;
  linked = linked_start _ _ _ _ _ refl;
}

pub add_link-requires-clause-bit : goal.add_link-requires-clause-bit
add_link-requires-clause-bit g c =
    let from = c.loop-place.invariant.from in
    let d : Lit = record { var = 0; neg = false } in
    let below = c.requires.bits c.loop-place.place d c.loop-place-test.true in omega (arith, from, below)

pub loop-place-preserved : goal.loop-place-preserved
loop-place-preserved g c =
    let so_far = c.loop-place.invariant in
    let more = c.in_ok-at.ensures in
    let next = more.ok in
    let value = get_or c.args.values.now c.loop-place.place false in
    let wide : c.loop-place.place < length c.args.values.now = rw c.requires.values c.loop-place-test.true in
    let grown = so_far.vars in
    let step = more.vars in
    record {
      vars = omega (arith, grown, step);
      top = next.1;
      from = link_next_from c.args.first c.loop-place.at c.in_ok-at.at value so_far.from next.0;
      linked =
          subst (λ at. IsLinked (g.S.Solver.clauses c.args.s.now) (g.S.Solver.clauses c.add_link.new.s) c.args.first c.args.bits.now c.args.values.now (c.loop-place.place + 1) at)
          (sym next.0)
          (linked_more _ _ _ c.args.first c.args.bits.now c.args.values.now c.loop-place.place c.loop-place.at (record { var = 0; neg = false }) false
          c.loop-place-test.true wide next.2 so_far.linked);
    }

pub returns-in_err-at-clause-begun : goal.returns-in_err-at-clause-begun
returns-in_err-at-clause-begun g c =
    linked_begun _ _ c.args.first c.args.bits.now c.args.values.now c.loop-place.place c.loop-place.at _ c.in_err-at.ensures.err c.loop-place.invariant.linked

pub returns-clause-ok : goal.returns-clause-ok
returns-clause-ok g c =
    let over = c.loop-place-test.false in
    let wide = c.requires.values in
    (linked_all _ _ c.args.first c.args.bits.now c.args.values.now c.loop-place.place c.loop-place.at (omega arith) (omega (arith, over, wide)) c.loop-place.invariant.linked).0

pub returns-clause-begun : goal.returns-clause-begun
returns-clause-begun g c =
    linked_begun _ _ c.args.first c.args.bits.now c.args.values.now c.loop-place.place c.loop-place.at _ refl c.loop-place.invariant.linked

pub returns-clause-last : goal.returns-clause-last
returns-clause-last g c =
    let over = c.loop-place-test.false in
    let wide = c.requires.values in
    let top = c.loop-place.invariant.top in (
      (linked_all _ _ c.args.first c.args.bits.now c.args.values.now c.loop-place.place c.loop-place.at (omega arith) (omega (arith, over, wide)) c.loop-place.invariant.linked).1,
      omega (arith, top),
    )
