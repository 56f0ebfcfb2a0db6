use Rattle.std.proofs.Common.{ap, subst, arith}
use Rattle.bit_net.proofs.Growth.{Grown-refl, Grown-trans}
use Rattle.gl_store.specs.Meets.{val_top}
use Rattle.gate_copies.specs.Readings.{IsStoredWhere}
use Rattle.gate_copies.proofs.Putting.{guarded_at, put_none, put_more, put_whole}
use Rattle.gate_copies.proofs.readings.store_cell.Goals as goal

pub loop-guarded-init : goal.loop-guarded-init
loop-guarded-init c = record { grown = Grown-refl _; so_far = put_none _ _ _ _ _ c.requires.store }

pub store_where-requires-clause-when : goal.store_where-requires-clause-when
store_where-requires-clause-when c =
    let below = guarded_at c.args.vals.now c.loop-guarded.guarded-index c.guarded-item.result c.loop-guarded-test.true in
    omega (arith, ap (λ g. g.when.at) c.guarded-item.is, below.0, c.requires.vals, c.loop-guarded.invariant.grown.longer)

pub store_where-requires-clause-val : goal.store_where-requires-clause-val
store_where-requires-clause-val c =
    let below = guarded_at c.args.vals.now c.loop-guarded.guarded-index c.guarded-item.result c.loop-guarded-test.true in
    omega (arith, ap (λ g. val_top g.val) c.guarded-item.is, below.1, c.requires.vals, c.loop-guarded.invariant.grown.longer)

pub loop-guarded-preserved : goal.loop-guarded-preserved
loop-guarded-preserved c =
    record {
      grown = Grown-trans _ _ _ c.loop-guarded.invariant.grown c.in_ok-store_where.ensures.grown;
      so_far =
          put_more c.args.live.at c.args.at.now.pairs.items c.args.vals.now _ _ c.loop-guarded.guarded-index c.guarded-item.result _ _ _ c.loop-guarded-test.true
          c.in_ok-store_where.ensures.grown
          (subst (λ g. IsStoredWhere c.store_where.new.net c.args.live.at c.args.at.now.pairs.items g c.loop-guarded.stored.locations.items c.store_where.new.stored.locations.items)
          c.guarded-item.is c.in_ok-store_where.ensures.ok)
          c.loop-guarded.invariant.so_far;
    }

pub returns-clause-ok : goal.returns-clause-ok
returns-clause-ok c =
    put_whole _ _ c.args.vals.now _ c.loop-guarded.guarded-index _ _ c.loop-guarded-test.false c.loop-guarded.invariant.so_far
