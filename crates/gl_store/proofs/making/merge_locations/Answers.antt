use Rattle.std.proofs.Common.{arith}
use Rattle.bit_net.proofs.Growth.{Grown-refl, Grown-trans}
use Rattle.gl_store.proofs.MakeLemmas.{merged_none, merged_step, merged_whole, same_kind_at, val_below_at, flags_below_at}
use Rattle.gl_store.proofs.making.merge_locations.Goals as goal

pub loop-i-init : goal.loop-i-init
loop-i-init c = record { grown = Grown-refl _; so_far = merged_none _ _ _ _ _ c.new-locations.ensures.items }

pub merge_location-requires-clause-kind : goal.merge_location-requires-clause-kind
merge_location-requires-clause-kind c = same_kind_at c.args.a.now c.args.b.now c.loop-i.i _ _ c.index-a-i.is c.index-b-i.is c.requires.shape c.loop-i-test.true

pub merge_location-requires-clause-a : goal.merge_location-requires-clause-a
merge_location-requires-clause-a c = val_below_at c.args.a.now c.loop-i.i _ _ c.index-a-i.is c.loop-i-test.true (omega
    (arith, c.requires.a, c.loop-i.invariant.grown.longer))

pub merge_location-requires-clause-b : goal.merge_location-requires-clause-b
merge_location-requires-clause-b c = val_below_at c.args.b.now c.loop-i.i _ _ c.index-b-i.is (omega arith) (omega
    (arith, c.requires.b, c.loop-i.invariant.grown.longer))

pub merge_location-requires-clause-a_flags : goal.merge_location-requires-clause-a_flags
merge_location-requires-clause-a_flags c = flags_below_at c.args.a.now c.loop-i.i _ _ c.index-a-i.is c.loop-i-test.true (omega
    (arith, c.requires.a, c.loop-i.invariant.grown.longer))

pub merge_location-requires-clause-b_flags : goal.merge_location-requires-clause-b_flags
merge_location-requires-clause-b_flags c = flags_below_at c.args.b.now c.loop-i.i _ _ c.index-b-i.is (omega arith) (omega
    (arith, c.requires.b, c.loop-i.invariant.grown.longer))

pub loop-i-preserved : goal.loop-i-preserved
loop-i-preserved c = record {
  grown = Grown-trans _ _ _ c.loop-i.invariant.grown c.in_ok-location.ensures.grown;
  so_far = merged_step _ _ c.args.c.at c.args.a.now c.args.b.now _ _ c.loop-i.i _ _ _ c.index-a-i.is c.index-b-i.is c.loop-i-test.true
      (omega arith) c.in_ok-push.ensures.items
      c.in_ok-location.ensures.grown c.in_ok-location.ensures.ok c.loop-i.invariant.so_far;
}

pub returns-clause-ok : goal.returns-clause-ok
returns-clause-ok c = merged_whole _ c.args.c.at c.args.a.now c.args.b.now _ c.loop-i.i c.loop-i-test.false (omega
    (arith, c.requires.count, c.loop-i-test.false)) c.loop-i.invariant.so_far
