use Rattle.std.proofs.Common.{◌≡◌, map, drop}
use Rattle.run_world.specs.Seen.{world}
use Rattle.run_inits.specs.Stores.{due_of, stores}
use Rattle.run_inits.proofs.stores.make_stores.Given as goal

abbrev pub invariant-loop-store : goal.invariant-loop-store
invariant-loop-store l = record {
  stored : stores (map due_of (drop l.store-index l.stores)) (world l.world)
      ≡ stores (map due_of l.fn.stores) (world l.fn.world);
  trace : l.world.trace ≡ l.fn.world.trace;
}
