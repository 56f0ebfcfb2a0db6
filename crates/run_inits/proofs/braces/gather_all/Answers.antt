-- One value in braces after another.
use Rattle.std.proofs.Common.{◌≡◌, ◌+◌, ◌<◌, ◌∷◌, length, map, drop, ap, ◌∙◌, arith}
use Rattle.std.proofs.lemmas.Result.{err_from_is_err_and}
use Rattle.sc_world.specs.View.{given}
use Rattle.run_room.specs.Room.{givens_room}
use Rattle.run_world.specs.Seen.{world, env, how_ended}
use Rattle.run_inits.specs.Room.{room_of_given, room_of_givens}
use Rattle.run_inits.specs.Seen.{given_of, givens_of, most}
use Rattle.run_inits.specs.Stores.{due_of, all_stores}
use Rattle.run_inits.proofs.StoreLaws.{next_mapped, gathered_on, gathered_ends}
use Rattle.run_inits.proofs.braces.gather_all.Goals as goal

pub returns-in_err-gather_given-clause-gathered : goal.returns-in_err-gather_given-clause-gathered
returns-in_err-gather_given-clause-gathered g c =
    let here = c.args.here.now in
    let items = c.args.items.now in
    let i = c.loop-item.item-index in
    let x = c.item-item.result in
    let low : i < length items = omega (arith, c.loop-item-test.true) in
    let next : givens_of here (drop i items) ≡ given_of here x ∷ givens_of here (drop (i + 1) items) =
    next_mapped (given (env here).source.structs) items i x low c.item-item.is in
    let p = err_from_is_err_and c.from_residual.result c.from_residual.ensures.1 in
    rw (p.1, p.2)
    (gathered_ends (env here) c.args.at (given_of here x) (givens_of here (drop i items))
    (givens_of here (drop (i + 1) items)) (map due_of c.loop-item.space.stores.items)
    (how_ended c.in_err-gather_given.field-0.0) (world c.loop-item.world) (world c.gather_given.new.world)
    (all_stores (env here) c.args.at (givens_of here items) (world c.args.world.now)) next
    c.in_err-gather_given.ensures.gathered c.loop-item.invariant.gathered)

pub returns-in_err-gather_given-clause-used : goal.returns-in_err-gather_given-clause-used
returns-in_err-gather_given-clause-used g c =
    let here = c.args.here.now in
    let items = c.args.items.now in
    let i = c.loop-item.item-index in
    let x = c.item-item.result in
    let low : i < length items = omega (arith, c.loop-item-test.true) in
    let next : givens_of here (drop i items) ≡ given_of here x ∷ givens_of here (drop (i + 1) items) =
    next_mapped (given (env here).source.structs) items i x low c.item-item.is in
    let needs : room_of_givens here (drop i items) ≡ room_of_given here x + room_of_givens here (drop (i + 1) items) =
    ap (givens_room (most here)) next in
    let used = c.gather_given.ensures.used in
    let so_far = c.loop-item.invariant in (
      omega (arith, needs, used.0, so_far.few_events),
      (
        omega (arith, used.1.0, so_far.room),
        (omega (arith, used.1.1.0, so_far.capacity), omega (arith, used.1.1.1, so_far.few_cells)),
      ),
    )

pub loop-item-preserved : goal.loop-item-preserved
loop-item-preserved g c =
    let here = c.args.here.now in
    let items = c.args.items.now in
    let i = c.loop-item.item-index in
    let x = c.item-item.result in
    let low : i < length items = omega (arith, c.loop-item-test.true) in
    let next : givens_of here (drop i items) ≡ given_of here x ∷ givens_of here (drop (i + 1) items) =
    next_mapped (given (env here).source.structs) items i x low c.item-item.is in
    let needs : room_of_givens here (drop i items) ≡ room_of_given here x + room_of_givens here (drop (i + 1) items) =
    ap (givens_room (most here)) next in
    let used = c.gather_given.ensures.used in
    let so_far = c.loop-item.invariant in
    record {
      gathered = gathered_on (env here) c.args.at (given_of here x) (givens_of here (drop i items))
          (givens_of here (drop (i + 1) items)) (map due_of c.loop-item.space.stores.items)
          (map due_of c.gather_given.new.space.stores.items) (world c.loop-item.world) (world c.gather_given.new.world)
          (all_stores (env here) c.args.at (givens_of here items) (world c.args.world.now)) next
          c.in_ok-gather_given.ensures.gathered so_far.gathered;
      same = c.gather_given.ensures.reads ∙ so_far.same;
      unchanged = c.gather_given.ensures.reads ∙ so_far.unchanged;
      locations = omega (arith, used.1.1.1, so_far.locations);
      few_cells = omega (arith, used.1.1.1, so_far.few_cells);
      few_events = omega (arith, needs, used.0, so_far.few_events);
      room = omega (arith, used.1.0, so_far.room);
      arguments = c.in_ok-gather_given.ensures.arguments ∙ so_far.arguments;
      capacity = omega (arith, used.1.1.0, so_far.capacity);
      few_stores = omega (arith, needs, c.gather_given.ensures.stores, so_far.few_stores);
      store_room = omega (arith, c.gather_given.ensures.store_room, so_far.store_room);
    }
