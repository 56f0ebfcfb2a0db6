-- Switches, items one after another, and turns of loops.
use Rattle.std.proofs.Common.{◌≡◌, ◌+◌, ◌<◌, Option, List, Result, length, drop, slice_index_or, sym, ap, subst, ◌∙◌, arith}
use Rattle.std.proofs.lemmas.Result.{err_from_is_err_and}
use Rattle.sc_typed.specs.declared.stmt.TStmt.{TStmt}
use Rattle.sc_world.specs.Layout.{Layout}
use Rattle.sc_world.specs.Source.{Source}
use Rattle.sc_world.specs.View.{stm}
use Rattle.sc_world.specs.Tree.{Switch, Stms'}
use Rattle.sc_world.specs.World as spec
use Rattle.sc_world.specs.World.{goes_on, done}
use Rattle.sc_world.specs.Exec as exec
use Rattle.sc_world.specs.Exec.{exec_all, switch_by}
use Rattle.run_room.specs.Room.{stm_room, stms_room}
use Rattle.run_world.specs.Seen.{world, env, how_ended, cell, Does}
use Rattle.run_inits.specs.Seen.{exp_of, most}
use Rattle.run_stmts.specs.Loops.{behind_room}
use Rattle.run_stmts.specs.Room.{room_of, room_of_items}
use Rattle.run_stmts.specs.Seen.{flow, flow_if, seek, seek_if, after, loop_of}
use Rattle.run_stmts.specs.Trees.{stm_of, stms_of}
use Rattle.run_stmts.proofs.Fits.{fits_less}
use Rattle.run_stmts.proofs.Items.{next_item, item_seeks, item_ends, item_errs}
use Rattle.run_stmts.proofs.LoopLaws.{loop_ends, loop_errs}
use Rattle.run_stmts.proofs.LoopTests.{turn_in}
use Rattle.run_stmts.proofs.Switches.{stm_switch, switch_goes}
use Rattle.run_stmts.proofs.execute.+execute.Goals as goal

pub exec-returns-in_err-flow-in-Some-chosen_item-clause-done : goal.exec-returns-in_err-flow-in-Some-chosen_item-clause-done
exec-returns-in_err-flow-in-Some-chosen_item-clause-done g t c =
    let here = c.args.here.now in
    let structs = (env here).source.structs in
    let xs = c.in-Switch.xs in
    let late = world c.event.new.world in
    let is : stm_of here c.args.s.now ≡ Switch c.in-Switch.pos (exp_of here c.in-Switch.e) (stms_of here xs) =
    ap (stm structs) c.in-Switch.is ∙ stm_switch structs c.in-Switch.e xs c.in-Switch.pos c.in-Switch.field-3 in
    let goes = switch_goes c.in-Switch.pos (exp_of here c.in-Switch.e) (stms_of here xs) (stm_of here c.args.s.now) (env here)
    (world c.args.world.now) (world c.evaluate.new.world) late (cell c.in_ok-value-in-Switch.value) c.switch_event.result
    c.number.result is c.in_ok-value-in-Switch.ensures.evaluated c.switch_event.ensures c.event.ensures.event c.number.ensures in
    let chosen = ap (λ o. switch_by o (λ k. exec_all (stms_of here xs) k (env here)) late)
    (sym c.chosen_item.ensures ∙ ap seek_if c.in-Some-chosen_item.is) in
    let p = err_from_is_err_and c.from_residual-in_err-flow-in-Some-chosen_item.result
    c.from_residual-in_err-flow-in-Some-chosen_item.ensures.1 in
    rw (p.1, p.2)
    (goes ∙ (chosen ∙ ap (λ r. goes_on r (λ f. done (exec.out_of_switch f))) c.in_err-flow-in-Some-chosen_item.ensures.done))

pub exec-returns-in-None-chosen_item-clause-done : goal.exec-returns-in-None-chosen_item-clause-done
exec-returns-in-None-chosen_item-clause-done g t c =
    let here = c.args.here.now in
    let structs = (env here).source.structs in
    let xs = c.in-Switch.xs in
    let late = world c.event.new.world in
    let is : stm_of here c.args.s.now ≡ Switch c.in-Switch.pos (exp_of here c.in-Switch.e) (stms_of here xs) =
    ap (stm structs) c.in-Switch.is ∙ stm_switch structs c.in-Switch.e xs c.in-Switch.pos c.in-Switch.field-3 in
    let goes = switch_goes c.in-Switch.pos (exp_of here c.in-Switch.e) (stms_of here xs) (stm_of here c.args.s.now) (env here)
    (world c.args.world.now) (world c.evaluate.new.world) late (cell c.in_ok-value-in-Switch.value) c.switch_event.result
    c.number.result is c.in_ok-value-in-Switch.ensures.evaluated c.switch_event.ensures c.event.ensures.event c.number.ensures in
    goes ∙ ap (λ o. switch_by o (λ k. exec_all (stms_of here xs) k (env here)) late)
    (sym c.chosen_item.ensures ∙ ap seek_if c.in-None-chosen_item.is)

pub exec-returns-in_ok-flow-in-Some-chosen_item-clause-done : goal.exec-returns-in_ok-flow-in-Some-chosen_item-clause-done
exec-returns-in_ok-flow-in-Some-chosen_item-clause-done g t c =
    let here = c.args.here.now in
    let structs = (env here).source.structs in
    let xs = c.in-Switch.xs in
    let late = world c.event.new.world in
    let is : stm_of here c.args.s.now ≡ Switch c.in-Switch.pos (exp_of here c.in-Switch.e) (stms_of here xs) =
    ap (stm structs) c.in-Switch.is ∙ stm_switch structs c.in-Switch.e xs c.in-Switch.pos c.in-Switch.field-3 in
    let goes = switch_goes c.in-Switch.pos (exp_of here c.in-Switch.e) (stms_of here xs) (stm_of here c.args.s.now) (env here)
    (world c.args.world.now) (world c.evaluate.new.world) late (cell c.in_ok-value-in-Switch.value) c.switch_event.result
    c.number.result is c.in_ok-value-in-Switch.ensures.evaluated c.switch_event.ensures c.event.ensures.event c.number.ensures in
    let chosen = ap (λ o. switch_by o (λ k. exec_all (stms_of here xs) k (env here)) late)
    (sym c.chosen_item.ensures ∙ ap seek_if c.in-Some-chosen_item.is) in
    goes ∙ (chosen ∙ (ap (λ r. goes_on r (λ f. done (exec.out_of_switch f))) c.in_ok-flow-in-Some-chosen_item.ensures.done
    ∙ ap (λ f. done f (world c.exec_items-in-Some-chosen_item.new.world)) (sym c.out_of_switch.ensures)))

pub exec_items-returns-in_err-next-clause-done : goal.exec_items-returns-in_err-next-clause-done
exec_items-returns-in_err-next-clause-done g t c =
    let here = c.args.here.now in
    let xs = c.args.xs.now in
    let i = c.loop-x.x-index in
    let x = c.x-item.result in
    let same = c.as_slice-x-items.ensures in
    let low : i < length xs = omega (arith, c.loop-x-test.true, ap length same) in
    let item : x ≡ slice_index_or xs i x = subst (λ (ys : List TStmt). x ≡ slice_index_or ys i x) same c.x-item.is in
    let next : stms_of here (drop i xs) ≡ Stms' (stm_of here x) (stms_of here (drop (i + 1) xs)) =
    next_item (env here).source.structs xs i x low item in
    let begun : exec_all (stms_of here (drop i xs)) (seek c.loop-x.sought) (env here) (world c.loop-x.world)
    ≡ exec_all (Stms' (stm_of here x) (stms_of here (drop (i + 1) xs))) (seek c.loop-x.sought) (env here) (world c.loop-x.world) =
    ap (λ ss. exec_all ss (seek c.loop-x.sought) (env here) (world c.loop-x.world)) next in
    let p = err_from_is_err_and c.from_residual.result c.from_residual.ensures.1 in
    rw (p.1, p.2)
    (sym c.loop-x.invariant.executed ∙ (begun
    ∙ item_errs (stm_of here x) (stms_of here (drop (i + 1) xs)) (seek c.loop-x.sought) (how_ended c.in_err-next.field-0.0)
    (env here) (world c.loop-x.world) (world c.exec_item.new.world) c.in_err-next.ensures.done))

pub exec_items-returns-in_err-next-clause-used : goal.exec_items-returns-in_err-next-clause-used
exec_items-returns-in_err-next-clause-used g t c =
    let here = c.args.here.now in
    let xs = c.args.xs.now in
    let i = c.loop-x.x-index in
    let x = c.x-item.result in
    let same = c.as_slice-x-items.ensures in
    let low : i < length xs = omega (arith, c.loop-x-test.true, ap length same) in
    let item : x ≡ slice_index_or xs i x = subst (λ (ys : List TStmt). x ≡ slice_index_or ys i x) same c.x-item.is in
    let next : stms_of here (drop i xs) ≡ Stms' (stm_of here x) (stms_of here (drop (i + 1) xs)) =
    next_item (env here).source.structs xs i x low item in
    let needs : room_of_items here (drop i xs) ≡ room_of here x + room_of_items here (drop (i + 1) xs) =
    ap (stms_room (env here).source.depth (most here)) next in
    let used = c.exec_item.ensures.used in
    let so_far = c.loop-x.invariant in (
      omega (arith, needs, used.0, so_far.few_events),
      (
        omega (arith, used.1.0, so_far.room),
        (omega (arith, used.1.1.0, so_far.capacity), omega (arith, used.1.1.1, so_far.few_cells)),
      ),
    )

pub exec_items-returns-in-Ends-clause-done : goal.exec_items-returns-in-Ends-clause-done
exec_items-returns-in-Ends-clause-done g t c =
    let here = c.args.here.now in
    let xs = c.args.xs.now in
    let i = c.loop-x.x-index in
    let x = c.x-item.result in
    let same = c.as_slice-x-items.ensures in
    let low : i < length xs = omega (arith, c.loop-x-test.true, ap length same) in
    let item : x ≡ slice_index_or xs i x = subst (λ (ys : List TStmt). x ≡ slice_index_or ys i x) same c.x-item.is in
    let next : stms_of here (drop i xs) ≡ Stms' (stm_of here x) (stms_of here (drop (i + 1) xs)) =
    next_item (env here).source.structs xs i x low item in
    let begun : exec_all (stms_of here (drop i xs)) (seek c.loop-x.sought) (env here) (world c.loop-x.world)
    ≡ exec_all (Stms' (stm_of here x) (stms_of here (drop (i + 1) xs))) (seek c.loop-x.sought) (env here) (world c.loop-x.world) =
    ap (λ ss. exec_all ss (seek c.loop-x.sought) (env here) (world c.loop-x.world)) next in
    let ended = c.in_ok-next.ensures.done ∙ ap (λ a. done (after a) (world c.exec_item.new.world)) c.in-Ends.is in
    sym c.loop-x.invariant.executed ∙ (begun
    ∙ item_ends (stm_of here x) (stms_of here (drop (i + 1) xs)) (seek c.loop-x.sought) (flow c.in-Ends.flow) (env here)
    (world c.loop-x.world) (world c.exec_item.new.world) ended)

pub exec_items-returns-in-Ends-clause-used : goal.exec_items-returns-in-Ends-clause-used
exec_items-returns-in-Ends-clause-used g t c =
    let here = c.args.here.now in
    let xs = c.args.xs.now in
    let i = c.loop-x.x-index in
    let x = c.x-item.result in
    let same = c.as_slice-x-items.ensures in
    let low : i < length xs = omega (arith, c.loop-x-test.true, ap length same) in
    let item : x ≡ slice_index_or xs i x = subst (λ (ys : List TStmt). x ≡ slice_index_or ys i x) same c.x-item.is in
    let next : stms_of here (drop i xs) ≡ Stms' (stm_of here x) (stms_of here (drop (i + 1) xs)) =
    next_item (env here).source.structs xs i x low item in
    let needs : room_of_items here (drop i xs) ≡ room_of here x + room_of_items here (drop (i + 1) xs) =
    ap (stms_room (env here).source.depth (most here)) next in
    let used = c.exec_item.ensures.used in
    let so_far = c.loop-x.invariant in (
      omega (arith, needs, used.0, so_far.few_events),
      (
        omega (arith, used.1.0, so_far.room),
        (omega (arith, used.1.1.0, so_far.capacity), omega (arith, used.1.1.1, so_far.few_cells)),
      ),
    )

pub exec_items-loop-x-preserved : goal.exec_items-loop-x-preserved
exec_items-loop-x-preserved g t c =
    let here = c.args.here.now in
    let xs = c.args.xs.now in
    let i = c.loop-x.x-index in
    let x = c.x-item.result in
    let same = c.as_slice-x-items.ensures in
    let low : i < length xs = omega (arith, c.loop-x-test.true, ap length same) in
    let item : x ≡ slice_index_or xs i x = subst (λ (ys : List TStmt). x ≡ slice_index_or ys i x) same c.x-item.is in
    let next : stms_of here (drop i xs) ≡ Stms' (stm_of here x) (stms_of here (drop (i + 1) xs)) =
    next_item (env here).source.structs xs i x low item in
    let begun : exec_all (stms_of here (drop i xs)) (seek c.loop-x.sought) (env here) (world c.loop-x.world)
    ≡ exec_all (Stms' (stm_of here x) (stms_of here (drop (i + 1) xs))) (seek c.loop-x.sought) (env here) (world c.loop-x.world) =
    ap (λ ss. exec_all ss (seek c.loop-x.sought) (env here) (world c.loop-x.world)) next in
    let needs : room_of_items here (drop i xs) ≡ room_of here x + room_of_items here (drop (i + 1) xs) =
    ap (stms_room (env here).source.depth (most here)) next in
    let used = c.exec_item.ensures.used in
    let so_far = c.loop-x.invariant in
    let sought = c.in_ok-next.ensures.done ∙ ap (λ a. done (after a) (world c.exec_item.new.world)) c.in-Seeks.is in
    record {
      executed = sym (begun
          ∙ item_seeks (stm_of here x) (stms_of here (drop (i + 1) xs)) (seek c.loop-x.sought) (seek c.in-Seeks.next) (env here)
          (world c.loop-x.world) (world c.exec_item.new.world) sought) ∙ so_far.executed;
      few_events = omega (arith, needs, used.0, so_far.few_events);
      few = omega (arith, needs, so_far.few);
      fits = fits_less here.turn (room_of_items here (drop (i + 1) xs)) (room_of_items here (drop i xs)) (omega (arith, needs)) so_far.fits;
      same = c.exec_item.ensures.reads ∙ so_far.same;
      unchanged = c.exec_item.ensures.reads ∙ so_far.unchanged;
      locations = omega (arith, used.1.1.1, so_far.locations);
      few_cells = omega (arith, used.1.1.1, so_far.few_cells);
      room = omega (arith, used.1.0, so_far.room);
      arguments = c.in_ok-next.ensures.arguments ∙ so_far.arguments;
      capacity = omega (arith, used.1.1.0, so_far.capacity);
      store_room = omega (arith, c.exec_item.ensures.store_room, so_far.store_room);
    }

pub exec_loop-returns-in_err-loop_turn-clause-done : goal.exec_loop-returns-in_err-loop_turn-clause-done
exec_loop-returns-in_err-loop_turn-clause-done g t c =
    let here = c.args.here.now in
    let l = loop_of (env here).source.structs c.args.tests in
    let t = c.loop-turn.turn in
    let low : t < (env here).source.depth = omega (arith, c.loop-turn-test.true, c.depth-turn-end.ensures) in
    let p = err_from_is_err_and c.from_residual.result c.from_residual.ensures.1 in
    rw (p.1, p.2)
    (sym c.loop-turn.invariant.executed
    ∙ loop_errs l c.args.pos (env here) (stm_of here c.args.body.now) (env here).source.depth t
    (how_ended c.in_err-loop_turn.field-0.0) (world c.loop-turn.world) (world c.loop_turn.new.world) low
    c.in_err-loop_turn.ensures.done)

pub exec_loop-returns-in-Some-clause-done : goal.exec_loop-returns-in-Some-clause-done
exec_loop-returns-in-Some-clause-done g t c =
    let here = c.args.here.now in
    let l = loop_of (env here).source.structs c.args.tests in
    let t = c.loop-turn.turn in
    let low : t < (env here).source.depth = omega (arith, c.loop-turn-test.true, c.depth-turn-end.ensures) in
    let ended = c.in_ok-loop_turn.ensures.done ∙ ap (λ o. done (flow_if o) (world c.loop_turn.new.world)) c.in-Some.is in
    sym c.loop-turn.invariant.executed
    ∙ loop_ends l c.args.pos (env here) (stm_of here c.args.body.now) (env here).source.depth t (flow c.in-Some.flow)
    (world c.loop-turn.world) (world c.loop_turn.new.world) low ended

pub loop_turn-behind_body-requires-clause-room : goal.loop_turn-behind_body-requires-clause-room
loop_turn-behind_body-requires-clause-room g t c =
    let here = c.args.here.now in
    let within = c.in_turn-within.result in
    let body = c.args.body.now in
    let source = c.in_turn-within.ensures.source in
    let layout = c.in_turn-within.ensures.layout in
    let bodies : room_of within body ≡ room_of here body =
    ap (λ (s : Source). stm_room s.depth (most within) (stm s.structs body)) source
    ∙ ap (λ (y : Layout). stm_room (env here).source.depth (length y.locations) (stm (env here).source.structs body)) layout in
    let behind : behind_room (loop_of (env within).source.structs c.args.tests)
    ≡ behind_room (loop_of (env here).source.structs c.args.tests) =
    ap (λ (s : Source). behind_room (loop_of s.structs c.args.tests)) source in
    let cells : most within ≡ most here = ap (λ (y : Layout). length y.locations) layout in
    let had = c.requires.room in
    let first = c.test_first.ensures.used in
    let used = c.exec.ensures.used in
    let kept : length c.exec.new.space.kept.arguments.items ≡ length c.args.space.now.kept.arguments.items =
    ap length (c.in_ok-flow.ensures.arguments ∙ c.in_ok-test_first.ensures.arguments) in (
      omega (arith, bodies, behind, had.0, first.0, used.0, first.1.0, used.1.0),
      (
        omega (arith, behind, kept, had.1.0, first.1.1.0, used.1.1.0),
        omega (arith, cells, had.1.1, first.1.1.1, used.1.1.1),
      ),
    )

pub loop_turn-returns-clause-done : goal.loop_turn-returns-clause-done
loop_turn-returns-clause-done g t c =
    let here = c.args.here.now in
    let within = c.in_turn-within.result in
    let body = c.args.body.now in
    let goes = turn_in c.args.tests c.args.pos body (env here) (env within) c.depth.result c.args.turn
    c.in_ok-test_first.field-0 (flow c.in_ok-flow.flow) (world c.args.world.now) (world c.test_first.new.world)
    (world c.exec.new.world) c.in_turn-within.ensures.env c.depth.ensures c.in_ok-test_first.ensures.done c.if-not-branch.false
    c.in_ok-flow.ensures.done in
    subst
    (λ (d : Result (Option exec.Flow) spec.Ended × spec.World). Does flow_if d c.behind_body.result
    (world c.behind_body.new.world))
    (sym goes) c.behind_body.ensures.done
