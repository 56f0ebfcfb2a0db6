-- The last test of a `while`.
use Rattle.std.proofs.Common.{◌≡◌, ◌+◌, ap, ◌∙◌, arith}
use Rattle.sc_world.specs.View.{exp}
use Rattle.sc_world.specs.World.{goes_on}
use Rattle.run_exprs.specs.Room.{room}
use Rattle.run_world.specs.Seen.{world, env}
use Rattle.run_inits.specs.Room.{room_of_exp}
use Rattle.run_stmts.specs.Loops.{first_room, last_test, aside_if}
use Rattle.run_stmts.specs.Seen.{loop_of}
use Rattle.run_stmts.proofs.LoopTests.{test_in}
use Rattle.run_stmts.proofs.loops.last_test.Goals as goal

pub returns-in_err-condition-in-While-clause-used : goal.returns-in_err-condition-in-While-clause-used
returns-in_err-condition-in-While-clause-used g c =
    let structs = (env c.args.here.now).source.structs in
    let e = c.in-While.e.now in
    let is : first_room (loop_of structs c.args.tests) ≡ room (exp structs e) + 1 =
    ap (λ l. first_room (loop_of structs l)) c.in-While.is in
    let needs : room_of_exp c.in_turn-tested.result e ≡ room (exp structs e) =
    ap (λ s. room (exp s.structs e)) c.in_turn-tested.ensures.source in
    let used = c.condition.ensures.used in
    (omega (arith, used.0, needs, is), used.1)

pub returns-then-branch-clause-done : goal.returns-then-branch-clause-done
returns-then-branch-clause-done g c =
    let here = env c.args.here.now in
    let w = world c.args.world.now in
    let tested = test_in c.args.pos c.in-While.e.now here (env c.in_turn-tested.result) (c.depth.result + 1)
    c.depth-in-While.result (here.source.depth + 1) here.source.depth w c.in_turn-tested.ensures.env
    (ap (λ n. n + 1) c.depth.ensures) c.depth-in-While.ensures
    ∙ c.in_ok-condition-in-While.ensures.done in
    ap (λ l. last_test (loop_of here.source.structs l) c.args.pos here here.source.depth w) c.in-While.is
    ∙ (ap (λ r. goes_on r aside_if) tested ∙ ap (λ b. aside_if b (world c.condition.new.world)) c.if-branch.true)

pub returns-then-branch-clause-used : goal.returns-then-branch-clause-used
returns-then-branch-clause-used g c =
    let structs = (env c.args.here.now).source.structs in
    let e = c.in-While.e.now in
    let is : first_room (loop_of structs c.args.tests) ≡ room (exp structs e) + 1 =
    ap (λ l. first_room (loop_of structs l)) c.in-While.is in
    let needs : room_of_exp c.in_turn-tested.result e ≡ room (exp structs e) =
    ap (λ s. room (exp s.structs e)) c.in_turn-tested.ensures.source in
    let used = c.condition.ensures.used in
    (omega (arith, used.0, needs, is), used.1)

pub returns-else-branch-clause-done : goal.returns-else-branch-clause-done
returns-else-branch-clause-done g c =
    let here = env c.args.here.now in
    let w = world c.args.world.now in
    let tested = test_in c.args.pos c.in-While.e.now here (env c.in_turn-tested.result) (c.depth.result + 1)
    c.depth-in-While.result (here.source.depth + 1) here.source.depth w c.in_turn-tested.ensures.env
    (ap (λ n. n + 1) c.depth.ensures) c.depth-in-While.ensures
    ∙ c.in_ok-condition-in-While.ensures.done in
    ap (λ l. last_test (loop_of here.source.structs l) c.args.pos here here.source.depth w) c.in-While.is
    ∙ (ap (λ r. goes_on r aside_if) tested ∙ ap (λ b. aside_if b (world c.condition.new.world)) c.if-branch.false)

pub returns-else-branch-clause-used : goal.returns-else-branch-clause-used
returns-else-branch-clause-used g c =
    let structs = (env c.args.here.now).source.structs in
    let e = c.in-While.e.now in
    let is : first_room (loop_of structs c.args.tests) ≡ room (exp structs e) + 1 =
    ap (λ l. first_room (loop_of structs l)) c.in-While.is in
    let needs : room_of_exp c.in_turn-tested.result e ≡ room (exp structs e) =
    ap (λ s. room (exp s.structs e)) c.in_turn-tested.ensures.source in
    let used = c.condition.ensures.used in
    (omega (arith, used.0, needs, is), used.1)
