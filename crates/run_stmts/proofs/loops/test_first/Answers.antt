-- The test of a `while` before its body.
use Rattle.std.proofs.Common.{◌≡◌, ◌+◌, Bool, Result, refl, sym, ap, subst, ◌∙◌, arith}
use Rattle.sc_world.specs.View.{exp}
use Rattle.sc_world.specs.World as spec
use Rattle.run_exprs.specs.Room.{room}
use Rattle.run_world.specs.Seen.{world, env, Does}
use Rattle.run_inits.specs.Room.{room_of_exp}
use Rattle.run_stmts.specs.Loops.{first_room, test_first}
use Rattle.run_stmts.specs.Seen.{loop_of}
use Rattle.run_stmts.proofs.LoopTests.{test_in}
use Rattle.run_stmts.proofs.loops.test_first.Goals as goal

pub returns-in-While-clause-done : goal.returns-in-While-clause-done
returns-in-While-clause-done g c =
    let here = env c.args.here.now in
    let w = world c.args.world.now in
    let tested = test_in c.args.pos c.in-While.e.now here (env c.in_turn-tested.result) (c.depth.result + 1) c.args.turn
    (here.source.depth + 1) c.args.turn w c.in_turn-tested.ensures.env (ap (λ n. n + 1) c.depth.ensures) refl in
    let is = ap (λ l. test_first (loop_of here.source.structs l) c.args.pos here c.args.turn w) c.in-While.is in
    subst
    (λ (d : Result Bool spec.Ended × spec.World). Does {A = Bool} {B = Bool} (λ x. x) d c.condition.result
    (world c.condition.new.world))
    (sym (is ∙ tested)) c.condition.ensures.done

pub returns-in-While-clause-used : goal.returns-in-While-clause-used
returns-in-While-clause-used g c =
    let structs = (env c.args.here.now).source.structs in
    let e = c.in-While.e.now in
    let is : first_room (loop_of structs c.args.tests) ≡ room (exp structs e) + 1 =
    ap (λ l. first_room (loop_of structs l)) c.in-While.is in
    let needs : room_of_exp c.in_turn-tested.result e ≡ room (exp structs e) =
    ap (λ s. room (exp s.structs e)) c.in_turn-tested.ensures.source in
    let used = c.condition.ensures.used in
    (omega (arith, used.0, needs, is), used.1)
