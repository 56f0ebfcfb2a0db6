use Rattle.std.proofs.Common.{[], ◌∷◌, ◌++◌, arith}
use Rattle.json.specs.Token.{begin_array}
use Rattle.verdict_json.specs.Checks.{state_name, count_of_states}
use Rattle.json_places.proofs.Arrays.{range_behind, range_step}
use Rattle.verdict_json.proofs.checks.put_states.Goals as goal

pub loop-n-preserved : goal.loop-n-preserved
loop-n-preserved c =
    range_step (state_name c.args.machine.now) c.loop-n.n (c.args.text.now ++ begin_array ∷ []) c.loop-n.text _ c.loop-n.invariant c.in_ok-put_state.ensures

pub returns : goal.returns
returns c =
    range_behind (state_name c.args.machine.now) (count_of_states c.args.machine.now) c.loop-n.n c.args.text.now c.loop-n.text _
    (omega (arith, c.loop-n-test.false, c.count_of_states-n-end.ensures)) (omega (arith, c.loop-n.auto.n-end, c.count_of_states-n-end.ensures))
    c.loop-n.invariant c.in_ok-end_array.ensures
