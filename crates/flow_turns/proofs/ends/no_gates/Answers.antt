use Rattle.std.proofs.Common.{◌≤◌, ◌+◌, length, sym, ap, subst, ◌∙◌, arith}
use Rattle.bit_net.specs.declared.nodes.Gate.{Gate}
use Rattle.gate_runs.specs.Stands.{told, gates_top}
use Rattle.flow_turns.proofs.Beginning.{told_more, top_more, told_none, top_none}
use Rattle.flow_turns.proofs.Lists.{length_more}
use Rattle.flow_turns.proofs.ends.no_gates.Goals as goal

pub loop-init : goal.loop-init
loop-init c =
    let is = c.new-gates.ensures.items in
    record {
      len = ap length is;
      below = omega (arith, ap gates_top is ∙ top_none);
      none = λ choice v runs k. ap (λ gs. told v gs k) is ∙ told_none v k;
    }

pub loop-preserved : goal.loop-preserved
loop-preserved c =
    let is = c.in_ok-push.ensures.items in
    let g : Gate = c.constant-never.result in
    record {
      len = ap length is ∙ length_more c.loop.gates.items g ∙ ap (λ n. n + 1) c.loop.invariant.len;
      below = subst (λ gs. gates_top gs ≤ length c.args.net.now) (sym is) (top_more c.loop.gates.items g (length c.args.net.now) c.constant-never.ensures.below c.loop.invariant.below);
      none = λ choice v runs k.
          ap (λ gs. told v gs k) is ∙ told_more v c.loop.gates.items g (c.constant-never.ensures.value choice v runs) (c.loop.invariant.none choice v runs) k;
    }
