use Rattle.std.proofs.Common.{◌≤◌, ◌+◌, length, sym, ap, subst, ◌∙◌}
use Rattle.bit_net.specs.declared.nodes.Gate.{Gate}
use Rattle.gate_runs.specs.Stands.{told, gates_top}
use Rattle.flow_ends.proofs.Gates.{told_more, top_more, length_more}
use Rattle.flow_ends.proofs.fates.none_of.Goals as goal

pub loop-preserved : goal.loop-preserved
loop-preserved c =
    let is = c.in_ok-push.ensures.items in
    let g : Gate = c.constant-none.result in
    record {
      len = ap length is ∙ length_more c.loop.gates.items g ∙ ap (λ n. n + 1) c.loop.invariant.len;
      below = subst (λ gs. gates_top gs ≤ length c.args.net.now) (sym is) (top_more c.loop.gates.items g (length c.args.net.now) c.constant-none.ensures.below c.loop.invariant.below);
      none = λ choice v runs k.
          ap (λ gs. told v gs k) is ∙ told_more v c.loop.gates.items g (c.constant-none.ensures.value choice v runs) (c.loop.invariant.none choice v runs) k;
    }
