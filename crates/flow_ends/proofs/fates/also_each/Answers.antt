use Rattle.std.proofs.Common.{◌&&◌, ◌||◌, if◌then◌else◌, nat_eq, refl, ap, ◌∙◌}
use Rattle.bit_net.proofs.Growth.{Grown-refl, Grown-trans}
use Rattle.gate_runs.specs.Stands.{told}
use Rattle.flow_ends.proofs.Telling.{told_begin, told_step}
use Rattle.flow_ends.proofs.fates.also_each.Goals as goal

pub loop-k-init : goal.loop-k-init
loop-k-init c = record {
  grown = Grown-refl _;
  len = refl;
  top = c.requires.gates;
  so_far = record { holds = λ choice v r. told_begin v (λ j. v c.args.now.at && told v c.args.others.now j) c.args.gates.now };
}

pub loop-k-preserved : goal.loop-k-preserved
loop-k-preserved c =
    let grown = c.in_ok-also_where.ensures.grown in
    record {
      grown = Grown-trans _ _ _ c.loop-k.invariant.grown grown;
      len = c.also_where.ensures.len ∙ c.loop-k.invariant.len;
      top = c.in_ok-also_where.ensures.top;
      so_far = record {
        holds = λ choice v r. told_step v c.loop-k.k (λ j. v c.args.now.at && told v c.args.others.now j) c.args.gates.now c.loop-k.gates _ (c.loop-k.invariant.so_far.holds choice v (grown.runs choice v r))
            (λ l. c.in_ok-also_where.ensures.ok.holds choice v r l ∙ ap (λ b. if nat_eq c.loop-k.k l then (told v c.loop-k.gates l || (v c.args.now.at && b)) else told v c.loop-k.gates l) (c.gate_in.ensures.told v));
      };
    }
