use Rattle.std.proofs.Common.{◌∙◌, ◌&&◌, ◌-◌, ◌^◌, length, nat_eq, ap}
use Rattle.bit_words.specs.Number.{number}
use Rattle.gate_values.proofs.operators.passes.Goals as goal

pub returns-clause-ok : goal.returns-clause-ok
returns-clause-ok c =
    record {
      below = c.in_ok-both.ensures.ok.below;
      value = λ choice v runs.
          let r2 = c.in_ok-both.ensures.grown.runs choice v runs in
          let r1 = c.in_ok-by_all.ensures.grown.runs choice v r2 in
          let r0 = c.in_ok-of_least.ensures.grown.runs choice v r1 in
          let x = number v c.args.a.now.bits.items in
          let y = number v c.args.b.now.bits.items in
          c.in_ok-both.ensures.ok.value choice v runs
          ∙ ap (λ h. h && v c.in_ok-by_all.by_all.at)
          (c.in_ok-of_least.ensures.ok.value choice v r1 ∙ ap (λ k. nat_eq x k) (c.in_ok-least.ensures.value choice v r0 ∙ ap (λ n. 2 ^ (n - 1)) c.width-n.ensures))
          ∙ ap (λ h. nat_eq x (2 ^ (length c.args.a.now.bits.items - 1)) && h)
          (c.in_ok-by_all.ensures.ok.value choice v r2 ∙ ap (λ k. nat_eq y k) (c.in_ok-all.ensures.value choice v r0 ∙ ap (λ n. 2 ^ n - 1) c.width-n.ensures));
    }
