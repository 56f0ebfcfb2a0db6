use Rattle.std.proofs.Common.{◌≡◌, ◌∙◌, ◌++◌, ◌+◌, ℕ, List, arith, ap}
use Rattle.bench_programs.specs.Programs.{function_text}
use Rattle.bench_programs.proofs.Behind.{all_lines, one_more}
use Rattle.bench_programs.proofs.lines.bench_text.Goals as goal

pub loop-number-preserved : goal.loop-number-preserved
loop-number-preserved c =
    let line = function_text c.args.seed in
    let n = c.loop-number.number in (
      omega (arith, c.loop-number-test.true),
      ap (λ (front : List ℕ). all_lines line front (n + 1) c.args.count) c.in_ok-put_function.ensures
          ∙ one_more line c.loop-number.out.items n c.args.count c.loop-number-test.true
          ∙ c.loop-number.invariant.1,
    )
