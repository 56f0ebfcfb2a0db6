-- The text so far, with the lines that are left, is the whole text.
use Rattle.std.proofs.Common.{◌≡◌, ◌≤◌}
use Rattle.bench_programs.specs.Programs.{first_line, function_text}
use Rattle.bench_programs.proofs.Behind.{all_lines}
use Rattle.bench_programs.proofs.lines.bench_text.Given as goal

abbrev pub invariant-loop-number : goal.invariant-loop-number
invariant-loop-number l =
    (l.number ≤ l.count) × (all_lines (function_text l.seed) l.out.items l.number l.count
    ≡ all_lines (function_text l.seed) first_line 0 l.count)
