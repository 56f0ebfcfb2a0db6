-- The digits so far.
use Rattle.std.proofs.Common.{◌≡◌, ◌++◌}
use Rattle.report_text.specs.Shown.{hex_digits}
use Rattle.report_text.proofs.shown.put_choice.Given as goal

abbrev pub invariant-loop-k : goal.invariant-loop-k
invariant-loop-k l = l.out.items ≡ l.fn.out.items ++ hex_digits l.choice l.k
