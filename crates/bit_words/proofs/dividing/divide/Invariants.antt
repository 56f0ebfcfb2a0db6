use Rattle.std.proofs.Common.{◌≡◌, ◌<◌, ◌≤◌, not, nat_eq, length, take}
use Rattle.bit_net.specs.Runs.{Grown, Always}
use Rattle.bit_words.specs.Number.{number, top, quotient, remainder}
use Rattle.bit_words.proofs.dividing.divide.Given as goal

-- the quotient and the remainder of the number of the first i bits
abbrev pub invariant-loop-i : goal.invariant-loop-i
invariant-loop-i l = record {
  grown : Grown l.fn.net l.net;
  result_wide : length l.quotient.items ≡ l.i;
  rest_wide : length l.rest.items ≡ length l.fn.a;
  result_below : top l.quotient.items ≤ length l.net;
  rest_below : top l.rest.items ≤ length l.net;
  divides_below : l.divides.at < length l.net;
  divides : Always l.net (λ choice v. v l.divides.at ≡ not (nat_eq (number v l.fn.divisor) 0));
  left : Always l.net (λ choice v. number v l.rest.items ≡ remainder (number v (take l.i l.fn.a)) (number v l.fn.divisor));
  result : Always l.net (λ choice v. number v l.quotient.items ≡ quotient (number v (take l.i l.fn.a)) (number v l.fn.divisor));
}
