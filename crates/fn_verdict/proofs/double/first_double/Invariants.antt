use Rattle.std.proofs.Common.{◌≡◌, drop}
use Rattle.std.specs.List.{find}
use Rattle.fn_verdict.specs.Double.{errs_from_all}
use Rattle.fn_verdict.proofs.double.first_double.Given as goal

abbrev pub invariant-loop-given : goal.invariant-loop-given
invariant-loop-given g l =
    record {
      rest : find (errs_from_all (g.A.Answerer.answers l.fn.asks) l.at l.states) (drop l.given-index l.givens) ≡ find (errs_from_all (g.A.Answerer.answers l.fn.asks) l.at l.states) l.givens;
      answers : g.A.Answerer.answers l.asks ≡ g.A.Answerer.answers l.fn.asks;
    }
