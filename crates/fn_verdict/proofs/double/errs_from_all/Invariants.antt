use Rattle.std.proofs.Common.{◌≡◌, drop}
use Rattle.std.specs.List.{list_all}
use Rattle.sc_world.specs.Shows.{Locks}
use Rattle.fn_verdict.specs.Double.{error_row}
use Rattle.fn_verdict.proofs.double.errs_from_all.Given as goal

abbrev pub invariant-loop-before : goal.invariant-loop-before
invariant-loop-before g l =
    record {
      rest : list_all (λ b. (g.A.Answerer.answers l.fn.asks).some (Locks l.at (error_row l.given b))) (drop l.before-index l.states)
          ≡ list_all (λ b. (g.A.Answerer.answers l.fn.asks).some (Locks l.at (error_row l.given b))) l.states;
      answers : g.A.Answerer.answers l.asks ≡ g.A.Answerer.answers l.fn.asks;
    }
