use Rattle.std.proofs.Common.{◌≡◌, map, take}
use Rattle.sc_world.specs.Shows.{Locks}
use Rattle.fn_verdict.specs.Double.{error_row}
use Rattle.fn_verdict.proofs.double.error_runs.Given as goal

abbrev pub invariant-loop-before : goal.invariant-loop-before
invariant-loop-before g l =
    record {
      runs : l.runs.items ≡ map (λ b. (g.A.Answerer.answers l.fn.asks).shown (Locks l.at (error_row l.given b))) (take l.before-index l.states);
      answers : g.A.Answerer.answers l.asks ≡ g.A.Answerer.answers l.fn.asks;
    }
