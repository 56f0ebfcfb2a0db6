use Rattle.bit_net.specs.Runs.{Grown}
use Rattle.reach_net.specs.Walks.{rows_of}
use Rattle.fn_facts.specs.Showing.{IsReady}
use Rattle.fn_walks.specs.Walks.{AreSteps}
use Rattle.fn_walks.proofs.walking.steps.Given as goal

-- the rows of the first objects
abbrev pub invariant-loop-i : goal.invariant-loop-i
invariant-loop-i l =
    record {
      grown : Grown l.fn.net l.net;
      ready : IsReady l.around l.net;
      so_far : AreSteps l.around l.net l.objects l.i (rows_of l.rows.items);
    }
