use Rattle.bit_net.specs.Runs.{Grown}
use Rattle.fn_facts.specs.Showing.{IsReady}
use Rattle.fn_walks.specs.Seen.{leads}
use Rattle.fn_walks.specs.Walks.{Each, nth}
use Rattle.fn_walks.proofs.walking.steps_of.Given as goal

-- the steps to the first objects
abbrev pub invariant-loop-i : goal.invariant-loop-i
invariant-loop-i l =
    record {
      grown : Grown l.fn.net l.net;
      ready : IsReady l.around l.net;
      so_far : Each l.around l.net (λ o n. leads o l.from n) (nth l.objects) l.i l.steps.items;
    }
