use Rattle.bit_net.specs.Runs.{Grown}
use Rattle.fn_facts.specs.Showing.{IsReady}
use Rattle.sc_world.specs.Shows.{is_among}
use Rattle.fn_walks.specs.Seen as seen
use Rattle.fn_walks.specs.Walks.{Each, nth}
use Rattle.fn_walks.proofs.walking.roots.Given as goal

-- whether walks begin at the first objects
abbrev pub invariant-loop-i : goal.invariant-loop-i
invariant-loop-i l =
    record {
      grown : Grown l.fn.net l.net;
      ready : IsReady l.around l.net;
      so_far : Each l.around l.net (λ o n. is_among (seen.roots o l.from) n) (nth l.objects) l.i l.roots.items;
    }
