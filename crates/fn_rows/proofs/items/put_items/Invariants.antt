use Rattle.std.proofs.Common.{◌≡◌, ◌++◌, take}
use Rattle.layout_base.specs.Seen.{layout_of}
use Rattle.fn_rows.specs.Items.{items_of}
use Rattle.fn_rows.proofs.items.put_items.Given as goal

abbrev pub invariant-loop-n : goal.invariant-loop-n
invariant-loop-n g l =
    record {
      found : l.found.items
          ≡ l.fn.found.items ++ items_of (layout_of l.places) (g.A.Answerer.answers l.fn.asks) l.candidates l.sort (take l.n-index l.numbers);
      answers : g.A.Answerer.answers l.asks ≡ g.A.Answerer.answers l.fn.asks;
    }
