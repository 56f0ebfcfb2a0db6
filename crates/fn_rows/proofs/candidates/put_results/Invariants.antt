use Rattle.std.proofs.Common.{◌≡◌, ◌++◌, map, take}
use Rattle.std.specs.List.{flat_map}
use Rattle.sc_world.specs.Known.{row}
use Rattle.fn_rows.proofs.candidates.put_results.Given as goal

abbrev pub invariant-loop-gives : goal.invariant-loop-gives
invariant-loop-gives l =
    l.rows.items ≡ l.fn.rows.items ++ flat_map (λ r. map (λ a. row l.given l.before r a) l.afters) (take l.gives-index l.results)
