use Rattle.std.proofs.Common.{◌≡◌, ◌++◌, map, take}
use Rattle.std.specs.List.{flat_map}
use Rattle.sc_world.specs.Known.{row}
use Rattle.fn_rows.proofs.candidates.put_befores.Given as goal

abbrev pub invariant-loop-before : goal.invariant-loop-before
invariant-loop-before l =
    l.rows.items
    ≡ l.fn.rows.items
    ++ flat_map (λ b. flat_map (λ r. map (λ a. row l.given b r a) l.afters) l.results) (take l.before-index l.befores)
