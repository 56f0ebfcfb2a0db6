use Rattle.std.proofs.Common.{◌≡◌, ◌++◌, map, take}
use Rattle.sc_world.specs.Known.{row}
use Rattle.fn_rows.proofs.candidates.put_afters.Given as goal

abbrev pub invariant-loop-after : goal.invariant-loop-after
invariant-loop-after l = l.rows.items ≡ l.fn.rows.items ++ map (λ a. row l.given l.before l.gives a) (take l.after-index l.afters)
