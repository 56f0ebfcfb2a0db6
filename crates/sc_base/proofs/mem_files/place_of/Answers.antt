use Rattle.std.proofs.Common.{sym, ◌∙◌}
use Rattle.sc_base.proofs.Named.{found_at}
use Rattle.sc_base.proofs.mem_files.place_of.Goals as goal

pub returns-then-eq : goal.returns-then-eq
returns-then-eq c =
    rw c.loop-place.invariant (found_at _ _ _ c.index-files-place.result c.loop-place-test.true c.index-files-place.is (rw (← c.as_str.ensures.value) (sym c.eq.ensures ∙ c.if-eq.true)))
