-- How long a trace is behind one event more.
use Rattle.std.proofs.Common.{◌≡◌, ℕ, ◌+◌, Ok, Result, length, ◌∷◌, [], ap, sym, ◌∙◌, length-append}
use Rattle.sc_base.specs.declared.pos.Pos.{Pos}
use Rattle.sum_rows.specs.declared.report.What.{What}
use Rattle.sc_world.specs.World as spec
use Rattle.run_world.specs.declared.world.World.{World}
use Rattle.run_world.specs.Seen.{world}

abbrev events_of : {A : Type 0} → Result A spec.Ended × spec.World → ℕ
events_of (r, w) = length w.trace

pub event_length : (p : Pos) (what : What) (old new : World) → spec.event p what (world old) ≡ (Ok tt, world new)
    → length new.trace.items ≡ length old.trace.items + 1
unfolding world
event_length p what old new h =
    sym (ap events_of h) ∙ length-append old.trace.items (record { line = p.line; col = p.col; what = what } ∷ [])
