-- What the code of a step answers: what the step gives, and the walk that it leaves. Where memory is refused
-- nothing is said.
use Rattle.std.specs.Prelude.{Result, Ok, Err, ◌≡◌}
use Rattle.sc_rules.specs.declared.walk.Walk.{Walk}

abbrev pub Gives : {A E : Type 0} → A × Walk → Result A E → Walk → Type 0
Gives due (Ok x) now = due ≡ (x, now)
Gives due (Err e) now = Unit {0}
