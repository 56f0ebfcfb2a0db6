-- The values of the arguments of a call.
use Rattle.std.specs.Prelude.{ℕ, List, [], ◌∷◌}
use Rattle.gl_store.specs.declared.values.Val.{Val}
use Rattle.gl_store.specs.Steps.{IsSame}
use Rattle.flow_turns.specs.declared.temps.Temps.{Temps}
use Rattle.flow_turns.specs.Kept.{val_at}

-- the values of these temps once more, one after another
abbrev pub AreOf : Temps → List ℕ → List Val → Type 0
AreOf t [] [] = Unit {0}
AreOf t (n ∷ ns) (x ∷ xs) = IsSame (val_at t n) x × AreOf t ns xs
AreOf t _ _ = ⊥
