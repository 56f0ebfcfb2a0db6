-- What an exchange of a function's word from 0 to 1 tells, and when a place holds an output.
use Rattle.std.specs.Prelude.{◌≡◌, ◌≢◌, ℕ, ◌<◌, List, [], ◌∷◌, ◌++◌, Option, Some, None, IsSomeAnd, IfSome}
use Rattle.std.specs.declared.alloc.Global.{Global}
use Rattle.std.specs.declared.sync.Arc.{Arc}
use Rattle.std.specs.Arc.{arc_value}
use Rattle.atomic_table.specs.Table.{Me}
use Rattle.summary_db.specs.declared.knows.Knows.{Knows}
use Rattle.summary_db.specs.Views.{took, looked}
use Rattle.summary_db.specs.Places.{Holds, Given, slots_of}

-- y holds the output of g that this work defines
abbrev pub IsOutput : {W O : Type 0} → (W → ℕ → O) → Option W → ℕ → Option (Arc O Global) → Type 0
IsOutput defined work g y = IsSomeAnd y (λ a. IfSome work (λ w. arc_value a ≡ defined w g))

-- what an exchange of f's word from 0 to 1 tells that found x
abbrev pub Claims : {W O : Type 0} → (W → ℕ → O) → ℕ → ℕ → Me (Option (Arc O Global)) (Knows (Option W)) → Me (Option (Arc O Global)) (Knows (Option W)) → Type 0
Claims {W} {O} defined f x me after =
    (x ≡ 0 → (held : List (ℕ × Option (Arc O Global))) × Holds (Given me.0.rows (IsOutput defined me.0.work) f) (slots_of me.0.rows f) held × (after ≡ (took f me.0, held ++ me.1)))
    × (x ≢ 0 → (after ≡ (looked f x me.0, me.1)) × (x < 3))
