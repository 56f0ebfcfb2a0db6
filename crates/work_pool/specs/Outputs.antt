-- The outputs of a work, function by function.
use Rattle.std.specs.Prelude.{◌≡◌, ℕ, ◌<◌, true, List, length, map, slice_index_or, Option, None}
use Rattle.std.specs.List.{range_with_len}
use Rattle.std.specs.Option.{IsSomeAnd}
use Rattle.std.specs.declared.alloc.Global.{Global}
use Rattle.std.specs.declared.sync.Arc.{Arc}
use Rattle.std.specs.Arc.{arc_value}
use Rattle.plan_core.specs.declared.mark.Mark.{Mark}
use Rattle.plan_core.specs.Core.{mark_of, is_published}

module _ {O : Type 0} where
  -- the outputs of the first n functions, in order
  abbrev pub outputs_of : (ℕ → O) → ℕ → List O
  outputs_of defined n = map defined (range_with_len 0 n)

  -- what was made of f, where it was made
  abbrev pub made_at : List (Option (Arc O Global)) → ℕ → Option (Arc O Global)
  made_at made f = slice_index_or made f None

  -- f's output was made
  abbrev pub IsMade : (ℕ → O) → List (Option (Arc O Global)) → ℕ → Type 0
  IsMade defined made f = IsSomeAnd (made_at made f) (λ a. arc_value a ≡ defined f)

  -- the outputs of all published functions were made
  abbrev pub ArePublishedMade : (ℕ → O) → List Mark → List (Option (Arc O Global)) → Type 0
  ArePublishedMade defined marks made = (f : ℕ) → f < length marks → is_published (mark_of marks f) ≡ true → IsMade defined made f
