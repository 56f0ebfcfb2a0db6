-- What a database shows at a moment: the marks of the core, and who has each claim.
use Rattle.std.specs.Prelude.{◌≡◌, ℕ, zero, suc, true, List, slice_index, Option as Option'}
use Rattle.std.specs.declared.alloc.Global.{Global}
use Rattle.std.specs.declared.sync.Arc.{Arc}
use lib.ListN.{get_elem?}
use mathlib.Core.Option.{some}
use Rattle.atomic_table.specs.Table.{State}
use Rattle.plan_core.specs.declared.mark.Mark.{Mark}
use Rattle.plan_core.specs.declared.mark.Mark.TheVariants.{Free, Claimed, Published}
use Rattle.plan_core.specs.Core.{IsSound}
use Rattle.summary_db.specs.declared.knows.Knows.{Knows}
use Rattle.summary_db.specs.Views.{member}

-- what the table of a database of this work may be at a moment
abbrev pub Moment : Type 0 → Type 0 → Type 0
Moment W O = State (Option' (Arc O Global)) (Knows (Option' W))

-- the mark of a function whose word is x, and which this owner has from its claim on
abbrev pub mark_of_word : ℕ → ℕ → Mark
mark_of_word zero owner = Free
mark_of_word (suc zero) owner = Claimed owner
mark_of_word (suc (suc x)) owner = Published

-- The words show a sound state of the core. Each claim, abandoned function and publication is that of
-- one seat, and a function that some seat saw published is published still.
pub record ShowsCore {S T : Type 0} (rows : List (List ℕ)) (s : State S (Knows T)) : Type 0 where
  pub owner : ℕ → ℕ
  pub sound : IsSound rows (λ f. mark_of_word (slice_index s.words f) (owner f))
  pub claims :
      (seat : ℕ) (v : Knows T) (f : ℕ) → get_elem? s.views seat ≡ some v
      → member f v.claims ≡ true → (slice_index s.words f ≡ 1) × (owner f ≡ seat)
  pub gone :
      (seat : ℕ) (v : Knows T) (f : ℕ) → get_elem? s.views seat ≡ some v
      → member f v.gone ≡ true → (slice_index s.words f ≡ 1) × (owner f ≡ seat)
  pub done :
      (seat : ℕ) (v : Knows T) (f : ℕ) → get_elem? s.views seat ≡ some v
      → member f v.done ≡ true → (slice_index s.words f ≡ 2) × (owner f ≡ seat)
  pub seen :
      (seat : ℕ) (v : Knows T) (f : ℕ) → get_elem? s.views seat ≡ some v
      → member f v.seen ≡ true → slice_index s.words f ≡ 2
