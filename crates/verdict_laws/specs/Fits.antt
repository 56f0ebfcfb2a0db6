-- When a verdict fits a function: whatever it speaks of is something that the function has.
use Rattle.std.specs.Prelude.{◌≡◌, ℕ, ◌<◌, ◌≤◌, ◌⊎◌, Bool, true, ◌||◌, Some, List, ◌∷◌, length, map, slice_get, All}
use Rattle.sc_tree.specs.declared.ctype.Widths.{Widths}
use Rattle.sc_typed.specs.declared.program.Program.{Program}
use Rattle.sum_rows.specs.declared.path.Path.{Path}
use Rattle.sum_rows.specs.declared.path.Root.{Root}
use Rattle.sum_rows.specs.declared.path.Root.TheVariants as root
use Rattle.sum_rows.specs.declared.path.Step.{Step}
use Rattle.sum_rows.specs.declared.path.Step.TheVariants as step
use Rattle.sum_rows.specs.declared.row.Item.{Item}
use Rattle.sum_rows.specs.declared.row.Item.TheVariants as item
use Rattle.sum_rows.specs.declared.row.Summary.{Summary}
use Rattle.sum_rows.specs.declared.row.Write.{Write}
use Rattle.sum_rows.specs.declared.report.Verdict.{Verdict}
use Rattle.sum_rows.specs.declared.report.Verdict.TheVariants as verdict
use Rattle.sc_world.specs.Tree.{Ty, is_integer, is_pointer, target_or_void, int_bits}
use Rattle.sc_world.specs.View.{type}
use Rattle.sc_world.specs.Shows.{entry_params_from}

-- the types of the globals of a program
abbrev pub global_types : Program → List Ty
global_types p = map (λ g. type g.ctype) p.globals

-- The parameters of a function with a typed body: at most 8, each an integer or a pointer.
pub record AreTypedParams (params : List Ty) : Type 0 where
  pub few : length params ≤ 8
  pub scalars : All (λ t. is_integer t || is_pointer t ≡ true) params

module _ (widths : Widths) (params globals : List Ty) where
  -- the parameter with that number is of such a type
  abbrev pub HasParam : (Ty → Bool) → ℕ → Type 0
  HasParam test n = (t : Ty) × (slice_get params n ≡ Some t) × (test t ≡ true)

  abbrev pub is_pointer_to_pointer : Ty → Bool
  is_pointer_to_pointer t = is_pointer (target_or_void t)

  -- a path begins at a parameter and goes on with Deref, or begins at a global
  abbrev pub Begins : Root → List Step → Type 0
  Begins (root.Param n) (step.Deref ∷ rest) = n < length params
  Begins (root.Param n) _ = ⊥
  Begins (root.Global n) steps = n < length globals

  abbrev pub FitsPath : Path → Type 0
  FitsPath p = Begins p.root p.steps

  abbrev pub FitsItem : Item → Type 0
  FitsItem item.Exit = Unit {0}
  FitsItem (item.Lock p) = FitsPath p
  FitsItem (item.Param n) = HasParam is_pointer n
  FitsItem (item.Out n) = HasParam is_pointer_to_pointer n

  -- 0, as of a pointer, or the width of an integer type
  abbrev pub IsWidth : ℕ → Type 0
  IsWidth n = (n ≡ 0) ⊎ ((t : Ty) × (is_integer t ≡ true) × (n ≡ int_bits widths t))

  pub record FitsWrite (x : Write) : Type 0 where
    pub path : FitsPath x.path
    pub width : IsWidth x.width

  pub record FitsSummary (sum : Summary) : Type 0 where
    -- the first three integers and pointers among the parameters have a bit each
    pub bits : sum.bits ≡ length (entry_params_from 3 0 params)
    pub few_items : length sum.items ≤ 300
    pub few_writes : length sum.writes ≤ 256
    pub items : All (λ i. FitsItem i.item) sum.items
    pub writes : All FitsWrite sum.writes

  abbrev pub Fits : Verdict → Type 0
  Fits (verdict.Skipped s) = Unit {0}
  Fits (verdict.Done sum reports) = FitsSummary sum
