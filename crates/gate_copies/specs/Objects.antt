-- The cells of the objects to which targets lead. The target of location n is n + 1, and that of null is 0.
use Rattle.std.specs.Prelude.{ℕ, zero, suc, Bool, ◌||◌, List, [], ◌∷◌, length, map, max, slice_index_or, if◌then◌else◌}
use Rattle.sc_world.specs.Tree.{Ty}
use Rattle.sc_world.specs.Layout.{Layout, location, has_type, is_stub}
use Rattle.sc_world.specs.Eval.{cells_of}
use Rattle.gate_copies.specs.declared.objects.Object.{Object}

-- whether an object of the type may stand there: a location of the type, or a stub
abbrev pub may_stand : Layout → Ty → (at : ℕ) → Bool
may_stand p t at = is_stub (location p at) || has_type (location p at) t

-- the targets of the cells of an object, in order
abbrev pub cell_targets : Layout → (at : ℕ) → List ℕ
cell_targets p at = map suc (cells_of p at)

-- those of the object to which a target leads, where it may be of the type; else none
abbrev pub object_targets : Layout → Ty → (target : ℕ) → List ℕ
object_targets p t zero = []
object_targets p t (suc at) = if may_stand p t at then cell_targets p at else []

abbrev pub cells_in : Object → List ℕ
cells_in object = object.cells.items

-- the target of the cell with that number; null where there is none
abbrev pub cell_with : List ℕ → (number : ℕ) → ℕ
cell_with cells number = slice_index_or cells number 0

-- how long a list is at most
abbrev pub most : List (List ℕ) → ℕ
most [] = 0
most (cells ∷ more) = max (length cells) (most more)
