-- Partial assignments, as the splitting solver keeps them: for each variable a value, or none yet.

use Rattle.std.specs.Prelude.{◌≡◌, ℕ, Bool, not, if◌then◌else◌, List, Option, None, Some, slice_index_or, count_by, is_none}
use Rattle.sat_base.specs.declared.literal.Lit.{Lit}

-- the value of a variable, if it has one
unfoldable pub mark : List (Option Bool) → ℕ → Option Bool
mark marks var = slice_index_or marks var None

-- the assignment has all the values that the marks give
abbrev pub Extends : (ℕ → Bool) → List (Option Bool) → Type 0
Extends assignment marks = (var : ℕ) (value : Bool) → mark marks var ≡ Some value → assignment var ≡ value

-- the value of a literal from that of its variable, if that has one
abbrev pub signed : Bool → Option Bool → Option Bool
signed neg None = None
signed neg (Some value) = Some (if neg then not value else value)

-- the value of a literal, if its variable has one
abbrev pub lit_mark : List (Option Bool) → Lit → Option Bool
lit_mark marks l = signed l.neg (mark marks l.var)

-- how many variables have no value
abbrev pub open_count : List (Option Bool) → ℕ
open_count marks = count_by (λ m. is_none m) marks
