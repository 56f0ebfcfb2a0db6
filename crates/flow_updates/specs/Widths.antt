-- A type for each width of an integer.
use Rattle.std.specs.Prelude.{ℕ, nat_eq, if◌then◌else◌}
use Rattle.sc_tree.specs.declared.ctype.IntKind.{IntKind}
use Rattle.sc_tree.specs.declared.ctype.IntKind.TheVariants as kind
use Rattle.sc_world.specs.Tree.{Ty, Bool', Int}

abbrev pub kind_of_width : ℕ → IntKind
kind_of_width n =
    if nat_eq n 8 then kind.Char else (if nat_eq n 16 then kind.Short else (if nat_eq n 32 then kind.Int else kind.LongLong))

-- an integer type of that width, if there is one
abbrev pub of_width : ℕ → Ty
of_width n = if nat_eq n 1 then Bool' else Int (kind_of_width n)
