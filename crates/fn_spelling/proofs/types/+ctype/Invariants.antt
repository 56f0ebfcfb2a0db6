-- The types that are left, behind what was written.
use Rattle.std.proofs.Common.{◌≡◌, drop, map}
use Rattle.fn_matter.specs.Words.{spell_all, trees}
use Rattle.fn_matter.specs.Shapes.{type_tree}
use Rattle.fn_spelling.proofs.types.+ctype.Given as goal

abbrev pub invariant-types-loop-t : goal.invariant-types-loop-t
invariant-types-loop-t l =
    spell_all (trees (map type_tree (drop l.t-index l.ts))) l.out.items ≡ spell_all (trees (map type_tree l.fn.ts)) l.fn.out.items
