-- The statements that are left, behind what was written.
use Rattle.std.proofs.Common.{◌≡◌, drop, map}
use Rattle.fn_matter.specs.Words.{spell_all, trees}
use Rattle.fn_matter.specs.Shapes.{stm_tree}
use Rattle.fn_spelling.proofs.statements.+statement.Given as goal

abbrev pub invariant-statements-loop-x : goal.invariant-statements-loop-x
invariant-statements-loop-x l =
    spell_all (trees (map stm_tree (drop l.x-index l.xs))) l.out.items ≡ spell_all (trees (map stm_tree l.fn.xs)) l.fn.out.items
