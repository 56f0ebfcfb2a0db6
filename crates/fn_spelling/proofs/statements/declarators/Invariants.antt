-- What is left, behind what was written.
use Rattle.std.proofs.Common.{◌≡◌, drop, map}
use Rattle.fn_matter.specs.Words.{spell_all, trees}
use Rattle.fn_matter.specs.Shapes.{declarator_tree}
use Rattle.fn_spelling.proofs.statements.declarators.Given as goal

abbrev pub invariant-loop-d : goal.invariant-loop-d
invariant-loop-d l =
    spell_all (trees (map declarator_tree (drop l.d-index l.ds))) l.out.items ≡ spell_all (trees (map declarator_tree l.fn.ds)) l.fn.out.items
