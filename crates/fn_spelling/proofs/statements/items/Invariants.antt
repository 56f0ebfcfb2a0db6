-- What is left, behind what was written.
use Rattle.std.proofs.Common.{◌≡◌, drop, map}
use Rattle.fn_matter.specs.Words.{spell_all, trees}
use Rattle.fn_matter.specs.Shapes.{item_tree}
use Rattle.fn_spelling.proofs.statements.items.Given as goal

abbrev pub invariant-loop-x : goal.invariant-loop-x
invariant-loop-x l =
    spell_all (trees (map item_tree (drop l.x-index l.xs))) l.out.items ≡ spell_all (trees (map item_tree l.fn.xs)) l.fn.out.items
