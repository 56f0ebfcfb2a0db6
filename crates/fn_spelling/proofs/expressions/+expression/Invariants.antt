-- The arguments that are left, behind what was written.
use Rattle.std.proofs.Common.{◌≡◌, drop, map}
use Rattle.fn_matter.specs.Words.{spell_all, trees}
use Rattle.fn_matter.specs.Shapes.{exp_tree}
use Rattle.fn_spelling.proofs.expressions.+expression.Given as goal

abbrev pub invariant-arguments-loop-e : goal.invariant-arguments-loop-e
invariant-arguments-loop-e l =
    spell_all (trees (map exp_tree (drop l.e-index l.args))) l.out.items ≡ spell_all (trees (map exp_tree l.fn.args)) l.fn.out.items
