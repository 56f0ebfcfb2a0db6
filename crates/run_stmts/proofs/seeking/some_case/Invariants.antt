use Rattle.std.proofs.Common.{◌≡◌, drop}
use Rattle.sc_world.specs.Exec.{some_item, is_case}
use Rattle.run_stmts.specs.Trees.{stms_of}
use Rattle.run_stmts.proofs.seeking.some_case.Given as goal

abbrev pub invariant-loop-x : goal.invariant-loop-x
invariant-loop-x l =
    some_item (is_case l.number) (stms_of l.here (drop l.x-index l.xs))
    ≡ some_item (is_case l.fn.number) (stms_of l.fn.here l.fn.xs)
