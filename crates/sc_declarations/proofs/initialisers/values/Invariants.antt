-- The values so far, with those of the items that are left, are those of all.
use Rattle.std.proofs.Common.{◌≡◌, drop}
use Rattle.sc_typing.specs.Tables.{here_of}
use Rattle.sc_declarations.specs.Initialisers.{values, expressions_there}
use Rattle.sc_declarations.proofs.Joined.{joined}
use Rattle.sc_declarations.proofs.initialisers.values.Given as goal

abbrev pub invariant-loop-item : goal.invariant-loop-item
invariant-loop-item l =
    joined l.values (values (here_of l.here) (expressions_there (drop l.item-index l.items)) l.walk)
    ≡ values (here_of l.fn.here) (expressions_there l.fn.items) l.fn.walk
