-- What a loop has typed, with what the items that are left give, is what all items give.
use Rattle.std.proofs.Common.{◌≡◌, map, drop}
use Rattle.sc_declare.specs.Numbers.{keys_of}
use Rattle.sc_typing.specs.Tables.{here_of}
use Rattle.sc_bodies.specs.Around.{inside_of}
use Rattle.sc_bodies.specs.Bodies.{stating, items}
use Rattle.sc_bodies.proofs.Joined.{joined}
use Rattle.sc_bodies.proofs.statements.+statement.Given as goal

abbrev pub invariant-items-loop-x : goal.invariant-items-loop-x
invariant-items-loop-x l = record {
  typed :
      joined l.typed (items (map (stating (here_of l.here)) (drop l.x-index l.xs)) (inside_of l.around) l.walk)
      ≡ items (map (stating (here_of l.fn.here)) l.fn.xs) (inside_of l.fn.around) l.fn.walk;
  tied : l.numbers ≡ keys_of l.walk.globals;
}
