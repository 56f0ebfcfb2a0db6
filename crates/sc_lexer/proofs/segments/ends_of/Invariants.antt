-- The ends so far, before those from here on, are all.
use Rattle.std.proofs.Common.{◌≡◌, ◌≤◌, ◌++◌, drop}
use Rattle.sc_tree.specs.Segments.{ends_from, first_spot}
use Rattle.sc_lexer.proofs.segments.ends_of.Given as goal

abbrev pub invariant-loop-at : goal.invariant-loop-at
invariant-loop-at l =
    (l.ends ++ ends_from l.start l.at l.spot (drop l.at l.tokens) ≡ ends_from 0 0 first_spot l.tokens) × (l.start ≤ l.at) × (l.spot.depth ≤ l.at)
