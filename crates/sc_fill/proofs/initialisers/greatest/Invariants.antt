-- The greatest so far and of the rest is that of all.
use Rattle.std.proofs.Common.{◌≡◌, max, drop}
use Rattle.sc_fill.specs.Initialisers.{greatest}
use Rattle.sc_fill.proofs.initialisers.greatest.Given as goal

abbrev pub invariant-loop-item : goal.invariant-loop-item
invariant-loop-item l = max l.most (greatest (drop l.item-index l.items)) ≡ greatest l.items
