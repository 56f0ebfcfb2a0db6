-- The tokens that were kept, before what is kept of the rest, are all that are kept.
use Rattle.std.proofs.Common.{◌≡◌, ◌≤◌, ◌++◌, length, take, drop}
use Rattle.sc_tree.specs.Removal.{kept}
use Rattle.sc_lexer.proofs.removal.kept.Given as goal

abbrev pub invariant-loop-at : goal.invariant-loop-at
invariant-loop-at l =
    (take l.len l.items.items ++ kept l.skip (drop l.at l.items.items) ≡ kept 0 l.fn.tokens) × (l.len ≤ l.at) × (length l.items.items ≡ l.end)
