use Rattle.std.proofs.Common.{◌≡◌, ◌≤◌, ◌+◌, length}
use Rattle.sc_tree.specs.Units.{is_braced, closes}
use Rattle.sc_parse_unit.proofs.braced.is_braced.Given as goal

-- what is still to be looked at decides, and no more brackets are open than tokens were passed
abbrev pub invariant-loop-turn : goal.invariant-loop-turn
invariant-loop-turn l = (is_braced l.tokens ≡ closes l.open l.left) × (1 ≤ l.open) × (l.open ≤ l._turn) × (length l.left + l._turn ≡ l.count)
