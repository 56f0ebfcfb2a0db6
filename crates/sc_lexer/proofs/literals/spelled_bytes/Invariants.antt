-- The bytes so far, with those that the rest spells in the steps that are left, are all.
use Rattle.std.proofs.Common.{◌≡◌, ◌+◌, ◌-◌, ◌≤◌, length, drop}
use Rattle.std.specs.Prelude.{option_map}
use Rattle.sc_tree.specs.Literals.{spelled_bytes}
use Rattle.sc_lexer.proofs.literals.spelled_bytes.Given as goal

abbrev pub invariant-loop : goal.invariant-loop
invariant-loop l =
    (option_map (λ n. l.count + n) (spelled_bytes (length l.text - l.counter) (drop l.at l.text)) ≡ spelled_bytes (length l.text) l.text)
    × (l.count ≤ l.counter) × (l.at ≤ length l.text)
