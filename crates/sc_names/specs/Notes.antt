-- Steps that note a fault and go on: a declaration with a fault is still declared.
use Rattle.std.specs.Prelude.{Bool}
use Rattle.sc_rules.specs.declared.walk.Fault.{Fault}
use Rattle.sc_rules.specs.Walks.{Check, ◌>>=◌, done, holds_or}

-- notes a fault where the test does not hold
abbrev pub note_unless : Bool → Fault → Check (Unit {0})
note_unless test f = holds_or test f >>= λ _. done tt
