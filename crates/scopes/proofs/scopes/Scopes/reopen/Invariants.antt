use Rattle.std.proofs.Common.{◌≡◌, ℕ, List, ◌++◌, vec_len}
use Rattle.scopes.specs.Frames.{opened}
use Rattle.scopes.proofs.scopes.Scopes.reopen.Given as goal

-- the entries that are still to come, and those that are declared
abbrev pub invariant-loop-at : goal.invariant-loop-at
invariant-loop-at g l = (done : List (ℕ × g.row.T.Denot)) × (l.self ≡ opened done l.fn.self) × (l.entries.items ++ done ≡ l.fn.block)

abbrev pub decreases-loop-at : goal.decreases-loop-at
decreases-loop-at g l = vec_len l.entries
