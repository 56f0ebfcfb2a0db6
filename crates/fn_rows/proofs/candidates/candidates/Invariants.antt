use Rattle.std.proofs.Common.{◌≡◌, take}
use Rattle.sc_world.specs.Verdict.{candidates}
use Rattle.fn_rows.proofs.candidates.candidates.Given as goal

abbrev pub invariant-loop-given : goal.invariant-loop-given
invariant-loop-given l = l.rows.items ≡ candidates (take l.given-index l.givens) l.befores l.results l.afters
