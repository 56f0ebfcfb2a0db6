-- What was put, before the text of what is left, is the whole text.
use Rattle.std.proofs.Common.{◌≡◌, ◌++◌, drop}
use Rattle.drat_text.specs.Writing.{clauses_text}
use Rattle.drat_text.proofs.writing.put_clauses.Given as goal

abbrev pub invariant-loop-clause : goal.invariant-loop-clause
invariant-loop-clause l = l.out.items ++ clauses_text (drop l.clause-index l.clauses) ≡ l.fn.out.items ++ clauses_text l.clauses
