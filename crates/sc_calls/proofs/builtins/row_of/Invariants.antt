-- The rows that are left give what all give.
use Rattle.std.proofs.Common.{◌≡◌, map, drop}
use Rattle.sc_tree.specs.Tables.{named}
use Rattle.sc_calls.proofs.builtins.row_of.Given as goal

abbrev pub invariant-loop-word : goal.invariant-loop-word
invariant-loop-word l = named (map (λ row. (row.0.now, row.1)) (drop l.word-index l.rows)) l.name ≡ named (map (λ row. (row.0.now, row.1)) l.rows) l.name
