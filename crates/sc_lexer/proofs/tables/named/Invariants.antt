-- The rows that are left give what all give.
use Rattle.std.proofs.Common.{◌≡◌, map, drop}
use Rattle.sc_tree.specs.Tables.{named}
use Rattle.sc_lexer.proofs.tables.named.Given as goal

abbrev pub invariant-loop-word : goal.invariant-loop-word
invariant-loop-word g l = named (map (λ row. (row.0.now, row.1)) (drop l.word-index l.table)) l.text ≡ named (map (λ row. (row.0.now, row.1)) l.table) l.text
