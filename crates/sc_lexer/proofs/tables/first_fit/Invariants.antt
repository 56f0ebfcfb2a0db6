-- The rows that are left give what all give.
use Rattle.std.proofs.Common.{◌≡◌, map, drop}
use Rattle.sc_tree.specs.Tables.{first_fit}
use Rattle.sc_lexer.proofs.tables.first_fit.Given as goal

abbrev pub invariant-loop-text : goal.invariant-loop-text
invariant-loop-text g l = first_fit (map (λ row. (row.0.now, row.1)) (drop l.text-index l.table)) l.bytes
    ≡ first_fit (map (λ row. (row.0.now, row.1)) l.table) l.bytes
