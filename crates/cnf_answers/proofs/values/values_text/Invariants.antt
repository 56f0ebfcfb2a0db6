use Rattle.std.proofs.Common.{◌≡◌, ◌++◌, ◌∷◌, [], drop, map, codes}
use Rattle.drat_text.specs.Writing.{lit_word}
use Rattle.cnf_answers.specs.Values.{values_text, words_text}
use Rattle.cnf_answers.proofs.values.values_text.Given as goal

-- the words that are left complete the text
abbrev pub invariant-loop-lit : goal.invariant-loop-lit
invariant-loop-lit l =
    l.lines.text.items ++ words_text l.lines.column (map lit_word (drop l.lit-index l.lits) ++ codes "0" ∷ []) ≡ values_text l.lits
