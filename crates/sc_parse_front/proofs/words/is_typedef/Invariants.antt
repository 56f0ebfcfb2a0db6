use Rattle.std.proofs.Common.{◌≡◌, drop}
use Rattle.sc_tree.specs.Specifiers.{is_typedef}
use Rattle.sc_parse_front.proofs.words.is_typedef.Given as goal

abbrev pub invariant-loop-word : goal.invariant-loop-word
invariant-loop-word l = is_typedef l.storage ≡ is_typedef (drop l.word-index l.storage)
