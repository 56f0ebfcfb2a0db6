-- What is open, as the brackets are kept in the lexer: the last one stands last.
use Rattle.std.specs.Prelude.{reverse}
use Rattle.sc_tree.specs.Brackets.{Open as Brackets}
use Rattle.sc_lexer.specs.declared.brackets.Open.{Open}

abbrev pub now_open : Open → Brackets
now_open o = record { brackets = reverse o.brackets.items; since = o.since }
