-- Whether a token opens or closes a bracket.
use Rattle.std.specs.Prelude.{Bool, true, false}
use Rattle.sc_tree.specs.Units.{Turn, Opens, Closes}

abbrev pub is_opening : Turn → Bool
is_opening Opens = true
is_opening _ = false

abbrev pub is_closing : Turn → Bool
is_closing Closes = true
is_closing _ = false
