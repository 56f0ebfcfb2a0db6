-- Tokens as the grammar speaks of them, and the names that are typedef names.
use Rattle.std.specs.Prelude.{Bool, false, ◌||◌, eqb, List, [], ◌∷◌}
use Rattle.sc_base.specs.declared.pos.Pos.{Pos}
use Rattle.sc_base.specs.declared.pos.NameId.{NameId}
use Rattle.sc_tree.specs.declared.token.Token.{Token}
use Rattle.sc_tree.specs.declared.token.Kind.{Kind}
use Rattle.sc_tree.specs.declared.token.Kind.TheVariants as k
use Rattle.sc_tree.specs.declared.token.Punct.{Punct}
use Rattle.sc_tree.specs.declared.token.Reserved.{Reserved}
use Rattle.sc_tree.specs.declared.expr.Place.{Place}

-- a token of that kind at that place
abbrev pub token : Kind → Pos → Token
token kind pos = record { kind = kind; pos = pos }

abbrev pub word : NameId → Pos → Token
word w pos = token (k.Word w) pos

abbrev pub punct : Punct → Pos → Token
punct p pos = token (k.Punct p) pos

abbrev pub reserved : Reserved → Pos → Token
reserved r pos = token (k.Reserved r) pos

-- the place of the first token, and one that no token has where there is none
abbrev pub first_pos : List Token → Pos
first_pos [] = record { file = 0; line = 0; col = 0 }
first_pos (t ∷ ts) = t.pos

-- an expression that its first token stands for
abbrev pub at : Pos → Place
at p = record { token = p; first = p }

-- an expression that begins with these tokens, and for which another stands
abbrev pub after : List Token → Pos → Place
after ts p = record { token = p; first = first_pos ts }

-- whether the name is among the typedef names
abbrev pub is_type : List NameId → NameId → Bool
is_type [] w = false
is_type (t ∷ ts) w = eqb t.at w.at || is_type ts w
