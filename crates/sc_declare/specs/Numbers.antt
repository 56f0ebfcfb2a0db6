-- The numbers of globals, told from their keys in the order of the globals.
use Rattle.std.specs.Prelude.{ℕ, nat_eq, Bool, ◌&&◌, Option, List, map, ◌++◌, ◌∷◌, [], if◌then◌else◌}
use Rattle.std.specs.List.{list_any, position_or_len}
use Rattle.sc_typed.specs.declared.program.Global.{Global}
use Rattle.sc_typed.specs.Types.{same_length}
use Rattle.sc_rules.specs.declared.walk.GlobalKey.{GlobalKey}

-- the key of a global
abbrev pub key_of : Global → GlobalKey
key_of g = record { name = g.name; file = g.file }

abbrev pub keys_of : List Global → List GlobalKey
keys_of gs = map key_of gs

abbrev pub is_key : GlobalKey → GlobalKey → Bool
is_key k l = nat_eq k.name.at l.name.at && same_length k.file l.file

-- the place of a key; behind all others where it is not there
abbrev pub place_of : GlobalKey → List GlobalKey → ℕ
place_of k ks = position_or_len (is_key k) ks

-- the keys, and this one behind them where it is not there
abbrev pub with_key : List GlobalKey → GlobalKey → List GlobalKey
with_key ks k = if list_any (is_key k) ks then ks else ks ++ k ∷ []

-- a key as the index by hash holds it, and back
abbrev pub key_at : ℕ × Option ℕ → GlobalKey
key_at p = record { name = record { at = p.0 }; file = p.1 }
