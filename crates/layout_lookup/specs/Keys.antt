-- What a location, or a call, is looked up by.
use Rattle.std.specs.Prelude.{◌≡◌, ℕ, ◌^◌, ◌≤◌, Bool, false}
use Rattle.sc_base.specs.declared.pos.Pos.{Pos}
use Rattle.sum_rows.specs.declared.path.Step.{Step}
use Rattle.sum_rows.specs.declared.path.Step.TheVariants as step
use Rattle.sc_world.specs.declared.run.Origin.{Origin}
use Rattle.sc_world.specs.declared.run.Origin.TheVariants as origin
use Rattle.layout_lookup.specs.declared.key.Place.{Place}
use Rattle.layout_lookup.specs.declared.key.Key.{Key}
use Rattle.layout_lookup.specs.declared.key.Key.TheVariants as key
use Rattle.layout_lookup.specs.contracts.key.KeyPartialEq.TheImpl as derived_key
use Rattle.layout_lookup.specs.contracts.key.PlacePartialEq.TheImpl as derived_place

abbrev pub place_of : Pos → Place
place_of p = record { file = p.file; line = p.line; col = p.col }

abbrev pub part_key : ℕ → Step → Key
part_key up step.Deref = key.Deref up
part_key up (step.Field n) = key.Field up n.at
part_key up (step.Elem k) = key.Elem up k

abbrev pub key_of : Origin → Key
key_of (origin.Param n) = key.Param n
key_of (origin.Global n) = key.Global n
key_of (origin.Local n) = key.Local n
key_of (origin.Literal p) = key.Literal (place_of p)
key_of (origin.Function n) = key.Function n.at
key_of (origin.Target n) = key.Target n
key_of (origin.Call n) = key.Call n
key_of (origin.Part up s) = part_key up s

-- whether two keys are one, and two places
abbrev pub same_key : Key → Key → Bool
same_key a b = derived_key.eq-value.it a b

abbrev pub same_place : Place → Place → Bool
same_place a b = derived_place.eq-value.it a b

-- it is no element with a number beyond 32 bits
abbrev pub HasFew : Key → Type 0
HasFew k = (up n : ℕ) → 2 ^ 32 ≤ n → same_key (key.Elem up n) k ≡ false
