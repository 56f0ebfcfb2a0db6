-- How large a type may be. A type is a tree that is copied whole, and typedefs build larger ones than any text. So at most 128
-- derivations (C11 6.2.5, 20: pointers, arrays and functions) stand in one another, where C11 5.2.4.1 asks for 12; and a type
-- has at most 4,096 parts. A struct or union is one part, whatever its members are.
use Rattle.std.specs.Prelude.{ℕ, ◌-◌, nat_eq, Bool, true, false, not, ◌&&◌, Option, Some, None, List, [], ◌∷◌, if◌then◌else◌, option_and_then}
use Rattle.std.specs.List.{list_all}
use Rattle.sc_base.specs.declared.pos.Pos.{Pos}
use Rattle.sc_base.specs.declared.skip.Skip.TheVariants as skip
use Rattle.sc_tree.specs.declared.ctype.CType.{CType, CType-F}
use Rattle.sc_tree.specs.declared.ctype.CType.TheFolds.{fold-CType, fold-Signature}
use Rattle.sc_tree.specs.declared.ctype.Signature.{Signature, Signature-F}
use Rattle.sc_rules.specs.declared.walk.Fault.{Fault}
use Rattle.sc_rules.specs.Walks.{Check, done, fault}

abbrev pub max_derivations : ℕ
max_derivations = 128

abbrev pub max_parts : ℕ
max_parts = 4096

-- Whether at most n derivations stand in one another.

abbrev pub under : (ℕ → Bool) → ℕ → Bool
under inner n = not (nat_eq n 0) && inner (n - 1)

abbrev pub within_step : CType-F (ℕ → Bool) (ℕ → Bool) → ℕ → Bool
within_step (CType-F.Ptr t) n = under t n
within_step (CType-F.Array t length) n = under t n
within_step (CType-F.Func s) n = under s n
within_step _ n = true

abbrev pub all_within : Option (List (ℕ → Bool)) → ℕ → Bool
all_within None n = true
all_within (Some ts) n = list_all (λ t. t n) ts

abbrev pub signature_within_step : Signature-F (ℕ → Bool) (ℕ → Bool) → ℕ → Bool
signature_within_step s n = s.result n && all_within s.params n

abbrev pub within : CType → ℕ → Bool
within = fold-CType (ℕ → Bool) (ℕ → Bool) within_step signature_within_step

abbrev pub signature_within : Signature → ℕ → Bool
signature_within = fold-Signature (ℕ → Bool) (ℕ → Bool) within_step signature_within_step

-- What is left of a room of n parts once a type stands in it; nothing where it does not fit.

abbrev pub part_left : ℕ → Option ℕ
part_left n = if nat_eq n 0 then None else Some (n - 1)

abbrev pub all_left : List (ℕ → Option ℕ) → ℕ → Option ℕ
all_left [] n = Some n
all_left (t ∷ ts) n = option_and_then (all_left ts) (t n)

abbrev pub params_left : Option (List (ℕ → Option ℕ)) → ℕ → Option ℕ
params_left None n = Some n
params_left (Some ts) n = all_left ts n

abbrev pub left_step : CType-F (ℕ → Option ℕ) (ℕ → Option ℕ) → ℕ → Option ℕ
left_step (CType-F.Ptr t) n = option_and_then t (part_left n)
left_step (CType-F.Array t length) n = option_and_then t (part_left n)
left_step (CType-F.Func s) n = option_and_then s (part_left n)
left_step _ n = part_left n

abbrev pub signature_left_step : Signature-F (ℕ → Option ℕ) (ℕ → Option ℕ) → ℕ → Option ℕ
signature_left_step s n = option_and_then (params_left s.params) (s.result n)

abbrev pub left : CType → ℕ → Option ℕ
left = fold-CType (ℕ → Option ℕ) (ℕ → Option ℕ) left_step signature_left_step

abbrev pub signature_left : Signature → ℕ → Option ℕ
signature_left = fold-Signature (ℕ → Option ℕ) (ℕ → Option ℕ) left_step signature_left_step

abbrev pub fits : Option ℕ → Bool
fits None = false
fits (Some n) = true

abbrev pub is_bounded : CType → Bool
is_bounded t = within t max_derivations && fits (left t max_parts)

-- A declarator that makes a larger type is refused as one that the grammar does not have, at that place.

abbrev pub too_large : Pos → Fault
too_large at = record { pos = at; skip = skip.Grammar at }

abbrev pub bounded : Pos → CType → Check (Option CType)
bounded at t = if is_bounded t then done (Some t) else fault (too_large at)
