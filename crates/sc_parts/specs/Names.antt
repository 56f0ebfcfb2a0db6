-- Names, characters and strings (C11 6.4.4.4, 6.4.5, 6.5.1).
use Rattle.std.specs.Prelude.{ℕ, ℤ, ◌+◌, Bool, Option, Some, None, List, map, sum, slice_index_or, if◌then◌else◌}
use Rattle.std.specs.List.{list_any}
use Rattle.sc_base.specs.declared.pos.NameId.{NameId}
use Rattle.sc_base.specs.declared.pos.Pos.{Pos}
use Rattle.sc_base.specs.declared.skip.Unsupported.TheVariants as u
use Rattle.sc_base.specs.declared.skip.IllTyped.TheVariants as i
use Rattle.sc_tree.specs.declared.token.StrToken.{StrToken}
use Rattle.sc_tree.specs.declared.ctype.CType.{CType}
use Rattle.sc_tree.specs.declared.ctype.CType.TheVariants as ty
use Rattle.sc_tree.specs.declared.ctype.IntKind.TheVariants as kind
use Rattle.sc_tree.specs.declared.expr.Place.{Place}
use Rattle.sc_typed.specs.declared.expr.TExpr.{TExpr}
use Rattle.sc_typed.specs.declared.expr.What.TheVariants as what
use Rattle.sc_typed.specs.declared.program.Global.{Global}
use Rattle.sc_rules.specs.declared.walk.Entity.{Entity}
use Rattle.sc_rules.specs.declared.walk.Entity.TheVariants as entity
use Rattle.sc_rules.specs.Walks.{Check, ◌>>=◌, done, unsupported, ill_typed, name_means}
use Rattle.sc_rules.specs.Conversions.{node}
use Rattle.sc_operators.specs.Binary.{int, made}
use Rattle.sc_calls.specs.Calls.{unknown_function}

-- a character constant is an `int` (C11 6.4.4.4)
abbrev pub character : ℤ → Place → TExpr
character c p = node (what.Char c) int p

-- Strings (C11 6.4.5): an array of `char`, one longer than its bytes.
abbrev pub is_wide : List StrToken → Bool
is_wide = list_any (λ s. s.wide)

abbrev pub bytes_of : List StrToken → ℕ
bytes_of ss = sum (map (λ s. s.len) ss)

abbrev pub text_of : ℕ → Place → TExpr
text_of n p = node (what.Str n) (ty.Array (ty.Int kind.Char) (Some (n + 1))) p

abbrev pub string : List StrToken → Place → Check (Option TExpr)
string ss p = if is_wide ss then unsupported u.Odd p.token else done (Some (text_of (bytes_of ss) p))

abbrev pub global_at : List Global → ℕ → CType → CType
global_at gs n t = (slice_index_or gs n (record { name = record { at = 0 }; ctype = t; file = None })).ctype

-- a global has the type that all files give it, once that is known
abbrev pub global_type : (settled : Bool) → List Global → ℕ → CType → CType
global_type settled gs n t = if settled then global_at gs n t else t

abbrev pub a_global : (settled : Bool) → ℕ → CType → Place → Check (Option TExpr)
a_global settled n t p w = (Some (node (what.Global n) (global_type settled w.globals n t) p), w)

-- what a name stands for (C11 6.5.1), where its body in this file has that number
abbrev pub named : (settled : Bool) → (body : Option ℕ) → NameId → Place → Option Entity → Check (Option TExpr)
named settled body name p None = ill_typed i.Name p.token
named settled body name p (Some (entity.Typedef t)) = ill_typed i.Name p.token
named settled body name p (Some (entity.Function t brackets)) = made (what.Function name body) t p
named settled body name p (Some (entity.Constant n)) = made (what.Int n) int p
named settled body name p (Some (entity.Global n t)) = a_global settled n t p
named settled body name p (Some (entity.Param n t)) = made (what.Param n) t p
named settled body name p (Some (entity.Local n t)) = made (what.Local n) t p

abbrev pub a_name : (settled : Bool) → (body : Option ℕ) → NameId → Place → Check (Option TExpr)
a_name settled body name p = name_means name >>= λ e. named settled body name p e

-- a name is none that means a value
abbrev pub or_no_name : Option TExpr → Pos → Check (Option TExpr)
or_no_name None at = ill_typed i.Name at
or_no_name (Some e) at = done (Some e)

-- a name that means nothing is called as a function of which nothing is known
abbrev pub undeclared : (body : Option ℕ) → NameId → Place → TExpr
undeclared body name p = node (what.Function name body) (unknown_function int) p

-- what specifiers name by a name (C11 6.7.8)
abbrev pub typedef_of : Pos → Option Entity → Check (Option CType)
typedef_of at (Some (entity.Typedef t)) = done (Some t)
typedef_of at _ = ill_typed i.Name at

abbrev pub a_typedef : NameId → Pos → Check (Option CType)
a_typedef name at = name_means name >>= λ e. typedef_of at e

abbrev pub or_no_type : Option CType → Pos → Check (Option CType)
or_no_type None at = ill_typed i.Name at
or_no_type (Some t) at = done (Some t)
