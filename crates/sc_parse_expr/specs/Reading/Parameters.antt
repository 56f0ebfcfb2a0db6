-- The parameters of a function (C11 6.7.6.3).
use Rattle.std.specs.Prelude.{ℕ, length, Bool, true, false, ◌&&◌, List, [], ◌∷◌, ◌++◌, Option, Some, None, if◌then◌else◌}
use Rattle.sc_base.specs.declared.pos.NameId.{NameId}
use Rattle.sc_tree.specs.declared.expr.Head.{Head}
use Rattle.sc_tree.specs.declared.grammar.Naming.TheVariants as naming
use Rattle.sc_tree.specs.Tables.{◌>>=◌}
use Rattle.sc_parse_expr.specs.declared.found.Wanted.{Wanted}
use Rattle.sc_parse_expr.specs.declared.found.Phrase.{Phrase}
use Rattle.sc_parse_expr.specs.declared.found.Headed.{Headed}
use Rattle.sc_parse_front.specs.Front.{front, front_reserved, behind, is_right_paren, is_ellipsis, is_void_key}
use Rattle.sc_parse_expr.specs.Read.{Read, read, Parse, Listed, commas}
use Rattle.sc_parse_expr.specs.declared.parameters.Params as code
use Rattle.sc_parse_expr.specs.Reading.Grammar.{inner_head}

-- The parameters of a function: their heads, whether each has a name, and whether `...` stands behind.
pub record Params : Type 0 where
  pub heads : Option (List Head)
  pub named : Bool
  pub dots : Bool

abbrev pub params : Option (List Head) → Bool → Bool → Params
params hs named dots = record { heads = hs; named = named; dots = dots }

-- the parameters as the reading has them
abbrev pub params_of : code.Params → Params
params_of p = params p.heads p.named p.dots

-- The heads of parameters, and whether each has a name.
pub record Roll : Type 0 where
  pub heads : List Head
  pub named : Bool

abbrev pub enrolled : Roll → Headed → Roll
enrolled r x = record { heads = r.heads ++ x.head ∷ []; named = r.named && x.named }

module _ (types : List NameId) (limit : ℕ) (inner : Wanted → Parse Phrase) where
  abbrev pub listed_params : Read (Listed Roll) → Option (Read Params)
  listed_params r = if r.it.comma then Some (read (params (Some r.it.items.heads) r.it.items.named true) r.height (behind r.rest))
      else Some (read (params (Some r.it.items.heads) r.it.items.named false) r.height r.rest)

  -- one parameter at least
  abbrev pub some_heads : Parse Params
  some_heads ts = commas (inner_head types limit inner naming.Optional) enrolled is_ellipsis (length ts)
      (record { heads = []; named = true }) 0 ts >>= listed_params

  unfoldable pub parameters : Parse Params
  parameters ts = if is_right_paren (front ts) then Some (read (params None true false) 0 ts)
      else (if is_void_key (front_reserved ts) && is_right_paren (front (behind ts)) then Some (read (params (Some []) true false) 0 (behind ts))
      else (commas (inner_head types limit inner naming.Optional) enrolled is_ellipsis (length ts) (record { heads = []; named = true }) 0
      ts >>= listed_params))
