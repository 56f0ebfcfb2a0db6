-- Arrays at file scope that get their length from their initialiser (C11 6.7.9, 22). Initialisers at file scope
-- are not typed: an item in one counts as a scalar, a string or a list in braces. Braces that are left out are
-- as if they stood there, and designators name the part that comes next.
use Rattle.std.specs.Prelude.{ℕ, ◌+◌, max, Option, Some, None, List, [], ◌∷◌, if◌then◌else◌}
use Rattle.sc_tree.specs.declared.ctype.CType.{CType, CType-F, out-CType}
use Rattle.sc_tree.specs.declared.ctype.CType.TheVariants as ty
use Rattle.sc_tree.specs.declared.ctype.Signature.{Signature}
use Rattle.sc_tree.specs.declared.expr.Expr.{Expr, Expr-F, out-Expr}
use Rattle.sc_tree.specs.declared.expr.Head.{Head}
use Rattle.sc_tree.specs.declared.expr.Base.{Base}
use Rattle.sc_tree.specs.declared.expr.Declarator.{Declarator}
use Rattle.sc_tree.specs.declared.expr.Aggregate.{Aggregate}
use Rattle.sc_tree.specs.declared.expr.EnumSpec.{EnumSpec}
use Rattle.sc_tree.specs.declared.expr.Enumerator.{Enumerator}
use Rattle.sc_tree.specs.declared.expr.Member.{Member}
use Rattle.sc_tree.specs.declared.expr.Part.{Part}
use Rattle.sc_tree.specs.declared.expr.Specs.{Specs}
use Rattle.sc_tree.specs.declared.decl.Designator.{Designator}
use Rattle.sc_tree.specs.declared.decl.Init.{Init, Init-F, out-Init}
use Rattle.sc_tree.specs.declared.decl.InitItem.{InitItem, InitItem-F, out-InitItem}
use Rattle.sc_rules.specs.Walks.{Check, ◌>>=◌, done, given}
use Rattle.sc_typing.specs.Here.{Here}
use Rattle.sc_parts.specs.Names.{bytes_of}
use Rattle.sc_fill.specs.Parts.{is_char_array}
use Rattle.sc_lengths.specs.declared.ways.Item.{Item}
use Rattle.sc_lengths.specs.declared.ways.Item.TheVariants as item
use Rattle.sc_lengths.specs.Ways.{Way, following, to_first}
use Rattle.sc_lengths.specs.Designators.{designated}

abbrev pub following_now : CType → Option Way → Check (Option Way)
following_now t way w = (following w.structs t way, w)

abbrev pub expression_item : Expr-F Base Declarator Expr Aggregate EnumSpec Enumerator Head Member Part Specs → Item
expression_item (Expr-F.Str ss p) = item.Text
expression_item _ = item.Scalar

abbrev pub item_of : Init-F Init InitItem → Item
item_of (Init-F.One e) = expression_item (out-Expr e)
item_of (Init-F.List items) = item.Braces

abbrev pub first_now : Item → CType → Way → Check (Option Way)
first_now x t way w = (Some (to_first x w.structs t way), w)

abbrev pub reached : Item → CType → Option Way → Check (Option Way)
reached x t None = done None
reached x t (Some way) = first_now x t way

-- one more than the number of the element that a way leads to or through
abbrev pub outermost : Way → ℕ
outermost [] = 0
outermost (k ∷ ks) = k + 1

-- the bytes of a string that stands for the whole array, by itself or alone in braces
abbrev pub string_bytes : Expr-F Base Declarator Expr Aggregate EnumSpec Enumerator Head Member Part Specs → Option ℕ
string_bytes (Expr-F.Str ss p) = Some (bytes_of ss + 1)
string_bytes _ = None

abbrev pub string_in : Init-F Init InitItem → Option ℕ
string_in (Init-F.One e) = string_bytes (out-Expr e)
string_in (Init-F.List items) = None

abbrev pub alone : List Designator → Option ℕ → Option ℕ
alone [] n = n
alone (d ∷ ds) n = None

abbrev pub string_alone : InitItem-F Init InitItem → Option ℕ
string_alone x = alone x.designators (string_in (out-Init x.init))

abbrev pub whole_string : Init-F Init InitItem → Option ℕ
whole_string (Init-F.One e) = string_bytes (out-Expr e)
whole_string (Init-F.List (x ∷ [])) = string_alone (out-InitItem x)
whole_string _ = None

abbrev pub or_else : Option ℕ → Check (Option ℕ) → Check (Option ℕ)
or_else None m = m
or_else (Some n) m = done (Some n)

module _ (here : Here) where
  abbrev pub next_of : CType → List Designator → Option Way → Check (Option Way)
  next_of t [] way = following_now t way
  next_of t (d ∷ ds) way = designated here t (d ∷ ds)

  -- the way to the part for which an item stands, behind the one before
  abbrev pub item_way : CType → Option Way → InitItem-F Init InitItem → Check (Option Way)
  item_way t way x = next_of t x.designators way >>= λ next. reached (item_of (out-Init x.init)) t next

  -- the greatest number of elements that the items set, None where one of them names no part
  abbrev pub count_items : CType → List InitItem → (way : Option Way) → (most : ℕ) → Check (Option ℕ)
  count_items t [] way most = done (Some most)
  count_items t (x ∷ xs) way most = do
    next ← item_way t way (out-InitItem x)
    given next (λ at. count_items t xs (Some at) (max most (outermost at)))

  abbrev pub counted : CType → Init-F Init InitItem → Check (Option ℕ)
  counted t (Init-F.One e) = done None
  counted t (Init-F.List items) = count_items t items None 0

  -- the length that an initialiser gives to an array of that type without length
  abbrev pub length_from : CType → Init-F Init InitItem → Check (Option ℕ)
  length_from t x = if is_char_array t then or_else (whole_string x) (counted t x) else counted t x

  abbrev pub completed_array : Init → CType → (element : CType) → Check CType
  completed_array x t u = length_from t (out-Init x) >>= λ n. done (ty.Array u n)

  abbrev pub completed_layer : Init → CType → CType-F CType Signature → Check CType
  completed_layer x t (CType-F.Array u None) = completed_array x t u
  completed_layer x t _ = done t

  -- a type with the length that the initialiser gives it
  abbrev pub completed_type : Option Init → CType → Check CType
  completed_type None t = done t
  completed_type (Some x) t = completed_layer x t (out-CType t)
