-- The length that an initialiser gives to an array at file scope leaves the globals as they are. The definitions are
-- gone through with a variable in place of the walk over expressions, which is long to compare with itself.
use Rattle.std.proofs.Common.{◌≡◌, ℕ, max, Option, Some, None, List, [], ◌∷◌, refl, if◌then◌else◌}
use Rattle.std.specs.Prelude.{ℤ}
use Rattle.sc_tree.specs.declared.ctype.CType.{CType, CType-F, out-CType}
use Rattle.sc_tree.specs.declared.ctype.CType.TheVariants as ty
use Rattle.sc_tree.specs.declared.ctype.Signature.{Signature}
use Rattle.sc_tree.specs.declared.expr.Expr.{Expr}
use Rattle.sc_tree.specs.declared.decl.Designator.{Designator}
use Rattle.sc_tree.specs.declared.decl.Designator.TheVariants as designator
use Rattle.sc_tree.specs.declared.decl.Init.{Init, Init-F, out-Init}
use Rattle.sc_tree.specs.declared.decl.InitItem.{InitItem, InitItem-F, out-InitItem}
use Rattle.sc_tree.specs.declared.ctype.Widths.{Widths}
use Rattle.sc_typed.specs.declared.expr.TExpr.{TExpr}
use Rattle.sc_typed.specs.declared.program.Global.{Global}
use Rattle.sc_rules.specs.declared.walk.Walk.{Walk}
use Rattle.sc_rules.specs.declared.walk.Fault.{Fault}
use Rattle.sc_rules.specs.Walks.{Check, ◌>>=◌, done, given}
use Rattle.sc_typing.specs.Here.{Here}
use Rattle.sc_typing.specs.Typing.{typing, valued}
use Rattle.sc_fill.specs.Parts.{is_char_array}
use Rattle.sc_lengths.specs.declared.ways.Item.{Item}
use Rattle.sc_lengths.specs.Ways.{Way}
use Rattle.sc_lengths.specs.Designators.{with_part, with_first, unnoted, part_now, from_part, number_if, element_part}
use Rattle.sc_lengths.specs.Designators.{field_now, number_now, designated}
use Rattle.sc_lengths.specs.Lengths.{following_now, item_of, reached, outermost, whole_string, or_else, completed_type}
use Rattle.typing_laws.specs.Kept.{KeepsGlobals}
use Rattle.typing_laws.proofs.Steps.{keeps, by_then, by_done, by_if, by_given}
use Rattle.typing_laws.proofs.Walk.{valued_kept}
use Rattle.typing_laws.proofs.Induction.{expressions_kept}

-- Designators, with whatever tells the number of one.

first_kept : {A : Type 0} (f : Option Fault) (r : A × Walk) (gs : List Global) → r.1.globals ≡ gs
    → (with_first f r).1.globals ≡ gs
first_kept f (a, w) gs is = is

unnoted_kept : {A : Type 0} (m : Check A) → KeepsGlobals m → KeepsGlobals (unnoted m)
unnoted_kept m k = record { kept = λ w. first_kept w.first (m w) w.globals (k.kept w) }

abbrev number_by : Widths → Check (Option TExpr) → Check (Option ℤ)
number_by ws value = unnoted value >>= λ x. done (number_if ws x)

number_by_kept : (ws : Widths) (value : Check (Option TExpr)) → KeepsGlobals value → KeepsGlobals (number_by ws value)
number_by_kept ws value k = by_done (unnoted value) (number_if ws) (unnoted_kept value k)

from_kept : (n : Option ℕ) (f : ℕ → Check (Option Way)) → ((k : ℕ) → KeepsGlobals (f k)) → KeepsGlobals (from_part n f)
from_kept None f rest = keeps (λ w. refl)
from_kept (Some k) f rest = by_done (f k) (with_part k) (rest k)

part_kept : (t : CType) (k : ℕ) → KeepsGlobals (part_now t k)
part_kept t k = keeps (λ w. refl)

module _ (number : Expr → Check (Option ℤ)) where
  abbrev part_by : CType → Designator → Check (Option ℕ)
  part_by t (designator.Field name) = field_now t name
  part_by t (designator.Index e) = number e >>= λ z. done (element_part z (out-CType t))

  abbrev way_by : CType → List Designator → Check (Option Way)
  way_by t [] = done (Some [])
  way_by t (d ∷ ds) = part_by t d >>= λ n. from_part n (λ k. part_now t k >>= λ u. way_by u ds)

module _ (number : Expr → Check (Option ℤ)) (numbers : (e : Expr) → KeepsGlobals (number e)) where
  part_by_kept : (t : CType) (d : Designator) → KeepsGlobals (part_by number t d)
  part_by_kept t (designator.Field name) = keeps (λ w. refl)
  part_by_kept t (designator.Index e) = by_done (number e) (λ z. element_part z (out-CType t)) (numbers e)

  way_by_kept : (t : CType) (ds : List Designator) → KeepsGlobals (way_by number t ds)
  way_by_kept t [] = keeps (λ w. refl)
  way_by_kept t (d ∷ ds) =
      by_then (part_by number t d) (λ n. from_part n (λ k. part_now t k >>= λ u. way_by number u ds)) (part_by_kept t d)
      (λ n. from_kept n (λ k. part_now t k >>= λ u. way_by number u ds)
      (λ k. by_then (part_now t k) (λ u. way_by number u ds) (part_kept t k) (λ u. way_by_kept u ds)))

-- Items, with whatever finds the way that designators name.

following_kept : (t : CType) (way : Option Way) → KeepsGlobals (following_now t way)
following_kept t way = keeps (λ w. refl)

reached_kept : (x : Item) (t : CType) (way : Option Way) → KeepsGlobals (reached x t way)
reached_kept x t None = keeps (λ w. refl)
reached_kept x t (Some way) = keeps (λ w. refl)

or_kept : (n : Option ℕ) (m : Check (Option ℕ)) → KeepsGlobals m → KeepsGlobals (or_else n m)
or_kept None m k = k
or_kept (Some n) m k = keeps (λ w. refl)

module _ (named : CType → List Designator → Check (Option Way)) where
  abbrev next_by : CType → List Designator → Option Way → Check (Option Way)
  next_by t [] way = following_now t way
  next_by t (d ∷ ds) way = named t (d ∷ ds)

  abbrev item_by : CType → Option Way → InitItem-F Init InitItem → Check (Option Way)
  item_by t way x = next_by t x.designators way >>= λ next. reached (item_of (out-Init x.init)) t next

  abbrev count_by : CType → List InitItem → (way : Option Way) → (most : ℕ) → Check (Option ℕ)
  count_by t [] way most = done (Some most)
  count_by t (x ∷ xs) way most =
      item_by t way (out-InitItem x) >>= λ next. given next (λ at. count_by t xs (Some at) (max most (outermost at)))

  abbrev counted_by : CType → Init-F Init InitItem → Check (Option ℕ)
  counted_by t (Init-F.One e) = done None
  counted_by t (Init-F.List items) = count_by t items None 0

  abbrev length_by : CType → Init-F Init InitItem → Check (Option ℕ)
  length_by t x = if is_char_array t then or_else (whole_string x) (counted_by t x) else counted_by t x

  abbrev array_by : Init → CType → (element : CType) → Check CType
  array_by x t u = length_by t (out-Init x) >>= λ n. done (ty.Array u n)

  abbrev layer_by : Init → CType → CType-F CType Signature → Check CType
  layer_by x t (CType-F.Array u None) = array_by x t u
  layer_by x t _ = done t

  abbrev completed_by : Option Init → CType → Check CType
  completed_by None t = done t
  completed_by (Some x) t = layer_by x t (out-CType t)

module _ (named : CType → List Designator → Check (Option Way)) (ways : (t : CType) (ds : List Designator) → KeepsGlobals (named t ds)) where
  next_by_kept : (t : CType) (ds : List Designator) (way : Option Way) → KeepsGlobals (next_by named t ds way)
  next_by_kept t [] way = following_kept t way
  next_by_kept t (d ∷ ds) way = ways t (d ∷ ds)

  item_by_kept : (t : CType) (way : Option Way) (x : InitItem-F Init InitItem) → KeepsGlobals (item_by named t way x)
  item_by_kept t way x =
      by_then (next_by named t x.designators way) (λ next. reached (item_of (out-Init x.init)) t next)
      (next_by_kept t x.designators way) (λ next. reached_kept (item_of (out-Init x.init)) t next)

  count_by_kept : (t : CType) (xs : List InitItem) (way : Option Way) (most : ℕ) → KeepsGlobals (count_by named t xs way most)
  count_by_kept t [] way most = keeps (λ w. refl)
  count_by_kept t (x ∷ xs) way most =
      by_then (item_by named t way (out-InitItem x))
      (λ next. given next (λ at. count_by named t xs (Some at) (max most (outermost at))))
      (item_by_kept t way (out-InitItem x))
      (λ next. by_given next (λ at. count_by named t xs (Some at) (max most (outermost at)))
      (λ at. count_by_kept t xs (Some at) (max most (outermost at))))

  counted_by_kept : (t : CType) (x : Init-F Init InitItem) → KeepsGlobals (counted_by named t x)
  counted_by_kept t (Init-F.One e) = keeps (λ w. refl)
  counted_by_kept t (Init-F.List items) = count_by_kept t items None 0

  length_by_kept : (t : CType) (x : Init-F Init InitItem) → KeepsGlobals (length_by named t x)
  length_by_kept t x =
      by_if (is_char_array t) (or_else (whole_string x) (counted_by named t x)) (counted_by named t x)
      (or_kept (whole_string x) (counted_by named t x) (counted_by_kept t x)) (counted_by_kept t x)

  array_by_kept : (x : Init) (t u : CType) → KeepsGlobals (array_by named x t u)
  array_by_kept x t u = by_done (length_by named t (out-Init x)) (λ n. ty.Array u n) (length_by_kept t (out-Init x))

  layer_by_kept : (x : Init) (t : CType) (s : CType-F CType Signature) → KeepsGlobals (layer_by named x t s)
  layer_by_kept x t CType-F.Void = keeps (λ w. refl)
  layer_by_kept x t CType-F.Bool = keeps (λ w. refl)
  layer_by_kept x t (CType-F.Int k) = keeps (λ w. refl)
  layer_by_kept x t (CType-F.Ptr u) = keeps (λ w. refl)
  layer_by_kept x t (CType-F.Array u None) = array_by_kept x t u
  layer_by_kept x t (CType-F.Array u (Some n)) = keeps (λ w. refl)
  layer_by_kept x t (CType-F.Struct n) = keeps (λ w. refl)
  layer_by_kept x t (CType-F.Union n) = keeps (λ w. refl)
  layer_by_kept x t (CType-F.Func s) = keeps (λ w. refl)
  layer_by_kept x t (CType-F.Opaque k) = keeps (λ w. refl)

  completed_by_kept : (x : Option Init) (t : CType) → KeepsGlobals (completed_by named x t)
  completed_by_kept None t = keeps (λ w. refl)
  completed_by_kept (Some x) t = layer_by_kept x t (out-CType t)

-- With the walk over expressions.

number_kept : (here : Here) (e : Expr) → KeepsGlobals (number_now here e)
number_kept here e = number_by_kept here.widths (valued (typing here e)) (valued_kept (typing here e) (expressions_kept here e))

designated_kept : (here : Here) (t : CType) (ds : List Designator) → KeepsGlobals (designated here t ds)
designated_kept here = way_by_kept (number_now here) (number_kept here)

pub completed_kept : (here : Here) (x : Option Init) (t : CType) → KeepsGlobals (completed_type here x t)
completed_kept here = completed_by_kept (designated here) (designated_kept here)
