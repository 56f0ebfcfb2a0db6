-- Values spread over the parts of an object (C11 6.7.9, 17 to 21): which part each value sets. A string for an array
-- of characters is not taken.
use Rattle.std.specs.Prelude.{ℕ, zero, suc, ◌+◌, nat_eq, nat_lt, Bool, true, false, not, ◌&&◌, Option, Some, None, List, [], ◌∷◌, ◌++◌, length, if◌then◌else◌}
use Rattle.sc_base.specs.declared.pos.Pos.{Pos}
use Rattle.sc_base.specs.declared.skip.Unsupported.TheVariants as u
use Rattle.sc_base.specs.declared.skip.IllTyped.TheVariants as i
use Rattle.sc_tree.specs.declared.ctype.CType.{CType, CType-F, out-CType}
use Rattle.sc_tree.specs.declared.ctype.Signature.{Signature}
use Rattle.sc_tree.specs.declared.ctype.Widths.{Widths}
use Rattle.sc_typed.specs.declared.expr.TExpr.{TExpr}
use Rattle.sc_typed.specs.declared.stmt.InitStep.{InitStep}
use Rattle.sc_typed.specs.declared.stmt.InitStep.TheVariants as step
use Rattle.sc_typed.specs.declared.stmt.TInitItem.{TInitItem}
use Rattle.sc_typed.specs.Types.{same}
use Rattle.sc_rules.specs.Walks.{Check, ◌>>=◌, done, given, unsupported}
use Rattle.sc_rules.specs.Conversions.{type_of, value, converted}
use Rattle.sc_unary.specs.Members.{body_of}
use Rattle.sc_fill.specs.declared.filling.Filling.{Filling}
use Rattle.sc_fill.specs.Parts.{is_string, is_char_array, members_given}

-- A part of an object takes values: the way to it, and whether a value of its own type may stand for all of it.
abbrev pub Filler : Type 0
Filler = List InitStep → (whole : Bool) → Filling → Check Filling

-- the items and one more, none where one has a fault
abbrev pub with_item : Option (List InitStep) → Option TExpr → Option (List TInitItem) → Option (List TInitItem)
with_item way None items = None
with_item way (Some e) None = None
with_item way (Some e) (Some items) = Some (items ++ record { value = e; way = way } ∷ [])

abbrev pub is_full : Option ℕ → ℕ → Bool
is_full None k = false
is_full (Some n) k = not (nat_lt k n)

abbrev pub first_of : {A : Type 0} → List A → Option A
first_of [] = None
first_of (e ∷ es) = Some e

abbrev pub is_whole : Bool → CType → Option TExpr → Bool
is_whole whole t None = false
is_whole whole t (Some e) = whole && same (type_of e) t

abbrev pub begins_with_string : Option TExpr → Bool
begins_with_string None = false
begins_with_string (Some e) = is_string e

abbrev pub behind : List TExpr → List TExpr
behind [] = []
behind (e ∷ es) = es

-- a string for an array of characters is not taken
abbrev pub refused : Pos → Filling → Check Filling
refused at f = do
  x ← unsupported {A = TExpr} u.Init at
  done (record { items = with_item None x f.items; left = behind f.left })

-- a value beyond the last part is evaluated and sets nothing
abbrev pub put_beyond : TExpr → Option (List TInitItem) → Check (Option (List TInitItem))
put_beyond e items = do
  v ← value e
  done (with_item None v items)

abbrev pub beyond : List TExpr → Option (List TInitItem) → Check (Option (List TInitItem))
beyond [] items = done items
beyond (e ∷ es) items = do
  more ← put_beyond e items
  beyond es more

module _ (ws : Widths) (at : Pos) where
  abbrev pub converted_if : CType → Option TExpr → Check (Option TExpr)
  converted_if t v = given v (converted ws i.Operand at t)

  abbrev pub put_value : CType → List InitStep → (left : List TExpr) → Option (List TInitItem) → TExpr → Check Filling
  put_value t way left items e = do
    v ← value e
    c ← converted_if t v
    done (record { items = with_item (Some way) c items; left = left })

  abbrev pub put_first : CType → List TExpr → List InitStep → Filling → Check Filling
  put_first t [] way f = done f
  put_first t (e ∷ es) way f = put_value t way es f.items e

  -- a scalar takes one value
  abbrev pub put : CType → List InitStep → Filling → Check Filling
  put t way f = put_first t f.left way f

  -- the elements from k on, as long as values are left; `fuel` is the number of values
  abbrev pub elements : Filler → Option ℕ → (fuel k : ℕ) → List InitStep → Filling → Check Filling
  elements fill n zero k way f = done f
  elements fill n (suc fuel) k way f =
      if is_full n k
      then done f
      else (fill (way ++ step.Elem k ∷ []) true f >>= λ g.
      if nat_eq (length g.left) (length f.left) then done g else elements fill n fuel (k + 1) way g)

  abbrev pub members : (CType → Filler) → List (ℕ × CType) → List InitStep → Filling → Check Filling
  members fill [] way f = done f
  members fill ((k, t) ∷ ms) way f = do
    g ← fill t (way ++ step.Field k ∷ []) true f
    members fill ms way g

  abbrev pub fill_array : Filler → CType → Option ℕ → List InitStep → Filling → Check Filling
  fill_array fill t n way f =
      if is_char_array t && begins_with_string (first_of f.left)
      then refused at f
      else elements fill n (length f.left) 0 way f

  abbrev pub fill_struct : (CType → Filler) → CType → Filler
  fill_struct fill t way whole f =
      if is_whole whole t (first_of f.left)
      then put t way f
      else (λ w. members fill (members_given (body_of w.structs t)) way f w)

  abbrev pub fill_layer : (CType → Filler) → CType → CType-F CType Signature → Filler
  fill_layer fill t (CType-F.Array u n) way whole f = fill_array (fill u) t n way f
  fill_layer fill t (CType-F.Struct n) way whole f = fill_struct fill t way whole f
  fill_layer fill t (CType-F.Union n) way whole f = fill_struct fill t way whole f
  fill_layer fill t _ way whole f = put t way f

  abbrev pub fill_if_left : List TExpr → Filler → Filler
  fill_if_left [] fill way whole f = done f
  fill_if_left (e ∷ es) fill way whole f = fill way whole f

  -- Values go to the parts in order; braces that are left out are as if they stood there. No value goes deeper
  -- than 256 structs and arrays in one another.
  unfoldable pub fill : (deep : ℕ) → CType → Filler
  fill zero t way whole f = done f
  fill (suc deep) t way whole f = fill_if_left f.left (fill_layer (fill deep) t (out-CType t)) way whole f

  -- the items that values in braces become for an object of that type
  abbrev pub spread : CType → List TExpr → Check (Option (List TInitItem))
  spread t es = do
    f ← fill 256 t [] false (record { items = Some []; left = es })
    beyond f.left f.items
