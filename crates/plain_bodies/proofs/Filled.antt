-- The values of initialisers change the fault of the walk alone.
use Rattle.std.proofs.Common.{ℕ, zero, suc, Bool, true, false, ◌&&◌, Option, Some, None, List, [], ◌∷◌, ◌++◌, length, refl}
use Rattle.std.specs.Prelude.{◌+◌, nat_eq}
use Rattle.sc_base.specs.declared.pos.Pos.{Pos}
use Rattle.sc_base.specs.declared.skip.IllTyped.TheVariants as i
use Rattle.sc_tree.specs.declared.ctype.CType.{CType, CType-F, out-CType}
use Rattle.sc_tree.specs.declared.ctype.Signature.{Signature}
use Rattle.sc_tree.specs.declared.ctype.Widths.{Widths}
use Rattle.sc_typed.specs.declared.expr.TExpr.{TExpr}
use Rattle.sc_typed.specs.declared.stmt.InitStep.{InitStep}
use Rattle.sc_typed.specs.declared.stmt.InitStep.TheVariants as step
use Rattle.sc_typed.specs.declared.stmt.TInitItem.{TInitItem}
use Rattle.sc_rules.specs.Walks.{done}
use Rattle.sc_unary.specs.Members.{body_of}
use Rattle.sc_fill.specs.declared.filling.Filling.{Filling}
use Rattle.sc_fill.specs.Parts.{is_string, is_char_array, members_given}
use Rattle.sc_fill.specs.Filling.{Filler, with_item, is_full, first_of, is_whole, begins_with_string, refused, put_beyond, beyond, converted_if, put_value, put_first, put, elements, members, fill_array, fill_struct, fill_layer, fill_if_left, fill, spread}
use Rattle.sc_fill.specs.Initialisers.{all_of, braces, value_if, each_value, is_array_if, spread_whole, spread_all, spread_if, converted_to, value_as, one_value}
use Rattle.plain_bodies.specs.Leaves.{FaultAlone}
use Rattle.plain_bodies.proofs.Steps.{keeps, keeps_where, by_then, by_done, by_if, by_given}
use Rattle.plain_bodies.proofs.Rules.{value_kept, converted_kept}
use Rattle.scopes.specs.Frames.{Frames}
use Rattle.sc_rules.specs.declared.walk.Tag.{Tag}

abbrev OfFiller : Frames Tag → Filler → Type 0
OfFiller T inner = (way : List InitStep) (whole : Bool) (f : Filling) → FaultAlone T (inner way whole f)

abbrev filled : List InitStep → List TExpr → Option (List TInitItem) → Option TExpr → Filling
filled way left items c = record { items = with_item (Some way) c items; left = left }

module _ {T : Frames Tag} where
  -- One value.

  converted_if_kept : (ws : Widths) (at : Pos) (t : CType) (v : Option TExpr) → FaultAlone T (converted_if ws at t v)
  converted_if_kept ws at t v = by_given v _ (converted_kept ws i.Operand at t)

  put_value_kept : (ws : Widths) (at : Pos) (t : CType) (way : List InitStep) (left : List TExpr) (items : Option (List TInitItem)) (e : TExpr) → FaultAlone T (put_value ws at t way left items e)
  put_value_kept ws at t way left items e = by_then _ _ (value_kept e) (λ v. by_done _ (filled way left items) (converted_if_kept ws at t v))

  put_first_kept : (ws : Widths) (at : Pos) (t : CType) (es : List TExpr) (way : List InitStep) (f : Filling) → FaultAlone T (put_first ws at t es way f)
  put_first_kept ws at t [] way f = keeps (λ w. refl)
  put_first_kept ws at t (e ∷ es) way f = put_value_kept ws at t way es f.items e

  put_kept : (ws : Widths) (at : Pos) (t : CType) (way : List InitStep) (f : Filling) → FaultAlone T (put ws at t way f)
  put_kept ws at t way f = put_first_kept ws at t f.left way f

  refused_kept : (at : Pos) (f : Filling) → FaultAlone T (refused at f)
  refused_kept at f = keeps (λ w. refl)

  put_beyond_kept : (e : TExpr) (items : Option (List TInitItem)) → FaultAlone T (put_beyond e items)
  put_beyond_kept e items = by_done _ (λ v. with_item None v items) (value_kept e)

  beyond_kept : (es : List TExpr) (items : Option (List TInitItem)) → FaultAlone T (beyond es items)
  beyond_kept [] items = keeps (λ w. refl)
  beyond_kept (e ∷ es) items = by_then _ _ (put_beyond_kept e items) (λ more. beyond_kept es more)

  -- Parts.

  elements_kept : (ws : Widths) (at : Pos) (inner : Filler) → OfFiller T inner → (n : Option ℕ) (fuel k : ℕ) (way : List InitStep) (f : Filling) → FaultAlone T (elements ws at inner n fuel k way f)
  elements_kept ws at inner ok n zero k way f = keeps (λ w. refl)
  elements_kept ws at inner ok n (suc fuel) k way f =
      by_if (is_full n k) (done f) _ (keeps (λ w. refl)) (by_then _ _ (ok (way ++ step.Elem k ∷ []) true f) (λ g. by_if (nat_eq (length g.left) (length f.left)) (done g) (elements ws at inner n fuel (k + 1) way g) (keeps (λ w. refl)) (elements_kept ws at inner ok n fuel (k + 1) way g)))

  members_kept : (ws : Widths) (at : Pos) (inner : CType → Filler) → ((t : CType) → OfFiller T (inner t)) → (ms : List (ℕ × CType)) (way : List InitStep) (f : Filling) → FaultAlone T (members ws at inner ms way f)
  members_kept ws at inner ok [] way f = keeps (λ w. refl)
  members_kept ws at inner ok ((k, t) ∷ ms) way f = by_then _ _ (ok t (way ++ step.Field k ∷ []) true f) (λ g. members_kept ws at inner ok ms way g)

  array_kept : (ws : Widths) (at : Pos) (inner : Filler) → OfFiller T inner → (t : CType) (n : Option ℕ) (way : List InitStep) (f : Filling) → FaultAlone T (fill_array ws at inner t n way f)
  array_kept ws at inner ok t n way f =
      by_if (is_char_array t && begins_with_string (first_of f.left)) (refused at f) (elements ws at inner n (length f.left) 0 way f) (refused_kept at f) (elements_kept ws at inner ok n (length f.left) 0 way f)

  struct_kept : (ws : Widths) (at : Pos) (inner : CType → Filler) → ((t : CType) → OfFiller T (inner t)) → (t : CType) → OfFiller T (fill_struct ws at inner t)
  struct_kept ws at inner ok t way whole f =
      by_if (is_whole whole t (first_of f.left)) (put ws at t way f) (λ w. members ws at inner (members_given (body_of w.structs t)) way f w) (put_kept ws at t way f) (keeps_where (λ w has. (members_kept ws at inner ok (members_given (body_of w.structs t)) way f).kept w has))

  layer_kept : (ws : Widths) (at : Pos) (inner : CType → Filler) → ((t : CType) → OfFiller T (inner t)) → (t : CType) (x : CType-F CType Signature) → OfFiller T (fill_layer ws at inner t x)
  layer_kept ws at inner ok t (CType-F.Array v n) way whole f = array_kept ws at (inner v) (ok v) t n way f
  layer_kept ws at inner ok t (CType-F.Struct n) way whole f = struct_kept ws at inner ok t way whole f
  layer_kept ws at inner ok t (CType-F.Union n) way whole f = struct_kept ws at inner ok t way whole f
  layer_kept ws at inner ok t CType-F.Void way whole f = put_kept ws at t way f
  layer_kept ws at inner ok t CType-F.Bool way whole f = put_kept ws at t way f
  layer_kept ws at inner ok t (CType-F.Int k) way whole f = put_kept ws at t way f
  layer_kept ws at inner ok t (CType-F.Ptr v) way whole f = put_kept ws at t way f
  layer_kept ws at inner ok t (CType-F.Func s) way whole f = put_kept ws at t way f
  layer_kept ws at inner ok t (CType-F.Opaque k) way whole f = put_kept ws at t way f

  if_left_kept : (ws : Widths) (at : Pos) (es : List TExpr) (inner : Filler) → OfFiller T inner → OfFiller T (fill_if_left ws at es inner)
  if_left_kept ws at [] inner ok way whole f = keeps (λ w. refl)
  if_left_kept ws at (e ∷ es) inner ok way whole f = ok way whole f

  fill_kept : (ws : Widths) (at : Pos) (deep : ℕ) (t : CType) → OfFiller T (fill ws at deep t)
  unfolding fill
  fill_kept ws at zero t way whole f = keeps (λ w. refl)
  fill_kept ws at (suc deep) t way whole f =
      if_left_kept ws at f.left (fill_layer ws at (fill ws at deep) t (out-CType t)) (layer_kept ws at (fill ws at deep) (fill_kept ws at deep) t (out-CType t)) way whole f

  spread_kept : (ws : Widths) (at : Pos) (t : CType) (es : List TExpr) → FaultAlone T (spread ws at t es)
  spread_kept ws at t es =
      by_then _ _ (fill_kept ws at 256 t [] false (record { items = Some []; left = es })) (λ f. beyond_kept f.left f.items)

  -- Initialisers.

  value_if_kept : (x : Option TExpr) → FaultAlone T (value_if x)
  value_if_kept x = by_given x _ value_kept

  each_kept : (xs : List (Option TExpr)) → FaultAlone T (each_value xs)
  each_kept [] = keeps (λ w. refl)
  each_kept (x ∷ xs) = by_then _ _ (value_if_kept x) (λ v. each_kept xs)

  whole_kept : (ws : Widths) (at : Pos) (t : CType) (es : List TExpr) → FaultAlone T (spread_whole ws at t es)
  whole_kept ws at t es = by_done _ (λ r. braces r) (spread_kept ws at t es)

  all_kept : (ws : Widths) (at : Pos) (t : CType) (es : Option (List TExpr)) (xs : List (Option TExpr)) → FaultAlone T (spread_all ws at t es xs)
  all_kept ws at t None xs = each_kept xs
  all_kept ws at t (Some es) xs = whole_kept ws at t es

  pub spread_if_kept : (ws : Widths) (at : Pos) (t : Option CType) (xs : List (Option TExpr)) → FaultAlone T (spread_if ws at t xs)
  spread_if_kept ws at None xs = each_kept xs
  spread_if_kept ws at (Some t) xs = all_kept ws at t (all_of xs) xs

  to_kept : (ws : Widths) (at : Pos) (t : Option CType) (e : TExpr) → FaultAlone T (converted_to ws at t e)
  to_kept ws at None e = keeps (λ w. refl)
  to_kept ws at (Some t) e = converted_kept ws i.Operand at t e

  as_kept : (ws : Widths) (at : Pos) (t : Option CType) (v : Option TExpr) → FaultAlone T (value_as ws at t v)
  as_kept ws at t v = by_given v _ (to_kept ws at t)

  pub one_kept : (ws : Widths) (at : Pos) (t : Option CType) (e : TExpr) → FaultAlone T (one_value ws at t e)
  one_kept ws at t e = by_if (is_string e && is_array_if t) _ _ (keeps (λ w. refl)) (by_then _ _ (value_kept e) (λ v. as_kept ws at t v))
