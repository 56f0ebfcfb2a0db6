-- Casts of kept values of type `void`.
use Rattle.std.proofs.Common.{◌≡◌, ℕ, Bool, true, false, ◌&&◌, if◌then◌else◌, List, refl, sym, ap, ◌∙◌}
use Rattle.sc_tree.specs.declared.expr.Place.{Place}
use Rattle.sc_typed.specs.declared.expr.TExpr.{TExpr, out-TExpr}
use Rattle.sc_typed.specs.declared.expr.What.{What, What-F, roll-What}
use Rattle.sc_typed.specs.declared.expr.What.TheVariants as what
use Rattle.sc_typed.specs.declared.expr.What.TheFolds as folds
use Rattle.sc_world.specs.Tree.{Ty, Void, Bool', Int, Ptr, Array, Struct, Union, Func, Opaque, Exp, Cast, Convert, Temp, TempPlace, is_array, is_void, type_of}
use Rattle.sc_world.specs.Source.{Struct as Members}
use Rattle.sc_world.specs.View.{type, exp, exp_step, placed}
use Rattle.sc_flow.specs.Over.{over}
use Rattle.flow_turns.specs.Before.{drops_value}

cast_of : (u t : Ty) (x : ℕ) → drops_value (Cast (if is_array u then TempPlace x u else Temp x u) t) ≡ (is_void u && is_void t)
cast_of Void t x = refl
cast_of Bool' t x = refl
cast_of (Int k) t x = refl
cast_of (Ptr u) t x = refl
cast_of (Array u n) t x = refl
cast_of (Struct n) t x = refl
cast_of (Union n) t x = refl
cast_of (Func r known ts more) t x = refl
cast_of (Opaque n) t x = refl

convert_of : (u t : Ty) (x : ℕ) → drops_value (Convert (if is_array u then TempPlace x u else Temp x u) t) ≡ (is_void u && is_void t)
convert_of Void t x = refl
convert_of Bool' t x = refl
convert_of (Int k) t x = refl
convert_of (Ptr u) t x = refl
convert_of (Array u n) t x = refl
convert_of (Struct n) t x = refl
convert_of (Union n) t x = refl
convert_of (Func r known ts more) t x = refl
convert_of (Opaque n) t x = refl

over_cast : (a : Exp) (t : Ty) (x y : ℕ) → drops_value (over (Cast a t) x y) ≡ (is_void (type_of a) && is_void t)
over_cast a t x y = cast_of (type_of a) t x

over_convert : (a : Exp) (t : Ty) (x y : ℕ) → drops_value (over (Convert a t) x y) ≡ (is_void (type_of a) && is_void t)
over_convert a t x y = convert_of (type_of a) t x

-- Which tree of runs a cast is; x' is its operand once more, out of its box.
module _ (structs : List Members) (e : TExpr) where
  abbrev form : What → Ty → Place → Exp
  form = folds.fold-What (Ty → Place → Exp) Exp (exp_step structs) placed

  abbrev t : Ty
  t = type (out-TExpr e).ctype

  by_form : (w : What) (y : What-F What TExpr) → (out-TExpr e).what ≡ w → roll-What y ≡ w
      → exp structs e ≡ exp_step structs (folds.map-What What TExpr (Ty → Place → Exp) Exp form (exp structs) y) t (out-TExpr e).place
  by_form w y is rolls =
      folds.fold_out-TExpr (Ty → Place → Exp) Exp (exp_step structs) placed e
      ∙ ap (λ v. form v t (out-TExpr e).place) (is ∙ sym rolls)
      ∙ ap (λ f. f t (out-TExpr e).place) (folds.fold-roll-What (Ty → Place → Exp) Exp (exp_step structs) placed y)

  cast : (x x' : TExpr) → (out-TExpr e).what ≡ what.Cast x → x' ≡ x → exp structs e ≡ Cast (exp structs x') t
  cast x x' is same = by_form (what.Cast x) (What-F.Cast x) is (what.rolls-Cast x) ∙ ap (λ z. Cast (exp structs z) t) (sym same)

  convert : (x x' : TExpr) → (out-TExpr e).what ≡ what.Convert x → x' ≡ x → exp structs e ≡ Convert (exp structs x') t
  convert x x' is same = by_form (what.Convert x) (What-F.Convert x) is (what.rolls-Convert x) ∙ ap (λ z. Convert (exp structs z) t) (sym same)

  -- the test of a cast over a kept operand
  pub dropped_cast : (x x' : TExpr) (r : Bool) (m n : ℕ) → (out-TExpr e).what ≡ what.Cast x → x' ≡ x → r ≡ (is_void (type_of (exp structs x')) && is_void t)
      → r ≡ drops_value (over (exp structs e) m n)
  dropped_cast x x' r m n is same h = h ∙ sym (ap (λ (w : Exp). drops_value (over w m n)) (cast x x' is same) ∙ over_cast (exp structs x') t m n)

  pub dropped_convert : (x x' : TExpr) (r : Bool) (m n : ℕ) → (out-TExpr e).what ≡ what.Convert x → x' ≡ x → r ≡ (is_void (type_of (exp structs x')) && is_void t)
      → r ≡ drops_value (over (exp structs e) m n)
  dropped_convert x x' r m n is same h = h ∙ sym (ap (λ (w : Exp). drops_value (over w m n)) (convert x x' is same) ∙ over_convert (exp structs x') t m n)

-- both tests, one after the other
pub both_so : (b c r s : Bool) → r ≡ b → s ≡ c → r ≡ true → s ≡ (b && c)
both_so true c r s e f h = f
both_so false c r s e f h = absurd (let two : true ≡ false = sym h ∙ e in cc)

pub first_not : (b c r : Bool) → r ≡ b → r ≡ false → r ≡ (b && c)
first_not true c r e h = absurd (let two : true ≡ false = sym e ∙ h in cc)
first_not false c r e h = e
