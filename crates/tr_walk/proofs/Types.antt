-- What operators ask of the types of their operands, and of which kind the gates of values are.
use Rattle.std.proofs.Common.{◌≡◌, Bool, true, false, ◌&&◌, ◌||◌, if◌then◌else◌, Some, refl, sym, ◌∙◌, ap, subst}
use Rattle.std.proofs.lemmas.Bool.{true≢false}
use Rattle.gl_store.specs.declared.values.Val.{Val}
use Rattle.gl_store.specs.Meets.{val_kind}
use Rattle.run_store.specs.Concrete.{Pointers}
use Rattle.sc_tree.specs.declared.op.AssignOp.{AssignOp}
use Rattle.sc_tree.specs.declared.op.AssignOp.TheVariants as assign
use Rattle.sc_tree.specs.declared.op.BinaryOp.{BinaryOp}
use Rattle.sc_tree.specs.declared.op.BinaryOp.TheVariants as op
use Rattle.sc_world.specs.Tree.{Ty, Void, Bool', Int, Ptr, is_integer, is_pointer, is_void, is_bool, int_bits}
use Rattle.sc_world.specs.Source.{Source}
use Rattle.sc_world.specs.View.{operator}
use Rattle.sc_world.specs.World.{kind_of_type}
use Rattle.sc_world.specs.Eval.{Want, Value, Place', is_logical}
use Rattle.run_laws.specs.Fits.{is_scalar, IsRead, operands_fit, compares_pointers, in_one_type, gives_truth, TypesMeet}
use Rattle.gate_values.specs.Operators.{is_shift, is_test}
use Rattle.gate_changes.specs.Changes.{CombineFits}
use Rattle.tr_expr.specs.Plain.{AreAlike, Integers, PointersBoth, BinaryFits, ConvertFits, SignFits}
use Rattle.expr_fits.specs.Temps.{HasKindFor}
use Rattle.tr_walk.specs.Walks.{gives_pointer}

module _ (s : Source) where
  same_bits : (t u : Ty) → t ≡ u → int_bits s.widths t ≡ int_bits s.widths u
  same_bits t u e = ap (λ x. int_bits s.widths x) e

  pointer_bits : (t : Ty) → is_pointer t ≡ true → int_bits s.widths t ≡ 0
  pointer_bits (Ptr t) e = refl
  pointer_bits Bool' e = absurd (true≢false (sym e))
  pointer_bits (Int k) e = absurd (true≢false (sym e))
  pointer_bits _ e = refl

  tests_truth : (o : BinaryOp) → is_test o ≡ false → gives_truth o ≡ false
  tests_truth op.Less e = e
  tests_truth op.Greater e = e
  tests_truth op.LessEqual e = e
  tests_truth op.GreaterEqual e = e
  tests_truth op.Equal e = e
  tests_truth op.NotEqual e = e
  tests_truth op.And e = e
  tests_truth op.Or e = e
  tests_truth _ e = refl

  common : (o : BinaryOp) → is_logical o ≡ false → is_shift o ≡ false → in_one_type o ≡ true
  common op.And e f = absurd (true≢false e)
  common op.Or e f = absurd (true≢false e)
  common op.ShiftLeft e f = absurd (true≢false f)
  common op.ShiftRight e f = absurd (true≢false f)
  common _ e f = refl

  -- i and j: integers on the left and on the right; p and q: pointers; c: whether pointers are compared
  alike_by : (t u : Ty) (i j p q c : Bool) → is_integer t ≡ i → is_integer u ≡ j → is_pointer t ≡ p → is_pointer u ≡ q
      → (i && j) || (c && (p && q)) ≡ true → AreAlike t u
  alike_by t u true true p q c i j k l e = Integers i j
  alike_by t u true false true true true i j k l e = PointersBoth k l
  alike_by t u false j true true true i is k l e = PointersBoth k l
  alike_by t u true false p q false i j k l e = absurd (true≢false (sym e))
  alike_by t u true false false q true i j k l e = absurd (true≢false (sym e))
  alike_by t u true false true false true i j k l e = absurd (true≢false (sym e))
  alike_by t u false j p q false i is k l e = absurd (true≢false (sym e))
  alike_by t u false j false q true i is k l e = absurd (true≢false (sym e))
  alike_by t u false j true false true i is k l e = absurd (true≢false (sym e))

  pub are_alike : (o : BinaryOp) (t u : Ty) → is_logical o ≡ false → operands_fit o t u ≡ true → AreAlike t u
  are_alike o t u plain e =
      alike_by t u (is_integer t) (is_integer u) (is_pointer t) (is_pointer u) (compares_pointers o) refl refl refl refl
      (subst (λ b. (if b then is_scalar t && is_scalar u
      else ((is_integer t && is_integer u) || (compares_pointers o && (is_pointer t && is_pointer u)))) ≡ true) plain e)

  alike_bits : (o : BinaryOp) (t u : Ty) → in_one_type o ≡ true → AreAlike t u → (is_integer t ≡ true → t ≡ u)
      → int_bits s.widths t ≡ int_bits s.widths u
  alike_bits o t u one (Integers i j) same = same_bits t u (same i)
  alike_bits o t u one (PointersBoth p q) same = pointer_bits t p ∙ sym (pointer_bits u q)

  pub binary_types : (o : BinaryOp) (u w t : Ty) → is_logical o ≡ false → is_integer t ≡ true → operands_fit o u w ≡ true → TypesMeet o u w t
      → BinaryFits s o u w t
  binary_types o u w t plain integer fit meet =
      let alike : AreAlike u w = are_alike o u w plain fit in
      record {
        plain = plain;
        gives = integer;
        alike = alike;
        same = λ e. let one = common o plain e in alike_bits o u w one alike (meet.same one);
        keeps = λ e. same_bits t u (meet.keeps (tests_truth o e));
      }

  integer_converts : (t u : Ty) → is_integer t ≡ true → is_integer u ≡ true → ConvertFits t u
  integer_converts t u i j = record { holds = both (is_integer t) (is_integer u) (is_pointer u) (is_pointer t && (is_pointer u || is_bool u)) i j }
    where
      both : (p q r s : Bool) → p ≡ true → q ≡ true → (p && (q || r)) || s ≡ true
      both true true r s e f = refl
      both false q r s e f = absurd (true≢false (sym e))
      both true false r s e f = absurd (true≢false (sym f))

  pub combined_types : (o : BinaryOp) (works w t : Ty) → is_logical o ≡ false → is_integer t ≡ true → is_integer works ≡ true → is_integer w ≡ true
      → TypesMeet o works w works → CombineFits s o works t w
  combined_types o works w t plain i j k meet =
      record {
        into = integer_converts t works i j;
        operator =
            record {
              plain = plain;
              gives = j;
              alike = Integers j k;
              same = λ e. same_bits works w (meet.same (common o plain e) j);
              keeps = λ e. refl;
            };
        back = integer_converts works t j i;
      }

  same : {x y : BinaryOp} → Some x ≡ Some y → x ≡ y
  same e = cc

  -- no operator of an assignment is logical
  pub assigning : (x : AssignOp) (o : BinaryOp) → Some o ≡ operator x → is_logical o ≡ false
  assigning assign.Set o e = absurd (cc)
  assigning assign.Mul o e = ap is_logical (same e)
  assigning assign.Div o e = ap is_logical (same e)
  assigning assign.Rem o e = ap is_logical (same e)
  assigning assign.Add o e = ap is_logical (same e)
  assigning assign.Sub o e = ap is_logical (same e)
  assigning assign.ShiftLeft o e = ap is_logical (same e)
  assigning assign.ShiftRight o e = ap is_logical (same e)
  assigning assign.BitAnd o e = ap is_logical (same e)
  assigning assign.BitXor o e = ap is_logical (same e)
  assigning assign.BitOr o e = ap is_logical (same e)

  pub sign_fits : (t u : Ty) → t ≡ u → is_integer u ≡ true → SignFits s t u
  sign_fits t u e i = record { takes = ap is_integer e ∙ i; gives = i; same = same_bits t u e }

-- Kinds of what is wanted.

pub integer_cell : (t : Ty) → is_integer t ≡ true → is_scalar t ≡ true
integer_cell t e = ap (λ b. b || is_pointer t) e

pub pointer_cell : (t : Ty) → is_pointer t ≡ true → is_scalar t ≡ true
pointer_cell t e = ap (λ b. is_integer t || b) e ∙ or_true (is_integer t)
  where
    or_true : (b : Bool) → b || true ≡ true
    or_true true = refl
    or_true false = refl

scalar_no_void : (t : Ty) → is_scalar t ≡ true → is_void t ≡ false
scalar_no_void Void e = sym e
scalar_no_void _ e = refl

pub cell_kind : (s : Source) (t : Ty) (x : Val) → is_scalar t ≡ true → HasKindFor s Value t x → val_kind x ≡ kind_of_type s (Some t)
cell_kind s t x e h =
    subst (λ b. val_kind x ≡ (if b then kind_of_type s (Some t) else Pointers)) e (h (scalar_no_void t e))

pub read_kind : (s : Source) (want : Want) (t : Ty) (x : Val) → IsRead want → is_scalar t ≡ true → val_kind x ≡ kind_of_type s (Some t)
    → HasKindFor s want t x
read_kind s Value t x read e h = λ some. subst (λ b. val_kind x ≡ (if b then kind_of_type s (Some t) else Pointers)) (sym e) h
read_kind s Place' t x read e h = absurd read

pub set_kind : (s : Source) (want : Want) (t : Ty) (x : Val) → gives_pointer want t ≡ true → HasKindFor s want t x → val_kind x ≡ Pointers
set_kind s Place' t x e h = h refl
set_kind s Value (Ptr t) x e h = h refl
set_kind s Value _ x e h = absurd (true≢false (sym e))
