-- What is asked of the two values that are combined, from what holds of temps.
use Rattle.std.proofs.Common.{◌≡◌, ℕ, ◌<◌, Bool, true, false, ◌&&◌, ◌||◌, if◌then◌else◌, Some, List, [], ◌∷◌, map, length, refl, sym, ◌∙◌, ap, subst, arith}
use Rattle.std.proofs.lemmas.Bool.{eq-eqb}
use Rattle.gl_store.specs.declared.values.Val.{Val}
use Rattle.gl_store.specs.Meets.{val_kind}
use Rattle.gate_changes.specs.Changes.{CombineFits}
use Rattle.gate_values.specs.Operators.{is_shift}
use Rattle.run_store.specs.Concrete.{Numbers, Pointers}
use Rattle.run_laws.specs.Fits.{TypesMeet, in_one_type, is_scalar}
use Rattle.sc_tree.specs.declared.ctype.Widths.{Widths}
use Rattle.sc_tree.specs.declared.op.BinaryOp.{BinaryOp}
use Rattle.sc_tree.specs.declared.op.BinaryOp.TheVariants as op
use Rattle.sc_world.specs.Tree.{Ty, Void, Bool', Int, int_bits, is_integer, is_void, is_pointer, is_bool}
use Rattle.sc_world.specs.Source.{Source}
use Rattle.sc_world.specs.Layout.{Layout}
use Rattle.sc_world.specs.World.{kind_of_type}
use Rattle.sc_world.specs.Eval.{Want, is_logical}
use Rattle.tr_expr.specs.Plain.{ConvertFits, AreAlike, Integers}
use Rattle.flow_graph.specs.Nodes.{Updating}
use Rattle.flow_graph.specs.Conditions.{InTemp, among}
use Rattle.flow_types.specs.Kinds as flow
use Rattle.flow_turns.specs.declared.temps.Temps.{Temps}
use Rattle.flow_turns.specs.Kept.{HasKind, val_at}
use Rattle.flow_updates.specs.Can.{CanUpdate}
use Rattle.flow_updates.specs.Combined.{CanCombine}
use Rattle.flow_updates.proofs.Numbered.{numbers_same, got_low}

number_is : (s : Source) (t : Ty) → is_integer t ≡ true → kind_of_type s (Some t) ≡ Numbers (int_bits s.widths t)
number_is s Bool' e = refl
number_is s (Int k) e = refl
number_is s _ e = absurd (cc)

no_void : (t : Ty) → is_integer t ≡ true → is_void t ≡ false
no_void Void e = absurd (cc)
no_void _ e = refl

number_kind : (s : Source) (t : Ty) (x : Val) → is_integer t ≡ true → HasKind s (flow.ValueOf t) x → val_kind x ≡ kind_of_type s (Some t)
number_kind s t x e h =
    h (no_void t e) ∙ ap (λ (b : Bool). if b then kind_of_type s (Some t) else Pointers) (ap (λ (b : Bool). b || is_pointer t) e)

converts : (t u : Ty) → is_integer t ≡ true → is_integer u ≡ true → ConvertFits t u
converts t u i j = record { holds = both (is_integer t) (is_integer u) (is_pointer u) _ i j }
  where
    both : (p q r s : Bool) → p ≡ true → q ≡ true → ((p && (q || r)) || s) ≡ true
    both true true r s e f = refl
    both false q r s e f = absurd (cc)
    both true false r s e f = absurd (cc)

-- what is no shift and no `&&` or `||` works in one type
one_type : (o : BinaryOp) → is_logical o ≡ false → is_shift o ≡ false → in_one_type o ≡ true
one_type op.ShiftLeft e f = absurd (cc)
one_type op.ShiftRight e f = absurd (cc)
one_type op.And e f = absurd (cc)
one_type op.Or e f = absurd (cc)
one_type _ e f = refl

module _ (s : Source) (u : Updating) (x y : Val) (right : Ty) (can : CanCombine s u x y)
    (is : (w : Widths) (t : Ty) → is_integer t ≡ true → val_kind y ≡ Numbers (int_bits w t) → (is_integer right ≡ true) × (val_kind y ≡ Numbers (int_bits w right))) where
  kind_there : val_kind y ≡ Numbers (int_bits s.widths can.right)
  kind_there = can.kind ∙ number_is s can.right can.integer

  pub right_kind : val_kind y ≡ kind_of_type s (Some right)
  right_kind = (let r = is s.widths can.right can.integer kind_there in r.1 ∙ sym (number_is s right r.0))

  pub combine_fits : CombineFits s u.op u.works u.ctype right
  combine_fits =
      let r = is s.widths can.right can.integer kind_there in
      let wide : int_bits s.widths can.right ≡ int_bits s.widths right = numbers_same (sym kind_there ∙ r.1) in
      record {
        into = converts u.ctype u.works can.object can.works;
        operator = record {
          plain = can.plain;
          gives = can.works;
          alike = Integers can.works r.0;
          same = λ e. ap (int_bits s.widths) (can.meet.same (one_type u.op can.plain e) can.works) ∙ wide;
          keeps = λ e. refl;
        };
        back = converts u.works u.ctype can.works can.object;
      }

-- The operands of the node.
module _ (s : Source) (p : Layout) (t : Temps) (u : Updating) (want : Want) (place former right : ℕ) (can : CanUpdate s p t u want place former right) where
  first : among (InTemp place) (map InTemp (place ∷ former ∷ right ∷ [])) ≡ true
  first = ap (λ (b : Bool). b || among (InTemp place) (map InTemp (former ∷ right ∷ []))) (eq-eqb place place refl)

  or_there : (a b : Bool) → b ≡ true → (a || b) ≡ true
  or_there true b e = refl
  or_there false b e = e

  second : among (InTemp former) (map InTemp (place ∷ former ∷ right ∷ [])) ≡ true
  second = or_there _ _ (ap (λ (b : Bool). b || among (InTemp former) (map InTemp (right ∷ []))) (eq-eqb former former refl))

  third : among (InTemp right) (map InTemp (place ∷ former ∷ right ∷ [])) ≡ true
  third = or_there _ _ (or_there _ _ (ap (λ (b : Bool). b || false) (eq-eqb right right refl)))

  pub place_low : place < length t.vals.items
  place_low = (let low = got_low can.kinds.temps place _ can.fits.0 in let same = can.count in omega arith)

  pub former_low : former < length t.vals.items
  former_low = (let low = got_low can.kinds.temps former _ can.fits.1 in let same = can.count in omega arith)

  pub right_low : right < length t.vals.items
  right_low = (let low = got_low can.kinds.temps right _ can.fits.2.1 in let same = can.count in omega arith)

  pub place_kind : val_kind (val_at t place) ≡ Pointers
  place_kind = can.have place first (flow.PlaceOf u.ctype) can.fits.0 refl

  pub can_combine : (x y : Val) → x ≡ val_at t former → y ≡ val_at t right → CanCombine s u x y
  can_combine x y is_x is_y = record {
    plain = can.plain;
    object = can.fits.3;
    works = can.fits.4;
    left = ap val_kind is_x ∙ number_kind s u.ctype (val_at t former) can.fits.3 (can.have former second (flow.ValueOf u.ctype) can.fits.1);
    right = can.fits.2.0;
    integer = can.fits.2.2;
    meet = can.fits.2.3;
    kind = ap val_kind is_y ∙ number_kind s can.fits.2.0 (val_at t right) can.fits.2.2 (can.have right third (flow.ValueOf can.fits.2.0) can.fits.2.1);
  }
