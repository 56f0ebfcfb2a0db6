-- What operators make of two numbers.
use Rattle.std.proofs.Common.{◌≡◌, ℕ, ◌+◌, ◌-◌, ◌*◌, ◌/◌, ◌%◌, ◌^◌, Bool, true, false, not, ◌&&◌, ◌||◌, nat_eq, ℤ, pos, negsuc, int_lt, int_div, int_rem, bit_and, bit_or, bit_xor, List, length, refl, sym, ◌∙◌, ap, if◌then◌else◌}
use Rattle.bit_net.specs.declared.nodes.Gate.{Gate}
use Rattle.bit_net.specs.declared.nodes.Node.{Node}
use Rattle.bit_net.specs.Runs.{Grown, Gives}
use Rattle.bit_words.specs.Number.{bit, number, signed, wrapped, difference, quotient, remainder, signed_quotient, signed_remainder, moved_down}
use Rattle.bit_words.specs.Spells.{Spells}
use Rattle.sc_tree.specs.declared.op.BinaryOp.{BinaryOp}
use Rattle.sc_tree.specs.declared.op.BinaryOp.TheVariants as op
use Rattle.sc_typed.specs.Arith as typed
use Rattle.sc_typed.specs.Arith.{truth, computed, takes, divides, is_less}
use Rattle.gate_values.specs.Operators.{IsComputed, IsTested, holds, is_test}
use Rattle.gate_values.proofs.Truths.{bit_truth}
use Rattle.gate_values.proofs.Ones.{wrapped_is, signed_is}

-- from what the word spells
computed_as : (ns : List Node) (o : BinaryOp) (s : Bool) (bits : ℕ) (a b r : List Gate) (f : (ℕ → Bool) → ℕ) → length a ≡ bits → Spells ns r (length a) f
    → ((v : ℕ → Bool) → takes o (length a) s (number v a) (number v b) ≡ true → f v ≡ computed o (length a) s (number v a) (number v b))
    → IsComputed ns o s bits a b r
computed_as ns o s bits a b r f keeps is same =
    record {
      wide = is.wide ∙ keeps;
      below = is.below;
      value = λ choice v runs taken. is.value choice v runs ∙ same v taken;
    }

module _ (ns : List Node) (s : Bool) (a b r : List Gate) where
  pub mul_word : Spells ns r (length a) (λ v. (number v a * number v b) % 2 ^ length a) → IsComputed ns op.Mul s (length a) a b r
  mul_word is = computed_as ns op.Mul s (length a) a b r (λ v. (number v a * number v b) % 2 ^ length a) refl is (λ v taken. refl)

  pub add_word : Spells ns r (length a) (λ v. (number v a + number v b) % 2 ^ length a) → IsComputed ns op.Add s (length a) a b r
  add_word is = computed_as ns op.Add s (length a) a b r (λ v. (number v a + number v b) % 2 ^ length a) refl is (λ v taken. refl)

  pub sub_word : Spells ns r (length a) (λ v. difference (length a) (number v a) (number v b)) → IsComputed ns op.Sub s (length a) a b r
  sub_word is = computed_as ns op.Sub s (length a) a b r (λ v. difference (length a) (number v a) (number v b)) refl is (λ v taken. refl)

  pub shl_word : Spells ns r (length a) (λ v. (number v a * 2 ^ number v b) % 2 ^ length a) → IsComputed ns op.ShiftLeft s (length a) a b r
  shl_word is = computed_as ns op.ShiftLeft s (length a) a b r (λ v. (number v a * 2 ^ number v b) % 2 ^ length a) refl is (λ v taken. refl)

  pub and_word : Spells ns r (length a) (λ v. bit_and (number v a) (number v b)) → IsComputed ns op.BitAnd s (length a) a b r
  and_word is = computed_as ns op.BitAnd s (length a) a b r (λ v. bit_and (number v a) (number v b)) refl is (λ v taken. refl)

  pub xor_word : Spells ns r (length a) (λ v. bit_xor (number v a) (number v b)) → IsComputed ns op.BitXor s (length a) a b r
  xor_word is = computed_as ns op.BitXor s (length a) a b r (λ v. bit_xor (number v a) (number v b)) refl is (λ v taken. refl)

  pub or_word : Spells ns r (length a) (λ v. bit_or (number v a) (number v b)) → IsComputed ns op.BitOr s (length a) a b r
  or_word is = computed_as ns op.BitOr s (length a) a b r (λ v. bit_or (number v a) (number v b)) refl is (λ v taken. refl)

-- of that width
pub of_width : (ns : List Node) (o : BinaryOp) (s : Bool) (bits : ℕ) (a b r : List Gate) → bits ≡ length a → IsComputed ns o s (length a) a b r
    → IsComputed ns o s bits a b r
of_width ns o s bits a b r keeps is = record { wide = is.wide ∙ sym keeps; below = is.below; value = is.value }

-- Quotients and remainders of what may be divided.

divisor : (n : ℕ) (s : Bool) (x y : ℕ) → divides n s x y ≡ true → nat_eq y 0 ≡ false
divisor n true x y taken = by (nat_eq y 0) refl
  where
    by : (b : Bool) → nat_eq y 0 ≡ b → nat_eq y 0 ≡ false
    by true e = absurd (is_false (ap (λ b. not b && not (nat_eq x (2 ^ (n - 1)) && nat_eq y (2 ^ n - 1))) (sym e) ∙ taken))
      where
        is_false : false ≡ true → ⊥
        is_false e = absurd (cc)
    by false e = e
divisor n false x y taken = by (nat_eq y 0) refl
  where
    by : (b : Bool) → nat_eq y 0 ≡ b → nat_eq y 0 ≡ false
    by true e = absurd (is_false (ap not (sym e) ∙ taken))
      where
        is_false : false ≡ true → ⊥
        is_false e = absurd (cc)
    by false e = e

quotient_is : (n x y : ℕ) → nat_eq y 0 ≡ false → signed_quotient n x y ≡ typed.quotient n true x y
quotient_is n x y some =
    ap (λ b. if b then 0 else wrapped n (int_div (signed n x) (signed n y))) some ∙ wrapped_is n (int_div (signed n x) (signed n y))
    ∙ ap (λ z. typed.wrapped n (int_div z (signed n y))) (signed_is n x) ∙ ap (λ z. typed.wrapped n (int_div (typed.signed n x) z)) (signed_is n y)

remainder_is : (n x y : ℕ) → nat_eq y 0 ≡ false → signed_remainder n x y ≡ typed.remainder n true x y
remainder_is n x y some =
    ap (λ b. if b then x else wrapped n (int_rem (signed n x) (signed n y))) some ∙ wrapped_is n (int_rem (signed n x) (signed n y))
    ∙ ap (λ z. typed.wrapped n (int_rem z (signed n y))) (signed_is n x) ∙ ap (λ z. typed.wrapped n (int_rem (typed.signed n x) z)) (signed_is n y)

moved_is : (z : ℤ) (k : ℕ) → moved_down z k ≡ typed.moved_down z k
moved_is (pos n) k = refl
moved_is (negsuc n) k = refl

shifted_is : (n x y : ℕ) → wrapped n (moved_down (signed n x) y) ≡ typed.shifted_right n true x y
shifted_is n x y =
    wrapped_is n (moved_down (signed n x) y) ∙ ap (λ z. typed.wrapped n z) (moved_is (signed n x) y)
    ∙ ap (λ z. typed.wrapped n (typed.moved_down z y)) (signed_is n x)

module _ (ns : List Node) (a b r : List Gate) where
  pub div_s_word : Spells ns r (length a) (λ v. signed_quotient (length a) (number v a) (number v b)) → IsComputed ns op.Div true (length a) a b r
  div_s_word is =
      computed_as ns op.Div true (length a) a b r (λ v. signed_quotient (length a) (number v a) (number v b)) refl is
      (λ v taken. quotient_is (length a) (number v a) (number v b) (divisor (length a) true (number v a) (number v b) taken))

  pub div_u_word : Spells ns r (length a) (λ v. quotient (number v a) (number v b)) → IsComputed ns op.Div false (length a) a b r
  div_u_word is =
      computed_as ns op.Div false (length a) a b r (λ v. quotient (number v a) (number v b)) refl is
      (λ v taken. ap (λ c. if c then 0 else number v a / number v b) (divisor (length a) false (number v a) (number v b) taken))

  pub rem_s_word : Spells ns r (length a) (λ v. signed_remainder (length a) (number v a) (number v b)) → IsComputed ns op.Rem true (length a) a b r
  rem_s_word is =
      computed_as ns op.Rem true (length a) a b r (λ v. signed_remainder (length a) (number v a) (number v b)) refl is
      (λ v taken. remainder_is (length a) (number v a) (number v b) (divisor (length a) true (number v a) (number v b) taken))

  pub rem_u_word : Spells ns r (length a) (λ v. remainder (number v a) (number v b)) → IsComputed ns op.Rem false (length a) a b r
  rem_u_word is =
      computed_as ns op.Rem false (length a) a b r (λ v. remainder (number v a) (number v b)) refl is
      (λ v taken. ap (λ c. if c then number v a else number v a % number v b) (divisor (length a) false (number v a) (number v b) taken))

  pub shr_s_word : Spells ns r (length a) (λ v. wrapped (length a) (moved_down (signed (length a) (number v a)) (number v b))) → IsComputed ns op.ShiftRight true (length a) a b r
  shr_s_word is =
      computed_as ns op.ShiftRight true (length a) a b r (λ v. wrapped (length a) (moved_down (signed (length a) (number v a)) (number v b))) refl is
      (λ v taken. shifted_is (length a) (number v a) (number v b))

  pub shr_u_word : Spells ns r (length a) (λ v. number v a / 2 ^ number v b) → IsComputed ns op.ShiftRight false (length a) a b r
  shr_u_word is =
      computed_as ns op.ShiftRight false (length a) a b r (λ v. number v a / 2 ^ number v b) refl is (λ v taken. refl)

-- Tests.

less_is : (n x y : ℕ) → int_lt (signed n x) (signed n y) ≡ is_less n true x y
less_is n x y = ap (λ z. int_lt z (signed n y)) (signed_is n x) ∙ ap (λ z. int_lt (typed.signed n x) z) (signed_is n y)

pub less_s_gate : (ns : List Node) (a b : List Gate) (g : ℕ) → Gives ns g (λ choice v. int_lt (signed (length a) (number v a)) (signed (length a) (number v b)))
    → Gives ns g (λ choice v. is_less (length a) true (number v a) (number v b))
less_s_gate ns a b g is =
    record { below = is.below; value = λ choice v runs. is.value choice v runs ∙ less_is (length a) (number v a) (number v b) }

module _ (ns : List Node) (s : Bool) (a b : List Gate) (g : ℕ) (same : length a ≡ length b) where
  pub less_test : Gives ns g (λ choice v. is_less (length a) s (number v a) (number v b)) → IsTested ns op.Less s a b g
  less_test is = record { below = is.below; value = λ choice v runs. is.value choice v runs ∙ refl }

  pub greater_test : Gives ns g (λ choice v. is_less (length b) s (number v b) (number v a)) → IsTested ns op.Greater s a b g
  greater_test is = record { below = is.below; value = λ choice v runs. is.value choice v runs ∙ ap (λ k. is_less k s (number v b) (number v a)) (sym same) }

  pub less_equal_test : Gives ns g (λ choice v. not (is_less (length b) s (number v b) (number v a))) → IsTested ns op.LessEqual s a b g
  less_equal_test is = record { below = is.below; value = λ choice v runs. is.value choice v runs ∙ ap (λ k. not (is_less k s (number v b) (number v a))) (sym same) }

  pub greater_equal_test : Gives ns g (λ choice v. not (is_less (length a) s (number v a) (number v b))) → IsTested ns op.GreaterEqual s a b g
  greater_equal_test is = record { below = is.below; value = λ choice v runs. is.value choice v runs ∙ refl }

  pub equal_test : Gives ns g (λ choice v. nat_eq (number v a) (number v b)) → IsTested ns op.Equal s a b g
  equal_test is = record { below = is.below; value = λ choice v runs. is.value choice v runs ∙ refl }

  pub not_equal_test : Gives ns g (λ choice v. not (nat_eq (number v a) (number v b))) → IsTested ns op.NotEqual s a b g
  not_equal_test is = record { below = is.below; value = λ choice v runs. is.value choice v runs ∙ refl }

  pub and_test : (mid first : List Node) (left right : ℕ) → Grown mid ns → Grown first mid → Gives first left (λ choice v. not (nat_eq (number v a) 0))
      → Gives mid right (λ choice v. not (nat_eq (number v b) 0)) → Gives ns g (λ choice v. v left && v right) → IsTested ns op.And s a b g
  and_test mid first left right grown before is_left is_right is =
      record {
        below = is.below;
        value = λ choice v runs.
            let r1 = grown.runs choice v runs in
            is.value choice v runs ∙ ap (λ x. x && v right) (is_left.value choice v (before.runs choice v r1))
            ∙ ap (λ x. not (nat_eq (number v a) 0) && x) (is_right.value choice v r1);
      }

  pub or_test : (mid first : List Node) (left right : ℕ) → Grown mid ns → Grown first mid → Gives first left (λ choice v. not (nat_eq (number v a) 0))
      → Gives mid right (λ choice v. not (nat_eq (number v b) 0)) → Gives ns g (λ choice v. v left || v right) → IsTested ns op.Or s a b g
  or_test mid first left right grown before is_left is_right is =
      record {
        below = is.below;
        value = λ choice v runs.
            let r1 = grown.runs choice v runs in
            is.value choice v runs ∙ ap (λ x. x || v right) (is_left.value choice v (before.runs choice v r1))
            ∙ ap (λ x. not (nat_eq (number v a) 0) || x) (is_right.value choice v r1);
      }

-- what gives no truth tests nothing
no_test : (o : BinaryOp) (n : ℕ) (s : Bool) (x y : ℕ) → is_test o ≡ false → holds o n s x y ≡ false
no_test op.Mul n s x y e = refl
no_test op.Div n s x y e = refl
no_test op.Rem n s x y e = refl
no_test op.Add n s x y e = refl
no_test op.Sub n s x y e = refl
no_test op.ShiftLeft n s x y e = refl
no_test op.ShiftRight n s x y e = refl
no_test op.Less n s x y e = absurd (cc)
no_test op.Greater n s x y e = absurd (cc)
no_test op.LessEqual n s x y e = absurd (cc)
no_test op.GreaterEqual n s x y e = absurd (cc)
no_test op.Equal n s x y e = absurd (cc)
no_test op.NotEqual n s x y e = absurd (cc)
no_test op.BitAnd n s x y e = refl
no_test op.BitXor n s x y e = refl
no_test op.BitOr n s x y e = refl
no_test op.And n s x y e = absurd (cc)
no_test op.Or n s x y e = absurd (cc)

pub never_test : (ns : List Node) (o : BinaryOp) (s : Bool) (a b : List Gate) (g : ℕ) → is_test o ≡ false → Gives ns g (λ choice v. false)
    → IsTested ns o s a b g
never_test ns o s a b g none is =
    record {
      below = is.below;
      value = λ choice v runs. is.value choice v runs ∙ sym (no_test o (length a) s (number v a) (number v b) none);
    }

pub ruleset tested_gate = (less_test, greater_test, less_equal_test, greater_equal_test, equal_test, not_equal_test, and_test, or_test, never_test)

pub ruleset made_words = (mul_word, add_word, sub_word, shl_word, and_word, xor_word, or_word)

pub ruleset quotient_word = (div_s_word, div_u_word)

pub ruleset remainder_word = (rem_s_word, rem_u_word)

pub ruleset shifted_word = (shr_s_word, shr_u_word)

pub ruleset less_gate = (less_s_gate)

test_is : (o : BinaryOp) (n : ℕ) (s : Bool) (x y : ℕ) → is_test o ≡ true → truth (holds o n s x y) ≡ computed o n s x y
test_is op.Less n s x y e = refl
test_is op.Greater n s x y e = refl
test_is op.LessEqual n s x y e = refl
test_is op.GreaterEqual n s x y e = refl
test_is op.Equal n s x y e = refl
test_is op.NotEqual n s x y e = refl
test_is op.And n s x y e = refl
test_is op.Or n s x y e = refl
test_is op.Mul n s x y e = absurd (cc)
test_is op.Div n s x y e = absurd (cc)
test_is op.Rem n s x y e = absurd (cc)
test_is op.Add n s x y e = absurd (cc)
test_is op.Sub n s x y e = absurd (cc)
test_is op.ShiftLeft n s x y e = absurd (cc)
test_is op.ShiftRight n s x y e = absurd (cc)
test_is op.BitAnd n s x y e = absurd (cc)
test_is op.BitXor n s x y e = absurd (cc)
test_is op.BitOr n s x y e = absurd (cc)

pub test_word : (ns : List Node) (o : BinaryOp) (s : Bool) (bits : ℕ) (a b r : List Gate) (g : ℕ) → is_test o ≡ true → IsTested ns o s a b g
    → Spells ns r bits (λ v. bit (v g)) → IsComputed ns o s bits a b r
test_word ns o s bits a b r g test is made =
    record {
      wide = made.wide;
      below = made.below;
      value = λ choice v runs taken.
          made.value choice v runs ∙ bit_truth (v g) ∙ ap truth (is.value choice v runs)
          ∙ test_is o (length a) s (number v a) (number v b) test;
    }
