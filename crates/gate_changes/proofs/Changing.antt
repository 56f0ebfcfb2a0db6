-- What compound assignment and counting make of values.
use Rattle.std.proofs.Common.{◌≡◌, ℕ, zero, suc, ◌^◌, ◌<◌, true, false, List, refl, subst, arith}
use Rattle.std.proofs.Math.Nat.{pow-suc}
use Rattle.std.proofs.lemmas.Nat.{pow_pos}
use Rattle.bit_net.specs.declared.nodes.Node.{Node}
use Rattle.bit_net.specs.Runs.{Grown}
use Rattle.gl_store.specs.declared.values.Val.{Val}
use Rattle.gl_store.specs.Meets.{Meets}
use Rattle.gate_runs.specs.declared.ends.Ends.{Ends}
use Rattle.gate_runs.proofs.Bind.{bind, does_done}
use Rattle.run_store.specs.Concrete.{Number as Num}
use Rattle.sc_tree.specs.declared.op.BinaryOp.{BinaryOp}
use Rattle.sc_tree.specs.declared.op.Step.{Step}
use Rattle.sc_tree.specs.declared.op.Step.TheVariants as by
use Rattle.sc_world.specs.Tree.{Ty, Void, Bool', Int, Ptr, Array, Struct, Union, Func, Opaque, is_integer, int_bits, promoted_type}
use Rattle.sc_world.specs.Source.{Source}
use Rattle.sc_world.specs.World.{done}
use Rattle.sc_world.specs.Eval.{convert, operated, one_step, is_logical}
use Rattle.gate_values.specs.Values.{IsNumber}
use Rattle.tr_expr.specs.Plain.{Integers, BinaryFits}
use Rattle.gate_places.specs.Places.{env_of}
use Rattle.tr_expr.specs.Evals.{IsConverted, Operates}
use Rattle.gate_changes.specs.Changes.{CombineFits, Combines, Counts}
use Rattle.tr_expr.proofs.TypeKinds.{bits_some}

pub combines : (s : Source) (n1 n2 n3 : List Node) (o : BinaryOp) (works t : Ty) (x y left made r : Val) (old new : Ends) → Grown n1 n2 → Grown n2 n3
    → IsConverted s n1 t works x left → Operates s n2 o works works left y old new made → IsConverted s n3 works t made r
    → Combines s n3 o works t x y old new r
combines s n1 n2 n3 o works t x y left made r old new grown12 grown23 into operator back =
    record {
      below = back.below;
      kind = back.kind;
      does = λ choice v runs l p bits temps turn c d m k.
          let env = env_of s p bits temps turn in
          let r2 = grown23.runs choice v runs in
          let r1 = grown12.runs choice v r2 in
          bind v l l l old new new (operated env o works works (convert env t works c) d) (λ e. done (convert env works t e)) (Meets v made) (Meets v r)
          (operator.does choice v r2 l p bits temps turn (convert env t works c) d (into.value choice v r1 p bits temps turn c m) k)
          (λ e h. does_done v l new (convert env works t e) (Meets v r) (back.value choice v runs p bits temps turn e h));
    }

-- Counting is `+= 1` or `-= 1` in the promoted type.

plain_step : (d : Step) → is_logical (one_step d) ≡ false
plain_step by.Up = refl
plain_step by.Down = refl

fits_in : (s : Source) (d : Step) (w : Ty) → is_integer w ≡ true → BinaryFits s (one_step d) w w w
fits_in s d w e =
    record { plain = plain_step d; gives = e; alike = Integers e e; same = λ plain. refl; keeps = λ plain. refl }

pub count_fits : (s : Source) (d : Step) (t : Ty) → is_integer t ≡ true → CombineFits s (one_step d) (promoted_type t) t (promoted_type t)
count_fits s d Bool' e =
    record { into = record { holds = refl }; operator = fits_in s d (promoted_type Bool') refl; back = record { holds = refl } }
count_fits s d (Int k) e =
    record { into = record { holds = refl }; operator = fits_in s d (promoted_type (Int k)) refl; back = record { holds = refl } }
count_fits s d Void e = absurd (cc)
count_fits s d (Ptr t) e = absurd (cc)
count_fits s d (Array t n) e = absurd (cc)
count_fits s d (Struct n) e = absurd (cc)
count_fits s d (Union n) e = absurd (cc)
count_fits s d (Func r b ts v) e = absurd (cc)
count_fits s d (Opaque o) e = absurd (cc)

promoted_integer : (t : Ty) → is_integer (promoted_type t) ≡ true
promoted_integer (Int k) = refl
promoted_integer Bool' = refl
promoted_integer Void = refl
promoted_integer (Ptr t) = refl
promoted_integer (Array t n) = refl
promoted_integer (Struct n) = refl
promoted_integer (Union n) = refl
promoted_integer (Func r b ts v) = refl
promoted_integer (Opaque o) = refl

-- 1 fits each integer type
low_one : (n : ℕ) → 0 < n → 1 < 2 ^ n
low_one (suc n) low = omega (arith, pow-suc 2 n, pow_pos n)
low_one zero low = absurd (omega (arith, low))

pub one_fits : (s : Source) (t : Ty) → 1 < 2 ^ int_bits s.widths (promoted_type t)
one_fits s t = low_one (int_bits s.widths (promoted_type t)) (bits_some s.widths (promoted_type t) (promoted_integer t))

counts_in : (s : Source) (n1 n2 : List Node) (d : Step) (t : Ty) (x one r : Val) (old new : Ends) → Grown n1 n2
    → IsNumber n1 1 (int_bits s.widths (promoted_type t)) one
    → Combines s n2 (one_step d) (promoted_type t) t x one old new r → Counts s n2 d t x old new r
counts_in s n1 n2 d t x one r old new grown is made =
    record {
      below = made.below;
      kind = made.kind;
      does = λ choice v runs l p bits temps turn c m.
          made.does choice v runs l p bits temps turn c (Num (int_bits s.widths (promoted_type t)) 1) m (is.value choice v (grown.runs choice v runs));
    }

pub counts : (s : Source) (n1 n2 : List Node) (d : Step) (o : BinaryOp) (t works : Ty) (bits : ℕ) (x one r : Val) (old new : Ends) → o ≡ one_step d
    → works ≡ promoted_type t → bits ≡ int_bits s.widths works → Grown n1 n2 → IsNumber n1 1 bits one → Combines s n2 o works t x one old new r
    → Counts s n2 d t x old new r
counts s n1 n2 d o t works bits x one r old new steps promoted wide grown is made =
    counts_in s n1 n2 d t x one r old new grown
    (subst (λ u. IsNumber n1 1 (int_bits s.widths u) one) promoted (subst (λ k. IsNumber n1 1 k one) wide is))
    (subst (λ k. Combines s n2 k (promoted_type t) t x one old new r) steps (subst (λ u. Combines s n2 o u t x one old new r) promoted made))
