-- What a known call gives by the choice.
use Rattle.std.proofs.Common.{◌≡◌, ℕ, zero, suc, ◌+◌, nat_eq, Bool, true, false, if◌then◌else◌, List, length, inl, refl, sym, ◌∙◌, ap, subst, arith}
use Rattle.std.specs.Prelude.{Option, Some, None}
use Rattle.bit_net.specs.declared.nodes.Gate.{Gate}
use Rattle.bit_net.specs.declared.nodes.Node.{Node}
use Rattle.bit_net.specs.Runs.{Runs, Grown, Gives, Always}
use Rattle.bit_words.specs.declared.Word.{Word as Words}
use Rattle.bit_words.specs.Number.{number}
use Rattle.gl_sets.specs.declared.pairs.Pair.{Pair}
use Rattle.gl_sets.specs.declared.sets.Set.{Set as Sets}
use Rattle.gl_sets.specs.Guards.{Points}
use Rattle.gl_sets.specs.Sets.{IsGood, IsJoin}
use Rattle.gl_store.specs.declared.values.Val.TheVariants.{Word, Set, Unit as Empty}
use Rattle.gl_store.specs.Meets.{Meets}
use Rattle.run_store.specs.Concrete.{Number, Nothing, Numbers, Pointers, NoCell}
use Rattle.sum_rows.specs.declared.row.Gives.TheVariants as gives
use Rattle.sum_rows.specs.declared.row.State.{State}
use Rattle.sum_rows.specs.declared.row.State.TheVariants as state
use Rattle.sc_world.specs.Tree.{Ty, Ptr, is_integer, is_pointer, int_bits}
use Rattle.sc_world.specs.Source.{Source}
use Rattle.sc_world.specs.Layout.{Layout, Occurrence}
use Rattle.sc_world.specs.World.{Env, bit_at, kind_of_type, number_at, null, target_of, target_or_null}
use Rattle.sc_world.specs.Known as known
use Rattle.sc_world.specs.Known.{given_by, given_int, given_nothing, given_pointer, number_gives, same_state}
use Rattle.gate_objects.specs.Given.{env_of}
use Rattle.gate_objects.specs.Given.{IsNumber}
use Rattle.gate_rows.specs.declared.sought.Outcome.TheVariants as outcome
use Rattle.gate_rows.specs.Sought.{gives_of, is_spelt, pointer_number}
use Rattle.gate_rows.specs.Given.{IsGiven, IsPointerTo}
use Rattle.gate_rows.proofs.Rows.{pointer_is}

-- The pointer to an object.

pub to_none : (ns : List Node) (pairs : List Pair) → IsGood ns pairs → Always ns (λ choice v. Points v pairs 0) → IsPointerTo ns None pairs
to_none ns pairs good points = record { below = good.below; points = λ choice v runs. points.holds choice v runs }

pub to_some : (ns : List Node) (at target : ℕ) (pairs : List Pair) → target ≡ at + 1 → IsGood ns pairs → Always ns (λ choice v. Points v pairs target)
    → IsPointerTo ns (Some at) pairs
to_some ns at target pairs e good points =
    record { below = good.below; points = λ choice v runs. subst (Points v pairs) e (points.holds choice v runs) }

-- Kinds of types.

integer_no_pointer : (t : Ty) → is_integer t ≡ true → is_pointer t ≡ false
integer_no_pointer (Ptr t) e = cc
integer_no_pointer _ e = refl

pointer_no_integer : (t : Ty) → is_pointer t ≡ true → is_integer t ≡ false
pointer_no_integer (Ptr t) e = refl
pointer_no_integer _ e = cc

integer_kind : (s : Source) (t : Ty) → is_integer t ≡ true → Numbers (int_bits s.widths t) ≡ kind_of_type s (Some t)
integer_kind s t e =
    sym (ap (λ b. if b then Pointers else (if is_integer t then Numbers (int_bits s.widths t) else NoCell)) (integer_no_pointer t e)
    ∙ ap (λ b. if b then Numbers (int_bits s.widths t) else NoCell) e)

pointer_kind : (s : Source) (t : Ty) → is_pointer t ≡ true → Pointers ≡ kind_of_type s (Some t)
pointer_kind s t e = sym (ap (λ b. if b then Pointers else (if is_integer t then Numbers (int_bits s.widths t) else NoCell)) e)

no_kind : (s : Source) (t : Ty) → is_integer t ≡ false → is_pointer t ≡ false → NoCell ≡ kind_of_type s (Some t)
no_kind s t e f =
    sym (ap (λ b. if b then Pointers else (if is_integer t then Numbers (int_bits s.widths t) else NoCell)) f
    ∙ ap (λ b. if b then Numbers (int_bits s.widths t) else NoCell) e)

-- What is given, by the type.

by_integer : (env : Env) (o : Occurrence) (t : Ty) → is_integer t ≡ true
    → given_by env o t ≡ Some (given_int (int_bits env.source.widths t) (number_at env.choice o.bit (int_bits env.source.widths t)))
by_integer env o t e = rw e refl

by_pointer : (env : Env) (o : Occurrence) (t : Ty) → is_pointer t ≡ true → given_by env o t ≡ given_pointer (number_at env.choice o.bit 2) o.object
by_pointer env o t e = rw (pointer_no_integer t e, e) refl

by_nothing : (env : Env) (o : Occurrence) (t : Ty) → is_integer t ≡ false → is_pointer t ≡ false → given_by env o t ≡ Some given_nothing
by_nothing env o t e f = rw (e, f) refl

some_is : {A : Type 0} (a b : A) → Some a ≡ Some b → a ≡ b
some_is a b e = cc

no_some : {A P : Type 0} (a : A) → Some a ≡ None → P
no_some a e = absurd (cc)

-- A number.

number_outcome : (v : ℕ → Bool) (is_zero' : ℕ) (n : ℕ) → v is_zero' ≡ nat_eq n 0 → (if v is_zero' then gives.Zero else gives.NotZero) ≡ number_gives n
number_outcome v is_zero' n e = ap (λ b. if b then gives.Zero else gives.NotZero) e

pub is_number_given : (s : Source) (p : Layout) (n1 ns : List Node) (o : Occurrence) (t : Ty) (width : ℕ) (word : Words) (is_zero' : Gate)
    → is_integer t ≡ true → width ≡ int_bits s.widths t → Grown n1 ns → IsNumber p n1 o.bit width word.bits.items
    → Gives ns is_zero'.at (λ choice v. nat_eq (number v word.bits.items) 0)
    → IsGiven s p ns o t (record { val = Word word; outcome = outcome.Zero is_zero'; kind = None })
is_number_given s p n1 ns o t width word is_zero' integer wide grown is zeros =
    let w : ℕ = int_bits s.widths t in
    let long : length word.bits.items ≡ w = is.wide ∙ wide in
    record {
      below = omega (arith, is.below, grown.longer);
      outcome_below = zeros.below;
      kind_below = tt;
      kind = ap (λ k. Numbers k) long ∙ integer_kind s t integer;
      some = λ bits v runs few. (Number w (number v word.bits.items), record { wide = long; value = refl });
      gives = λ bits v runs few temps turn g e.
          let env = env_of s p bits temps turn in
          let n : ℕ = number_at bits o.bit w in
          let spelt : number v word.bits.items ≡ n = is.value bits v (grown.runs (bit_at bits) v runs) (inl few) ∙ ap (number_at bits o.bit) wide in
          let same : given_int w n ≡ g = some_is (given_int w n) g (sym (by_integer env o t integer) ∙ e) in
          subst (λ h. Meets v (Word word) h.value × ((gives_of v (outcome.Zero is_zero') ≡ h.result) ×
          ((x : State) → same_state state.Nil x ≡ same_state h.kind x))) same
          (record { wide = long; value = spelt }, (number_outcome v is_zero'.at n (zeros.value (bit_at bits) v runs ∙ ap (λ k. nat_eq k 0) spelt), λ x. refl));
      nothing = λ bits v runs few temps turn e x.
          no_some (given_int w (number_at bits o.bit w)) (sym (by_integer (env_of s p bits temps turn) o t integer) ∙ e);
    }

-- A pointer.

-- what is known of a pointer that is given, by its number
pub record Tells (n : ℕ) (object : Option ℕ) (g : known.Given) : Type 0 where
  pub value : g.value ≡ (if nat_eq n 0 then null else target_or_null object)
  pub result : (if nat_eq n 0 then gives.Zero else gives.NotZero) ≡ g.result
  pub kind : (x : State) → is_spelt n (pointer_number x) ≡ same_state g.kind x

tells : (n : ℕ) (object : Option ℕ) (g : known.Given) → given_pointer n object ≡ Some g → Tells n object g
tells zero object g e =
    subst (Tells 0 object) (some_is (record { value = null; result = gives.Zero; kind = state.Null; object = None }) g e)
    (record { value = refl; result = refl; kind = pointer_is 0 })
tells (suc zero) object g e =
    subst (Tells 1 object) (some_is (record { value = target_or_null object; result = gives.NotZero; kind = state.Fresh; object = object }) g e)
    (record { value = refl; result = refl; kind = pointer_is 1 })
tells (suc (suc zero)) object g e =
    subst (Tells 2 object) (some_is (record { value = target_or_null object; result = gives.NotZero; kind = state.Other; object = object }) g e)
    (record { value = refl; result = refl; kind = pointer_is 2 })
tells (suc (suc (suc n))) object g e = absurd (cc)

names_nothing : (n : ℕ) (object : Option ℕ) → given_pointer n object ≡ None → (x : State) → is_spelt n (pointer_number x) ≡ false
names_nothing zero object e x = absurd (cc)
names_nothing (suc zero) object e x = absurd (cc)
names_nothing (suc (suc zero)) object e x = absurd (cc)
names_nothing (suc (suc (suc n))) object e x = pointer_is (suc (suc (suc n))) x

to_cell : (v : ℕ → Bool) (set : Sets) (b : Bool) (object : Option ℕ) → Points v set.pairs.items (if b then 0 else target_of (target_or_null object))
    → Meets v (Set set) (if b then null else target_or_null object)
to_cell v set true object points = points
to_cell v set false None points = points
to_cell v set false (Some at) points = points

pub is_pointer_given : (s : Source) (p : Layout) (n1 n2 ns : List Node) (o : Occurrence) (t : Ty) (kind : Words) (null' : Gate)
    (object none : List Pair) (set : Sets) → is_pointer t ≡ true → Grown n1 n2 → Grown n2 ns → IsNumber p n1 o.bit 2 kind.bits.items
    → Gives n2 null'.at (λ choice v. nat_eq (number v kind.bits.items) 0) → IsPointerTo n2 o.object object → Always n2 (λ choice v. Points v none 0)
    → IsJoin ns null'.at none object set.pairs.items → IsGiven s p ns o t (record { val = Set set; outcome = outcome.Zero null'; kind = Some kind })
is_pointer_given s p n1 n2 ns o t kind null' object none set pointer grown12 grown23 is nulls to missing join =
    record {
      below = join.below;
      outcome_below = omega (arith, nulls.below, grown23.longer);
      kind_below = omega (arith, is.below, grown12.longer, grown23.longer);
      kind = pointer_kind s t pointer;
      some = λ bits v runs few. (if v null'.at then null else target_or_null o.object, cell bits v runs);
      gives = λ bits v runs few temps turn g e.
          let r2 = grown23.runs (bit_at bits) v runs in
          let n : ℕ = number_at bits o.bit 2 in
          let spelt : number v kind.bits.items ≡ n = is.value bits v (grown12.runs (bit_at bits) v r2) (inl few) in
          let holds : v null'.at ≡ nat_eq n 0 = nulls.value (bit_at bits) v r2 ∙ ap (λ k. nat_eq k 0) spelt in
          let told = tells n o.object g (sym (by_pointer (env_of s p bits temps turn) o t pointer) ∙ e) in (
            subst (Meets v (Set set)) (ap (λ b. if b then null else target_or_null o.object) holds ∙ sym told.value) (cell bits v runs),
            (ap (λ b. if b then gives.Zero else gives.NotZero) holds ∙ told.result, λ x. ap (λ k. is_spelt k (pointer_number x)) spelt ∙ told.kind x),
          );
      nothing = λ bits v runs few temps turn e x.
          ap (λ k. is_spelt k (pointer_number x)) (is.value bits v (grown12.runs (bit_at bits) v (grown23.runs (bit_at bits) v runs)) (inl few))
          ∙ names_nothing (number_at bits o.bit 2) o.object (sym (by_pointer (env_of s p bits temps turn) o t pointer) ∙ e) x;
    }
  where
    cell : (bits : List Bool) (v : ℕ → Bool) → Runs ns (bit_at bits) v → Meets v (Set set) (if v null'.at then null else target_or_null o.object)
    cell bits v runs =
        let r2 = grown23.runs (bit_at bits) v runs in
        to_cell v set (v null'.at) o.object
        (join.points (bit_at bits) v runs 0 (target_of (target_or_null o.object)) (missing.holds (bit_at bits) v r2) (to.points (bit_at bits) v r2))

-- Nothing.

pub nothing_given : (s : Source) (p : Layout) (ns : List Node) (o : Occurrence) (t : Ty) → is_integer t ≡ false → is_pointer t ≡ false
    → IsGiven s p ns o t (record { val = Empty; outcome = outcome.Nothing; kind = None })
nothing_given s p ns o t integer pointer =
    record {
      below = omega arith;
      outcome_below = tt;
      kind_below = tt;
      kind = no_kind s t integer pointer;
      some = λ bits v runs few. (Nothing, tt);
      gives = λ bits v runs few temps turn g e.
          let same : given_nothing ≡ g = some_is given_nothing g (sym (by_nothing (env_of s p bits temps turn) o t integer pointer) ∙ e) in
          subst (λ h. Meets v Empty h.value × ((gives.Nothing ≡ h.result) × ((x : State) → same_state state.Nil x ≡ same_state h.kind x))) same
          (tt, (refl, λ x. refl));
      nothing = λ bits v runs few temps turn e x. no_some given_nothing (sym (by_nothing (env_of s p bits temps turn) o t integer pointer) ∙ e);
    }
