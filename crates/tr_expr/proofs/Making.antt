-- What is made of one value, or of two.
use Rattle.std.proofs.Common.{◌≡◌, ℕ, ◌<◌, ◌≤◌, Bool, true, false, not, nat_eq, Some, List, length, if◌then◌else◌, refl, sym, ◌∙◌, ap, subst}
use Rattle.bit_net.specs.declared.nodes.Node.{Node}
use Rattle.bit_net.specs.Runs.{Grown, Gives}
use Rattle.bit_words.specs.declared.Word.{Word as Words}
use Rattle.gl_sets.specs.declared.sets.Set.{Set as Sets}
use Rattle.gl_sets.specs.Guards.{Points, guards_top}
use Rattle.gl_store.specs.declared.values.Val.{Val}
use Rattle.gl_store.specs.declared.values.Val.TheVariants.{Word, Set, Unit as Empty}
use Rattle.gl_store.specs.Meets.{Meets, val_kind}
use Rattle.gl_store.proofs.ValueLemmas.{Meets-kind}
use Rattle.gate_runs.specs.declared.ends.Ends.{Ends}
use Rattle.run_store.specs.Concrete.{Cell, Number, Pointer, Nothing, Kind, Numbers, Pointers, NoCell}
use Rattle.sc_tree.specs.declared.op.BinaryOp.{BinaryOp}
use Rattle.sc_tree.specs.declared.op.UnaryOp.{UnaryOp}
use Rattle.sc_tree.specs.declared.op.UnaryOp.TheVariants as sign
use Rattle.sc_typed.specs.Arith.{truth, resized, of_one}
use Rattle.sc_world.specs.Tree.{Ty, is_integer, is_pointer, is_bool, int_bits, has_sign}
use Rattle.sc_world.specs.Source.{Source}
use Rattle.sc_world.specs.Layout.{Layout}
use Rattle.sc_world.specs.World.{kind_of_type, is_true, null}
use Rattle.sc_world.specs.Eval.{convert}
use Rattle.gate_places.specs.Places.{env_of}
use Rattle.gate_values.specs.Values.{IsTruth, IsTruthOf, IsResized, IsOfOne, IsPointer}
use Rattle.gate_values.specs.Operated.{AreOperands, DoesOperate, are_alike}
use Rattle.tr_expr.specs.Plain.{AreAlike, Integers, PointersBoth, BinaryFits, ConvertFits, SignFits}
use Rattle.tr_expr.specs.Evals.{IsConverted, IsOfUnary, Operates, is_sign, of_unary}
use Rattle.tr_expr.proofs.TypeKinds.{integer_kind, pointer_kind, bool_kind, numbers_integer, numbers_width, pointers_pointer, converts_some, to_pointer, stays_pointer, bits_some, bits_few}

-- a number has a bit at least
pub word_some : (s : Source) (t : Ty) (w : Words) → val_kind (Word w) ≡ kind_of_type s (Some t) → 0 < length w.bits.items
word_some s t w kind =
    let wide : int_bits s.widths t ≡ length w.bits.items = numbers_width s t (length w.bits.items) (sym kind) in
    subst (λ k. 0 < k) wide (bits_some s.widths t (numbers_integer s t (length w.bits.items) (sym kind)))

-- Conversions.

to_bool : (s : Source) (v : ℕ → Bool) (from to : Ty) (x r : Val) (p : Layout) (bits : List Bool) (temps : List Cell) (turn : ℕ) (c : Cell) → is_bool to ≡ true
    → ConvertFits from to → val_kind x ≡ kind_of_type s (Some from) → Meets v x c → Meets v r (Number 1 (truth (is_true c)))
    → Meets v r (convert (env_of s p bits temps turn) from to c)
to_bool s v from to x r p bits temps turn (Number w n) is fits kind m h =
    subst (λ b. Meets v r (if b then Number 1 (truth (not (nat_eq n 0))) else (if is_integer to
    then Number (int_bits s.widths to) (resized (has_sign from) (int_bits s.widths from) (int_bits s.widths to) n)
    else (if is_pointer to then null else Nothing)))) (sym is) h
to_bool s v from to x r p bits temps turn (Pointer t) is fits kind m h =
    subst (λ b. Meets v r (if b then Number 1 (truth (not (nat_eq t 0))) else (if is_pointer to then Pointer t else Nothing))) (sym is) h
to_bool s v from to x r p bits temps turn Nothing is fits kind m h =
    absurd (converts_some s from to fits.holds (sym kind ∙ Meets-kind v x Nothing m))

pub converted_bool : (s : Source) (ns : List Node) (from to : Ty) (x r : Val) (gate : ℕ) → is_bool to ≡ true → ConvertFits from to
    → val_kind x ≡ kind_of_type s (Some from) → IsTruth ns x gate → IsTruthOf ns gate 1 r → IsConverted s ns from to x r
converted_bool s ns from to x r gate is fits kind true_where made =
    record {
      below = made.below;
      kind = made.kind ∙ sym (bool_kind s to is);
      value = λ choice v runs p bits temps turn c m.
          to_bool s v from to x r p bits temps turn c is fits kind m
          (subst (λ b. Meets v r (Number 1 (truth b))) (true_where.value choice v runs c m) (made.value choice v runs));
    }

number_as : (s : Source) (v : ℕ → Bool) (from to : Ty) (w : Words) (r : Val) (p : Layout) (bits : List Bool) (temps : List Cell) (turn : ℕ) (c : Cell)
    → is_bool to ≡ false → is_integer to ≡ true → val_kind (Word w) ≡ kind_of_type s (Some from) → Meets v (Word w) c
    → ((width n : ℕ) → Meets v (Word w) (Number width n) → Meets v r (Number (int_bits s.widths to) (resized (has_sign from) width (int_bits s.widths to) n)))
    → Meets v r (convert (env_of s p bits temps turn) from to c)
number_as s v from to w r p bits temps turn (Number width n) other integer kind m made =
    let same : int_bits s.widths from ≡ width = numbers_width s from width (sym kind ∙ ap Numbers m.wide) in
    subst (λ b. Meets v r (if b then Number 1 (truth (not (nat_eq n 0))) else (if is_integer to
    then Number (int_bits s.widths to) (resized (has_sign from) (int_bits s.widths from) (int_bits s.widths to) n)
    else (if is_pointer to then null else Nothing)))) (sym other)
    (subst (λ b. Meets v r (if b
    then Number (int_bits s.widths to) (resized (has_sign from) (int_bits s.widths from) (int_bits s.widths to) n)
    else (if is_pointer to then null else Nothing))) (sym integer)
    (subst (λ k. Meets v r (Number (int_bits s.widths to) (resized (has_sign from) k (int_bits s.widths to) n))) (sym same) (made width n m)))
number_as s v from to w r p bits temps turn (Pointer t) other integer kind m made = absurd m
number_as s v from to w r p bits temps turn Nothing other integer kind m made = absurd m

pub converted_number : (s : Source) (ns : List Node) (from to : Ty) (w : Words) (r : Val) → is_bool to ≡ false → is_integer to ≡ true
    → val_kind (Word w) ≡ kind_of_type s (Some from) → IsResized ns (has_sign from) (int_bits s.widths to) w r → IsConverted s ns from to (Word w) r
converted_number s ns from to w r other integer kind made =
    record {
      below = made.below;
      kind = made.kind ∙ sym (integer_kind s to integer);
      value = λ choice v runs p bits temps turn c m.
          number_as s v from to w r p bits temps turn c other integer kind m (λ width n k. made.value choice v runs width n k);
    }

number_null : (s : Source) (v : ℕ → Bool) (from to : Ty) (w : Words) (r : Val) (p : Layout) (bits : List Bool) (temps : List Cell) (turn : ℕ) (c : Cell)
    → is_bool to ≡ false → is_integer to ≡ false → is_pointer to ≡ true → Meets v (Word w) c → Meets v r (Pointer 0)
    → Meets v r (convert (env_of s p bits temps turn) from to c)
number_null s v from to w r p bits temps turn (Number width n) other integer pointer m made =
    subst (λ b. Meets v r (if b then Number 1 (truth (not (nat_eq n 0))) else (if is_integer to
    then Number (int_bits s.widths to) (resized (has_sign from) (int_bits s.widths from) (int_bits s.widths to) n)
    else (if is_pointer to then null else Nothing)))) (sym other)
    (subst (λ b. Meets v r (if b
    then Number (int_bits s.widths to) (resized (has_sign from) (int_bits s.widths from) (int_bits s.widths to) n)
    else (if is_pointer to then null else Nothing))) (sym integer)
    (subst (λ b. Meets v r (if b then null else Nothing)) (sym pointer) made))
number_null s v from to w r p bits temps turn (Pointer t) other integer pointer m made = absurd m
number_null s v from to w r p bits temps turn Nothing other integer pointer m made = absurd m

pub converted_null : (s : Source) (ns : List Node) (from to : Ty) (w : Words) (r : Val) → is_bool to ≡ false → is_integer to ≡ false → ConvertFits from to
    → val_kind (Word w) ≡ kind_of_type s (Some from) → IsPointer ns 0 r → IsConverted s ns from to (Word w) r
converted_null s ns from to w r other integer fits kind made =
    let pointer : is_pointer to ≡ true = to_pointer from to (numbers_integer s from (length w.bits.items) (sym kind)) integer fits.holds in
    record {
      below = made.below;
      kind = made.kind ∙ sym (pointer_kind s to pointer);
      value = λ choice v runs p bits temps turn c m.
          number_null s v from to w r p bits temps turn c other integer pointer m (made.value choice v runs);
    }

set_as : (s : Source) (v : ℕ → Bool) (from to : Ty) (x y : Sets) (p : Layout) (bits : List Bool) (temps : List Cell) (turn : ℕ) (c : Cell)
    → is_bool to ≡ false → is_pointer to ≡ true → y.pairs.items ≡ x.pairs.items → Meets v (Set x) c
    → Meets v (Set y) (convert (env_of s p bits temps turn) from to c)
set_as s v from to x y p bits temps turn (Pointer t) other pointer same m =
    subst (λ b. Meets v (Set y) (if b then Number 1 (truth (not (nat_eq t 0))) else (if is_pointer to then Pointer t else Nothing))) (sym other)
    (subst (λ b. Meets v (Set y) (if b then Pointer t else Nothing)) (sym pointer) (subst (λ ps. Points v ps t) (sym same) m))
set_as s v from to x y p bits temps turn (Number w n) other pointer same m = absurd m
set_as s v from to x y p bits temps turn Nothing other pointer same m = absurd m

pub converted_set : (s : Source) (ns : List Node) (from to : Ty) (x y : Sets) → is_bool to ≡ false → ConvertFits from to
    → val_kind (Set x) ≡ kind_of_type s (Some from) → guards_top x.pairs.items ≤ length ns → y.pairs.items ≡ x.pairs.items
    → IsConverted s ns from to (Set x) (Set y)
converted_set s ns from to x y other fits kind below same =
    let pointer : is_pointer to ≡ true = stays_pointer from to (pointers_pointer s from (sym kind)) other fits.holds in
    record {
      below = subst (λ ps. guards_top ps ≤ length ns) (sym same) below;
      kind = sym (pointer_kind s to pointer);
      value = λ choice v runs p bits temps turn c m. set_as s v from to x y p bits temps turn c other pointer same m;
    }

pub converted_none : (s : Source) (ns : List Node) (from to : Ty) → ConvertFits from to → val_kind Empty ≡ kind_of_type s (Some from)
    → IsConverted s ns from to Empty Empty
converted_none s ns from to fits kind = absurd (converts_some s from to fits.holds (sym kind))

-- Operators on one value.

pub not_value : (s : Source) (n2 n1 : List Node) (t : Ty) (x r : Val) (some none : ℕ) → is_integer t ≡ true → Grown n1 n2 → IsTruth n1 x some
    → Gives n2 none (λ choice v. not (v some)) → IsTruthOf n2 none (int_bits s.widths t) r → IsOfUnary s n2 sign.Not t x r
not_value s n2 n1 t x r some none integer grown true_where is_not made =
    record {
      below = made.below;
      kind = made.kind ∙ sym (integer_kind s t integer);
      value = λ choice v runs p bits temps turn c m.
          subst (λ b. Meets v r (Number (int_bits s.widths t) (truth b)))
          (is_not.value choice v runs ∙ ap not (true_where.value choice v (grown.runs choice v runs) c m)) (made.value choice v runs);
    }

sign_is : (s : Source) (o : UnaryOp) (t : Ty) (p : Layout) (bits : List Bool) (temps : List Cell) (turn : ℕ) (n : ℕ) → is_sign o ≡ true
    → Number (int_bits s.widths t) (of_one o (int_bits s.widths t) n) ≡ of_unary (env_of s p bits temps turn) o t (Number (int_bits s.widths t) n)
sign_is s sign.Plus t p bits temps turn n e = refl
sign_is s sign.Minus t p bits temps turn n e = refl
sign_is s sign.Complement t p bits temps turn n e = refl
sign_is s sign.Not t p bits temps turn n e = absurd (cc)
sign_is s sign.Address t p bits temps turn n e = absurd (cc)
sign_is s sign.Deref t p bits temps turn n e = absurd (cc)

signed_from : (s : Source) (v : ℕ → Bool) (o : UnaryOp) (from t : Ty) (w : Words) (r : Val) (p : Layout) (bits : List Bool) (temps : List Cell) (turn : ℕ) (c : Cell)
    → is_sign o ≡ true → int_bits s.widths t ≡ length w.bits.items → Meets v (Word w) c
    → ((width n : ℕ) → Meets v (Word w) (Number width n) → Meets v r (Number width (of_one o width n)))
    → Meets v r (of_unary (env_of s p bits temps turn) o t c)
signed_from s v o from t w r p bits temps turn (Number width n) signs same m made =
    let wide : int_bits s.widths t ≡ width = same ∙ m.wide in
    subst (λ k. Meets v r (of_unary (env_of s p bits temps turn) o t (Number k n))) wide
    (subst (λ x. Meets v r x) (sign_is s o t p bits temps turn n signs)
    (subst (λ k. Meets v r (Number k (of_one o k n))) (sym wide) (made width n m)))
signed_from s v o from t w r p bits temps turn (Pointer q) signs same m made = absurd m
signed_from s v o from t w r p bits temps turn Nothing signs same m made = absurd m

pub signed_value : (s : Source) (ns : List Node) (o : UnaryOp) (from t : Ty) (w : Words) (r : Val) → is_sign o ≡ true → SignFits s from t
    → val_kind (Word w) ≡ kind_of_type s (Some from) → IsOfOne ns o w r → IsOfUnary s ns o t (Word w) r
signed_value s ns o from t w r signs fits kind made =
    let same : int_bits s.widths t ≡ length w.bits.items = sym fits.same ∙ numbers_width s from (length w.bits.items) (sym kind) in
    record {
      below = made.below;
      kind = made.kind ∙ ap Numbers (sym same) ∙ sym (integer_kind s t fits.gives);
      value = λ choice v runs p bits temps turn c m.
          signed_from s v o from t w r p bits temps turn c signs same m (λ width n k. made.value choice v runs width n k);
    }

sign_kind : (s : Source) (from t : Ty) (k : Kind) → SignFits s from t → k ≡ kind_of_type s (Some from) → k ≡ Numbers (int_bits s.widths from)
sign_kind s from t k fits e = e ∙ integer_kind s from fits.takes

pub signed_set : (s : Source) (ns : List Node) (o : UnaryOp) (from t : Ty) (x : Sets) → SignFits s from t → val_kind (Set x) ≡ kind_of_type s (Some from)
    → IsOfUnary s ns o t (Set x) Empty
signed_set s ns o from t x fits kind = let apart : Pointers ≡ Numbers (int_bits s.widths from) = sign_kind s from t Pointers fits kind in absurd (cc)

pub signed_none : (s : Source) (ns : List Node) (o : UnaryOp) (from t : Ty) → SignFits s from t → val_kind Empty ≡ kind_of_type s (Some from)
    → IsOfUnary s ns o t Empty Empty
signed_none s ns o from t fits kind = let apart : NoCell ≡ Numbers (int_bits s.widths from) = sign_kind s from t NoCell fits kind in absurd (cc)

-- Operators on two values.

pub gives_some : (s : Source) (o : BinaryOp) (u w t : Ty) → BinaryFits s o u w t → 0 < int_bits s.widths t
gives_some s o u w t fits = bits_some s.widths t fits.gives

pub operands_are : (s : Source) (o : BinaryOp) (u w t : Ty) (x y : Val) → BinaryFits s o u w t → val_kind x ≡ kind_of_type s (Some u)
    → val_kind y ≡ kind_of_type s (Some w) → AreOperands o (int_bits s.widths t) x y
operands_are s o u w t (Word a) (Word b) fits left right =
    let wide : int_bits s.widths u ≡ length a.bits.items = numbers_width s u (length a.bits.items) (sym left) in
    let other : int_bits s.widths w ≡ length b.bits.items = numbers_width s w (length b.bits.items) (sym right) in
    record {
      some = word_some s u a left;
      small = subst (λ k. k ≤ 64) wide (bits_few s.widths u);
      counts = word_some s w b right;
      count = subst (λ k. k ≤ 64) other (bits_few s.widths w);
      same = λ plain. sym wide ∙ fits.same plain ∙ other;
      keeps = λ plain. fits.keeps plain ∙ wide;
    }
operands_are s o u w t (Word a) (Set b) fits left right = tt
operands_are s o u w t (Word a) Empty fits left right = tt
operands_are s o u w t (Set a) y fits left right = tt
operands_are s o u w t Empty y fits left right = tt

both_words : (x y : Val) (m n : ℕ) → val_kind x ≡ Numbers m → val_kind y ≡ Numbers n → are_alike x y ≡ true
both_words (Word a) (Word b) m n left right = refl
both_words (Word a) (Set b) m n left right = absurd (cc)
both_words (Word a) Empty m n left right = absurd (cc)
both_words (Set a) y m n left right = absurd (cc)
both_words Empty y m n left right = absurd (cc)

both_sets : (x y : Val) → val_kind x ≡ Pointers → val_kind y ≡ Pointers → are_alike x y ≡ true
both_sets (Set a) (Set b) left right = refl
both_sets (Set a) (Word b) left right = absurd (cc)
both_sets (Set a) Empty left right = absurd (cc)
both_sets (Word a) y left right = absurd (cc)
both_sets Empty y left right = absurd (cc)

alike : (s : Source) (u w : Ty) (x y : Val) → AreAlike u w → val_kind x ≡ kind_of_type s (Some u) → val_kind y ≡ kind_of_type s (Some w)
    → are_alike x y ≡ true
alike s u w x y (Integers i j) left right =
    both_words x y (int_bits s.widths u) (int_bits s.widths w) (left ∙ integer_kind s u i) (right ∙ integer_kind s w j)
alike s u w x y (PointersBoth i j) left right = both_sets x y (left ∙ pointer_kind s u i) (right ∙ pointer_kind s w j)

pub operation_does : (s : Source) (ns : List Node) (o : BinaryOp) (u w t : Ty) (sign : Bool) (bits : ℕ) (x y r : Val) (old new : Ends) → BinaryFits s o u w t
    → val_kind x ≡ kind_of_type s (Some u) → val_kind y ≡ kind_of_type s (Some w) → sign ≡ has_sign u → bits ≡ int_bits s.widths t
    → DoesOperate ns o sign bits x y old new r → Operates s ns o u t x y old new r
operation_does s ns o u w t sign bits x y r old new fits left right signs wide made =
    record {
      below = made.below;
      kind = made.kind (alike s u w x y fits.alike left right) ∙ ap Numbers wide ∙ sym (integer_kind s t fits.gives);
      does = λ choice v runs l p choices temps turn c d m k.
          made.does choice v runs l (env_of s p choices temps turn) u t c d
          (record { sign = sym signs; result = sym wide; width = λ width e. numbers_width s u width (sym left ∙ e) }) m k;
    }
