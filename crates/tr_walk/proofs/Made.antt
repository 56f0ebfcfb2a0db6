-- Constants, and values in other types.
use Rattle.std.proofs.Common.{◌≡◌, ℕ, ◌^◌, ◌<◌, ◌≤◌, Bool, true, false, ◌||◌, if◌then◌else◌, Some, List, length, refl, sym, ◌∙◌, ap, subst, arith}
use Rattle.std.proofs.lemmas.Bool.{true≢false, ltb-true}
use Rattle.bit_net.specs.declared.nodes.Node.{Node}
use Rattle.bit_words.specs.declared.Word.{Word as Words}
use Rattle.gl_sets.specs.declared.sets.Set.{Set as Sets}
use Rattle.gl_store.specs.declared.values.Val.{Val}
use Rattle.gl_store.specs.declared.values.Val.TheVariants.{Word, Set, Unit as Empty}
use Rattle.gl_store.specs.Meets.{Meets, val_kind, val_top}
use Rattle.gl_store.specs.Steps.{IsSame}
use Rattle.gl_store.proofs.ValueLemmas.{numbers_pointers, numbers_none}
use Rattle.gate_values.specs.Values.{IsTruth, IsTruthOf}
use Rattle.gate_places.specs.Places.{env_of}
use Rattle.run_store.specs.Concrete.{Cell, Number, Pointer, Nothing, Numbers, Pointers}
use Rattle.run_laws.specs.Fits.{is_scalar, is_function, converts_to}
use Rattle.sc_typed.specs.Arith.{truth}
use Rattle.sc_world.specs.Tree.{Ty, Void, Bool', Int, Ptr, Array, Func, is_integer, is_pointer, is_array, is_void, is_bool, int_bits}
use Rattle.sc_world.specs.Source.{Source}
use Rattle.sc_world.specs.Layout.{Layout}
use Rattle.sc_world.specs.World.{kind_of_type, is_true}
use Rattle.sc_world.specs.Eval.{Value, convert}
use Rattle.tr_expr.specs.Evals.{IsConverted}
use Rattle.tr_expr.specs.Plain.{ConvertFits}
use Rattle.tr_expr.proofs.TypeKinds.{bits_some, bits_few, integer_kind, numbers_width}
use Rattle.tr_walk.specs.Leaves.{Converts}
use Rattle.expr_fits.specs.Temps.{HasKindFor}
use Rattle.expr_fits.specs.Fits.{fits_width}
use Rattle.tr_walk.proofs.Types.{cell_kind}

-- Numbers.

integer_scalar : (t : Ty) → is_integer t ≡ true → is_scalar t ≡ true
integer_scalar t e = ap (λ b. b || is_pointer t) e

word_width : (s : Source) (t : Ty) (w : Words) → is_integer t ≡ true → HasKindFor s Value t (Word w) → int_bits s.widths t ≡ length w.bits.items
word_width s t w e h = numbers_width s t (length w.bits.items) (sym (cell_kind s t (Word w) (integer_scalar t e) h))

pub word_some : (s : Source) (t : Ty) (w : Words) → is_integer t ≡ true → HasKindFor s Value t (Word w) → 0 < length w.bits.items
word_some s t w e h = subst (λ n. 0 < n) (word_width s t w e h) (bits_some s.widths t e)

pub word_small : (s : Source) (t : Ty) (w : Words) → is_integer t ≡ true → HasKindFor s Value t (Word w) → length w.bits.items ≤ 64
word_small s t w e h = subst (λ n. n ≤ 64) (word_width s t w e h) (bits_few s.widths t)

pub no_set : (s : Source) (t : Ty) (x : Sets) → is_integer t ≡ true → HasKindFor s Value t (Set x) → ⊥
no_set s t x e h = numbers_pointers (int_bits s.widths t) (sym (integer_kind s t e) ∙ sym (cell_kind s t (Set x) (integer_scalar t e) h))

pub no_empty : (s : Source) (t : Ty) → is_integer t ≡ true → HasKindFor s Value t Empty → ⊥
no_empty s t e h = numbers_none (int_bits s.widths t) (sym (integer_kind s t e) ∙ sym (cell_kind s t Empty (integer_scalar t e) h))

pub constant_low : (s : Source) (t : Ty) (n : ℕ) → fits_width s t n ≡ true → n < 2 ^ int_bits s.widths t
constant_low s t n e = ltb-true n (2 ^ int_bits s.widths t) e

-- Conversions.

or_second : (a b : Bool) → a ≡ false → a || b ≡ true → b ≡ true
or_second true b e h = absurd (true≢false e)
or_second false b e h = h

or_false : (b : Bool) → b ≡ true → b || false ≡ true
or_false true e = refl
or_false false e = e

pub convert_fits : (u t : Ty) → is_void t ≡ false → is_array u ≡ false → is_function u ≡ false → converts_to u t ≡ true → ConvertFits u t
convert_fits Bool' t v r f e = record { holds = or_false (is_scalar t) (or_second (is_void t) (is_scalar t) v e) }
convert_fits (Int k) t v r f e = record { holds = or_false (is_scalar t) (or_second (is_void t) (is_scalar t) v e) }
convert_fits (Ptr u) t v r f e = record { holds = or_second (is_void t) (is_pointer t || is_bool t) v e }
convert_fits (Array u n) t v r f e = absurd (true≢false r)
convert_fits (Func u known ts variadic) t v r f e = absurd (true≢false f)
convert_fits _ t v r f e = absurd (true≢false (sym (or_second (is_void t) false v e)))

converts_scalar : (u t : Ty) → is_void t ≡ false → is_array u ≡ false → is_function u ≡ false → converts_to u t ≡ true → is_scalar u ≡ true
converts_scalar Bool' t v r f e = refl
converts_scalar (Int k) t v r f e = refl
converts_scalar (Ptr u) t v r f e = refl
converts_scalar (Array u n) t v r f e = absurd (true≢false r)
converts_scalar (Func u known ts variadic) t v r f e = absurd (true≢false f)
converts_scalar _ t v r f e = absurd (true≢false (sym (or_second (is_void t) false v e)))

pub converts_kind : (s : Source) (u t : Ty) (x : Val) → is_void t ≡ false → is_array u ≡ false → is_function u ≡ false → converts_to u t ≡ true
    → HasKindFor s Value u x → val_kind x ≡ kind_of_type s (Some u)
converts_kind s u t x v r f e h = cell_kind s u x (converts_scalar u t v r f e) h

void_gives : (s : Source) (v : ℕ → Bool) (from to : Ty) (p : Layout) (bits : List Bool) (temps : List Cell) (turn : ℕ) (c : Cell) → is_void to ≡ true
    → Meets v Empty (convert (env_of s p bits temps turn) from to c)
void_gives s v from Void p bits temps turn (Number w n) e = tt
void_gives s v from Void p bits temps turn (Pointer q) e = tt
void_gives s v from Void p bits temps turn Nothing e = tt
void_gives s v from _ p bits temps turn c e = absurd (true≢false (sym e))

pub converts_void : (s : Source) (ns : List Node) (from to : Ty) (x : Val) → is_void to ≡ true → Converts s ns from to x Empty
converts_void s ns from to x e =
    record {
      below = omega arith;
      kind = λ some. absurd (true≢false (sym e ∙ some));
      value = λ choice v runs p bits temps turn c m. void_gives s v from to p bits temps turn c e;
    }

pub converts_value : (s : Source) (ns : List Node) (from to : Ty) (x r : Val) → is_void to ≡ false → is_array from ≡ false → is_function from ≡ false
    → converts_to from to ≡ true → IsConverted s ns from to x r → Converts s ns from to x r
converts_value s ns from to x r v array f e h =
    record {
      below = h.below;
      kind = λ some. h.kind ∙ sym (kind_is to (becomes_scalar from to v array f e));
      value = λ choice w runs p bits temps turn c m. h.value choice w runs p bits temps turn c m;
    }
  where
    kind_is : (t : Ty) → is_scalar t ≡ true → (if is_scalar t then kind_of_type s (Some t) else Pointers) ≡ kind_of_type s (Some t)
    kind_is t e = ap (λ b. if b then kind_of_type s (Some t) else Pointers) e

    bool_scalar : (t : Ty) → is_pointer t || is_bool t ≡ true → is_scalar t ≡ true
    bool_scalar Bool' e = refl
    bool_scalar (Int k) e = refl
    bool_scalar (Ptr t) e = refl
    bool_scalar _ e = absurd (true≢false (sym e))

    becomes_scalar : (u t : Ty) → is_void t ≡ false → is_array u ≡ false → is_function u ≡ false → converts_to u t ≡ true → is_scalar t ≡ true
    becomes_scalar Bool' t v r f e = or_second (is_void t) (is_scalar t) v e
    becomes_scalar (Int k) t v r f e = or_second (is_void t) (is_scalar t) v e
    becomes_scalar (Ptr u) t v r f e = bool_scalar t (or_second (is_void t) (is_pointer t || is_bool t) v e)
    becomes_scalar (Array u n) t v r f e = absurd (true≢false r)
    becomes_scalar (Func u known ts variadic) t v r f e = absurd (true≢false f)
    becomes_scalar _ t v r f e = absurd (true≢false (sym (or_second (is_void t) false v e)))

-- a function is told by the pointer to it

function_becomes : (u t : Ty) → is_function u ≡ true → is_void t ≡ false → converts_to u t ≡ true → is_pointer t || is_bool t ≡ true
function_becomes (Func u known ts variadic) t f v e = or_second (is_void t) (is_pointer t || is_bool t) v e
function_becomes _ t f v e = absurd (true≢false (sym f))

function_kind : (s : Source) (u : Ty) (x : Val) → is_function u ≡ true → HasKindFor s Value u x → val_kind x ≡ Pointers
function_kind s (Func u known ts variadic) x f h = h refl
function_kind s _ x f h = absurd (true≢false (sym f))

truth_gives : (s : Source) (v : ℕ → Bool) (from to : Ty) (r x : Val) (p : Layout) (bits : List Bool) (temps : List Cell) (turn : ℕ) (c : Cell) → is_bool to ≡ true
    → val_kind x ≡ Pointers → Meets v x c → Meets v r (Number 1 (truth (is_true c))) → Meets v r (convert (env_of s p bits temps turn) from to c)
truth_gives s v from Bool' r (Set x) p bits temps turn (Pointer q) e k m h = h
truth_gives s v from Bool' r (Set x) p bits temps turn (Number w n) e k m h = absurd m
truth_gives s v from Bool' r (Set x) p bits temps turn Nothing e k m h = absurd m
truth_gives s v from Bool' r (Word x) p bits temps turn c e k m h = absurd (cc)
truth_gives s v from Bool' r Empty p bits temps turn c e k m h = absurd (cc)
truth_gives s v from _ r x p bits temps turn c e k m h = absurd (true≢false (sym e))

pub function_truth : (s : Source) (n1 n2 : List Node) (from to : Ty) (x r : Val) (gate : ℕ) → is_function from ≡ true → is_bool to ≡ true
    → HasKindFor s Value from x → IsTruth n1 x gate → IsTruthOf n1 gate 1 r → Converts s n1 from to x r
function_truth s n1 n2 from to x r gate f b kind some made =
    record {
      below = made.below;
      kind = λ blank. made.kind ∙ sym (bool_is to b);
      value = λ choice v runs p bits temps turn c m.
          truth_gives s v from to r x p bits temps turn c b (function_kind s from x f kind) m
          (subst (λ z. Meets v r (Number 1 (truth z))) (some.value choice v runs c m) (made.value choice v runs));
    }
  where
    bool_is : (t : Ty) → is_bool t ≡ true → (if is_scalar t then kind_of_type s (Some t) else Pointers) ≡ Numbers 1
    bool_is Bool' e = refl
    bool_is _ e = absurd (true≢false (sym e))

pointer_gives : (s : Source) (v : ℕ → Bool) (from to : Ty) (x r : Val) (p : Layout) (bits : List Bool) (temps : List Cell) (turn : ℕ) (c : Cell) → is_pointer to ≡ true
    → val_kind x ≡ Pointers → Meets v x c → Meets v r c → Meets v r (convert (env_of s p bits temps turn) from to c)
pointer_gives s v from (Ptr t) (Set x) r p bits temps turn (Pointer q) e k m h = h
pointer_gives s v from (Ptr t) (Set x) r p bits temps turn (Number w n) e k m h = absurd m
pointer_gives s v from (Ptr t) (Set x) r p bits temps turn Nothing e k m h = absurd m
pointer_gives s v from (Ptr t) (Word x) r p bits temps turn c e k m h = absurd (cc)
pointer_gives s v from (Ptr t) Empty r p bits temps turn c e k m h = absurd (cc)
pointer_gives s v from _ x r p bits temps turn c e k m h = absurd (true≢false (sym e))

pub function_pointer : (s : Source) (ns : List Node) (from to : Ty) (x r : Val) → is_function from ≡ true → is_void to ≡ false → is_bool to ≡ false
    → converts_to from to ≡ true → HasKindFor s Value from x → val_top x ≤ length ns → IsSame x r → Converts s ns from to x r
function_pointer s ns from to x r f v b e kind top same =
    let pointer : is_pointer to ≡ true = or_first (is_pointer to) (is_bool to) b (function_becomes from to f v e) in
    record {
      below = omega (arith, same.top, top);
      kind = λ blank. same.kind ∙ function_kind s from x f kind ∙ sym (pointer_is to pointer);
      value = λ choice w runs p bits temps turn c m.
          pointer_gives s w from to x r p bits temps turn c pointer (function_kind s from x f kind) m (same.value w c m);
    }
  where
    or_first : (a b : Bool) → b ≡ false → a || b ≡ true → a ≡ true
    or_first true b e h = refl
    or_first false b e h = absurd (true≢false (sym h ∙ e))

    pointer_is : (t : Ty) → is_pointer t ≡ true → (if is_scalar t then kind_of_type s (Some t) else Pointers) ≡ Pointers
    pointer_is (Ptr t) e = refl
    pointer_is _ e = absurd (true≢false (sym e))
