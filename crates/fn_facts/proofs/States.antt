-- States of locations, and the entry bits as a number.
use Rattle.std.proofs.Common.{◌≡◌, ℕ, zero, suc, ◌+◌, ◌-◌, ◌*◌, ◌<◌, ◌≤◌, ◌^◌, ◌%◌, ◌⊎◌, inr, nat_eq, nat_le, Bool, true, false, List, [], ◌∷◌, ◌++◌, length, inl, refl, sym, ◌∙◌, ap, arith, length-append, drop, get_or}
use Rattle.std.specs.Prelude.{Some, None, if◌then◌else◌}
use Rattle.std.proofs.lemmas.Bool.{cases_eq, eq-eqb, ne_eqb}
use Rattle.bit_net.specs.declared.nodes.Gate.{Gate}
use Rattle.bit_net.specs.declared.nodes.Node.{Node}
use Rattle.bit_net.specs.Runs.{Grown, Gives}
use Rattle.bit_words.specs.Number.{bit, number, top}
use Rattle.bit_words.specs.Spells.{Spells}
use Rattle.bit_words.proofs.NumberLemmas.{number-nil, number-push, top-nil, top-push}
use Rattle.fsm_spec.specs.Table.{state_of_number, bits_of_states}
use Rattle.gl_store.specs.Steps.{IsNumberAt, number_in}
use Rattle.run_store.specs.Concrete.{Cell, Number, Pointer, Nothing, nth_cell}
use Rattle.sc_world.specs.Layout.{location}
use Rattle.sc_world.specs.Tree.{Ty}
use Rattle.sc_world.specs.World.{bit_at, number_at, number_of, digit, is_true, entry_state_at, states}
use Rattle.sc_world.specs.Shows.{Over, bits_number, entry_params_from, param_cell}
use Rattle.sc_typed.specs.declared.program.Param.{Param}
use Rattle.sc_world.specs.Programs.{types_of}
use Rattle.sc_world.specs.View.{type}
use Rattle.layout_base.specs.Seen.{ground_of}
use Rattle.run_world.specs.declared.pointers.Here.{Here}
use Rattle.run_world.specs.Seen.{env}
use Rattle.gate_entry.specs.Entry.{IsNumber}
use Rattle.fn_facts.specs.declared.around.Around.{Around}
use Rattle.fn_facts.specs.Seen.{over, has_bit, bits_from, given, is_given, state_before, state_now}
use Rattle.fn_facts.specs.Showing.{BitsSoFar, IsReady, Shows, ShowsNumber, ShowsNumberAtExit}

-- The state at entry.

pub any_shown : (a : Around) (ns : List Node) (at : ℕ) (word : List Gate) → (location (env a.here).layout at).state ≡ None
    → Spells ns word 4 (λ v. 15 % 2 ^ 4) → ShowsNumber a ns (λ o. state_before o at) word
unfolding state_before
any_shown a ns at word none spells =
    record {
      below = spells.below;
      value = λ bits v r w runs t.
          spells.value (bit_at bits) v runs ∙ sym (ap (entry_state_at (env a.here).source bits) none);
    }

pub named_shown : (a : Around) (old ns : List Node) (at b width count : ℕ) (name word : List Gate) → (location (env a.here).layout at).state ≡ Some b
    → width ≡ bits_of_states (states (env a.here).source) → count ≡ states (env a.here).source → Grown old ns
    → IsNumber (env a.here).layout old b width name → Spells ns word 4 (λ v. state_of_number count (number v name))
    → ShowsNumber a ns (λ o. state_before o at) word
unfolding state_before
named_shown a old ns at b width count name word some wide all grown is spells =
    record {
      below = spells.below;
      value = λ bits v r w runs t.
          (let before = grown.runs (bit_at bits) v runs in
          spells.value (bit_at bits) v runs
          ∙ (ap (state_of_number count) (is.value bits v before (inl t.few))
          ∙ (ap (λ n. state_of_number n (number_at bits b width)) all
          ∙ (ap (λ n. state_of_number (states (env a.here).source) (number_at bits b n)) wide
          ∙ sym (ap (entry_state_at (env a.here).source bits) some)))));
    }

-- The state at the end.

number_is_in : (c : Cell) → number_in c ≡ number_of c
number_is_in (Number width n) = refl
number_is_in (Pointer t) = refl
number_is_in Nothing = refl

pub now_shown : (a : Around) (ns : List Node) (at k : ℕ) (word : List Gate) → IsReady a ns → k ≡ length (env a.here).layout.locations + at
    → IsNumberAt a.encoded.now.store.locations.items k word → ShowsNumberAtExit a ns (λ o. state_now o at) word
unfolding state_now
now_shown a ns at k word ready place is =
    record {
      below = omega (arith, is.below, ready.store);
      value = λ bits v c w runs t.
          is.value v w.places t.tells.1
          ∙ (number_is_in (nth_cell w.places k) ∙ ap (λ n. number_of (nth_cell w.places n)) place);
    }

-- The entry bits, one parameter after another.

bits_all : (o : Over) → bits_from o 0 3 0 o.source.params ≡ given o
unfolding bits_from given
bits_all o = refl

bits_in : (o : Over) (n left k : ℕ) (t : Ty) (ts : List Ty) → 0 < left → has_bit t ≡ true
    → bits_from o n left k (t ∷ ts) ≡ bits_from o (2 * n + digit (is_given o k)) (left - 1) (k + 1) ts
unfolding bits_from is_given
bits_in o n zero k t ts low e = absurd (omega arith)
bits_in o n (suc left) k t ts low e =
    let same : left ≡ suc left - 1 = omega arith in
    ap (λ b. bits_number o n (if b then k ∷ entry_params_from left (k + 1) ts else entry_params_from (suc left) (k + 1) ts)) e
    ∙ ap (λ m. bits_number o (2 * n + digit (is_true (param_cell o k))) (entry_params_from m (k + 1) ts)) same

bits_out : (o : Over) (n left k : ℕ) (t : Ty) (ts : List Ty) → has_bit t ≡ false → bits_from o n left k (t ∷ ts) ≡ bits_from o n left (k + 1) ts
unfolding bits_from
bits_out o n zero k t ts e = refl
bits_out o n (suc left) k t ts e =
    ap (λ b. bits_number o n (if b then k ∷ entry_params_from left (k + 1) ts else entry_params_from (suc left) (k + 1) ts)) e

bits_read : (o : Over) (n left k : ℕ) (ts : List Ty) → left ≡ 0 → bits_from o n left k ts ≡ n
unfolding bits_from
bits_read o n zero k ts e = refl
bits_read o n (suc left) k ts e = absurd (omega (arith, e))

bits_none : (o : Over) (n left k : ℕ) → bits_from o n left k [] ≡ n
unfolding bits_from
bits_none o n zero k = refl
bits_none o n (suc left) k = refl

digit_is : (b : Bool) → bit b ≡ digit b
digit_is true = refl
digit_is false = refl

pub bits_begin : (a : Around) (ns : List Node) (ts : List Ty) (word : List Gate) → word ≡ [] → ts ≡ (env a.here).source.params
    → BitsSoFar a ns 0 ts word
bits_begin a ns ts word e all =
    record {
      few = omega (arith, ap length e);
      below = omega (arith, ap top e, top-nil);
      value = λ bits v r w runs t.
          (let o = over a bits r w in
          ap (λ gs. bits_from o (number v gs) (3 - length gs) 0 ts) e
          ∙ (ap (λ n. bits_from o n 3 0 ts) (number-nil v) ∙ (ap (bits_from o 0 3 0) all ∙ bits_all o)));
    }

pub bits_more : (a : Around) (old ns : List Node) (k : ℕ) (y : Ty) (ts : List Ty) (word new : List Gate) (one : Gate) → length word < 3
    → has_bit y ≡ true → Grown old ns → new ≡ word ++ one ∷ [] → Shows a ns (λ o. is_given o k) one.at → BitsSoFar a old k (y ∷ ts) word
    → BitsSoFar a ns (k + 1) ts new
bits_more a old ns k y ts word new one low has grown pushed s so_far =
    let wide : length new ≡ length word + 1 = ap length pushed ∙ length-append word (one ∷ []) in
    record {
      few = omega (arith, wide, low);
      below = omega (arith, ap top pushed, top-push word one, s.below, so_far.below, grown.longer);
      value = λ bits v r w runs t.
          (let o = over a bits r w in
          let before = grown.runs (bit_at bits) v runs in
          let left : 3 - length new ≡ 3 - length word - 1 = omega (arith, wide) in
          let more : 0 < 3 - length word = omega (arith, low) in
          let now : number v new ≡ 2 * number v word + digit (is_given o k) =
          ap (number v) pushed ∙ (number-push v word one
          ∙ ap (λ b. 2 * number v word + b) (ap bit (s.value bits v r w runs t) ∙ digit_is (is_given o k))) in
          ap (λ n. bits_from o n (3 - length new) (k + 1) ts) now
          ∙ (ap (λ m. bits_from o (2 * number v word + digit (is_given o k)) m (k + 1) ts) left
          ∙ (sym (bits_in o (number v word) (3 - length word) k y ts more has) ∙ so_far.value bits v r w before t)));
    }

pub bits_skip : (a : Around) (ns : List Node) (k : ℕ) (y : Ty) (ts : List Ty) (word : List Gate) → has_bit y ≡ false → BitsSoFar a ns k (y ∷ ts) word
    → BitsSoFar a ns (k + 1) ts word
bits_skip a ns k y ts word without so_far =
    record {
      few = so_far.few;
      below = so_far.below;
      value = λ bits v r w runs t.
          sym (bits_out (over a bits r w) (number v word) (3 - length word) k y ts without) ∙ so_far.value bits v r w runs t;
    }

pub bits_full : (a : Around) (ns : List Node) (k j : ℕ) (ts us : List Ty) (word : List Gate) → 3 ≤ length word → BitsSoFar a ns k ts word
    → BitsSoFar a ns j us word
bits_full a ns k j ts us word full so_far =
    record {
      few = so_far.few;
      below = so_far.below;
      value = λ bits v r w runs t.
          (let o = over a bits r w in
          let none : 3 - length word ≡ 0 = omega (arith, full) in
          bits_read o (number v word) (3 - length word) j us none
          ∙ (sym (bits_read o (number v word) (3 - length word) k ts none) ∙ so_far.value bits v r w runs t));
    }

pub bits_done : (a : Around) (ns : List Node) (k : ℕ) (ts : List Ty) (word : List Gate) → ts ≡ [] → BitsSoFar a ns k ts word
    → ShowsNumber a ns given word
bits_done a ns k ts word none so_far =
    record {
      below = so_far.below;
      value = λ bits v r w runs t.
          (let o = over a bits r w in
          sym (ap (bits_from o (number v word) (3 - length word) k) none ∙ bits_none o (number v word) (3 - length word) k)
          ∙ so_far.value bits v r w runs t);
    }

-- the parameters of a function, one after another
pub params_of : (h : Here) (ts : List Ty) → ts ≡ (ground_of h.ground).source.params → ts ≡ (env h).source.params
unfolding env
params_of h ts e = e

pub param_first : (ps : List Param) (i : ℕ) (x : Param) → i < length ps → x ≡ get_or ps i x
    → types_of (drop i ps) ≡ type x.ctype ∷ types_of (drop (i + 1) ps)
param_first [] i x low e = absurd (omega (arith, low))
param_first (p ∷ ps) zero x low e = ap (λ y. type y.ctype ∷ types_of ps) (sym e)
param_first (p ∷ ps) (suc i) x low e =
    let next : suc (i + 1) ≡ suc i + 1 = omega arith in
    param_first ps i x (omega (arith, low)) e ∙ ap (λ n. type x.ctype ∷ types_of (drop n (p ∷ ps))) next

-- Bits of a state.

bits_by : (a b : Bool) → (0 < (if a then 1 else (if b then 2 else 3))) × ((if a then 1 else (if b then 2 else 3)) ≤ 3)
bits_by true b = (omega arith, omega arith)
bits_by false true = (omega arith, omega arith)
bits_by false false = (omega arith, omega arith)

pub some_bits : (n : ℕ) → 0 < bits_of_states n
some_bits n = (bits_by (nat_le n 2) (nat_le n 4)).0

pub few_bits : (n : ℕ) → bits_of_states n ≤ 3
few_bits n = (bits_by (nat_le n 2) (nat_le n 4)).1

swapped : (m n : ℕ) → nat_eq m n ≡ nat_eq n m
swapped m n = by (cases_eq m n)
  where
    by : (m ≡ n) ⊎ (m ≡ n → ⊥) → nat_eq m n ≡ nat_eq n m
    by (inl e) = eq-eqb m n e ∙ sym (eq-eqb n m (sym e))
    by (inr d) = ne_eqb m n d ∙ sym (ne_eqb n m (λ e. d (sym e)))

pub number_swapped : (ns : List Node) (g n : ℕ) (word : List Gate) → Gives ns g (λ choice v. nat_eq (number v word) n)
    → Gives ns g (λ choice v. nat_eq n (number v word))
number_swapped ns g n word gives =
    record { below = gives.below; value = λ choice v runs. gives.value choice v runs ∙ swapped (number v word) n }

pub ruleset bits_laws = (some_bits, few_bits)

pub ruleset before_laws = (any_shown, named_shown)
