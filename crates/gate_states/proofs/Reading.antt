-- The state of the location of the pair whose guard holds.
use Rattle.std.proofs.Common.{◌≡◌, ℕ, zero, suc, ◌+◌, ◌-◌, ◌*◌, ◌%◌, ◌^◌, ◌<◌, ◌≤◌, Bool, true, false, if◌then◌else◌, List, [], ◌∷◌, ◌++◌, length, take, get_or, Ok, refl, sym, ◌∙◌, ap, subst, arith, length-append}
use Rattle.std.specs.Prelude.{Some}
use Rattle.std.proofs.lemmas.List.{take_all}
use Rattle.std.proofs.Math.Nat.{mod-eq_of_lt}
use Rattle.std.proofs.lemmas.Nat.{pow_pos}
use Rattle.bit_net.specs.declared.nodes.Gate.{Gate}
use Rattle.bit_net.specs.declared.nodes.Node.{Node}
use Rattle.bit_net.specs.Runs.{Runs, Grown}
use Rattle.bit_words.specs.Number.{number, top}
use Rattle.bit_words.specs.Spells.{Spells}
use Rattle.bit_words.proofs.NumberLemmas.{number-append, top-append}
use Rattle.gl_sets.specs.declared.pairs.Pair.{Pair}
use Rattle.gl_sets.specs.Guards.{Points, held}
use Rattle.gl_sets.proofs.GuardLemmas.{held-nil, held-take}
use Rattle.gl_store.specs.declared.stores.Location.{Location}
use Rattle.gl_store.specs.Meets.{MeetsAll, locations_top}
use Rattle.gl_store.specs.Steps.{IsNumberAt, number_in}
use Rattle.run_store.specs.Concrete.{Cell, Number, Pointer, Nothing, Place, nth_cell}
use Rattle.sc_world.specs.Source.{Source}
use Rattle.sc_world.specs.Layout.{Layout}
use Rattle.sc_world.specs.World.{World, Run, Env, number_of, state_of}
use Rattle.gate_runs.specs.declared.ends.Ends.{Ends}
use Rattle.gate_runs.specs.Standing.{Standing, On, Over, stand, after}
use Rattle.gate_runs.specs.Stands.{Stands, Does, Any}
use Rattle.gate_places.specs.Places.{env_of}
use Rattle.gate_states.specs.States.{HasStateWhere, HasStates, IsStateBefore, state_in, state_where}

-- A step that only reads.

reads_from : {A : Type 0} (v : ℕ → Bool) (l : List Location) (g : Ends) (m : Run A) (give : World → A) (Good : A → Type 0)
    → ((w : World) → m w ≡ (Ok (give w), w)) → ((w : World) → MeetsAll v l w.places → Good (give w))
    → (s : Standing (Unit {0})) → Stands v l g (Any {A = Unit {0}}) s → Stands v l g Good (after s (λ u. m))
reads_from v l g m give Good is good (On u w) h =
    subst (λ r. Stands v l g Good (stand r)) (sym (is w))
    (record {
      store = h.store;
      tells = record { live = h.tells.live; asides = h.tells.asides; bads = h.tells.bads };
      given = give w;
      good = good w h.store;
      is = refl;
    })
reads_from v l g m give Good is good (Over e w) h =
    record {
      store = h.store;
      tells = record { live = h.tells.live; asides = h.tells.asides; bads = h.tells.bads };
      given = give w;
      good = good w h.store;
      is = tt;
    }

pub does_read : {A : Type 0} (v : ℕ → Bool) (l : List Location) (g : Ends) (m : Run A) (give : World → A) (Good : A → Type 0)
    → ((w : World) → m w ≡ (Ok (give w), w)) → ((w : World) → MeetsAll v l w.places → Good (give w)) → Does v l g m l g Good
does_read v l g m give Good is good = record { does = λ s h. reads_from v l g m give Good is good s h }

-- Words of more bits.

no_more : (n k : ℕ) → 0 % 2 ^ n * k + 0 ≡ 0
no_more n k = ap (λ m. m * k + 0) (mod-eq_of_lt (pow_pos n)) ∙ omega arith

pub is_widened : (ns : List Node) (zeros bits word : List Gate) (width more : ℕ) → top bits ≤ length ns → more ≡ width - length bits
    → Spells ns zeros more (λ v. 0 % 2 ^ more) → word ≡ zeros ++ bits → Spells ns word (width - length bits + length bits) (λ v. number v bits)
is_widened ns zeros bits word width more below same is e =
    record {
      wide = ap length e ∙ length-append zeros bits ∙ ap (λ n. n + length bits) (is.wide ∙ same);
      below = omega (arith, ap top e, top-append zeros bits, is.below, below);
      value = λ choice v runs.
          let none : number v zeros ≡ 0 = is.value choice v runs ∙ mod-eq_of_lt (pow_pos more) in
          ap (number v) e ∙ number-append v zeros bits ∙ ap (λ n. n * 2 ^ length bits + number v bits) none ∙ omega arith;
    }

pub is_chosen : (n1 ns : List Node) (c : ℕ) (a b long other word : List Gate) → Grown n1 ns
    → Spells n1 long (length b - length a + length a) (λ v. number v a) → Spells n1 other (length a - length b + length b) (λ v. number v b)
    → Spells ns word (length long) (λ v. if v c then number v long else number v other)
    → Spells ns word (length a - length b + length b) (λ v. if v c then number v a else number v b)
is_chosen n1 ns c a b long other word grown first second is =
    record {
      wide = is.wide ∙ first.wide ∙ omega arith;
      below = is.below;
      value = λ choice v runs.
          let r1 = grown.runs choice v runs in
          is.value choice v runs ∙ ap (λ n. if v c then n else number v other) (first.value choice v r1)
          ∙ ap (λ n. if v c then number v a else n) (second.value choice v r1);
    }

-- One pair.

same_number : (c : Cell) → number_in c ≡ number_of c
same_number (Number w n) = refl
same_number (Pointer t) = refl
same_number Nothing = refl

pub null_where : (p : Layout) (ns : List Node) (l : List Location) (pair : Pair) (old new : List Gate) → pair.target ≡ 0 → top old ≤ length ns → new ≡ old
    → HasStateWhere p ns l pair old new
null_where p ns l pair old new e below same =
    record {
      below = omega (arith, ap top same, below);
      value = λ choice v runs ps met.
          ap (number v) same ∙ ap (λ t. state_where p ps (v pair.guard.at) t (number v old)) (sym e);
    }

at_target : (p : Layout) (ps : List Place) (b : Bool) (target at n : ℕ) → target ≡ at + 1 → (if b then state_in p ps at else n) ≡ state_where p ps b target n
at_target p ps b zero at n e = absurd (omega (arith, e))
at_target p ps b (suc k) at n e = ap (λ j. if b then state_in p ps j else n) (omega (arith, e))

pub there_where : (p : Layout) (ns : List Node) (l : List Location) (pair : Pair) (at cell width : ℕ) (bits old' old new : List Gate) → pair.target ≡ at + 1
    → cell ≡ length p.locations + at → IsNumberAt l cell bits → old' ≡ old → Spells ns new width (λ v. if v pair.guard.at then number v bits else number v old')
    → HasStateWhere p ns l pair old new
there_where p ns l pair at cell width bits old' old new e here is same spells =
    record {
      below = spells.below;
      value = λ choice v runs ps met.
          spells.value choice v runs
          ∙ ap (λ bs. if v pair.guard.at then number v bits else number v bs) same
          ∙ ap (λ n. if v pair.guard.at then n else number v old) (is.value v ps met ∙ same_number (nth_cell ps cell) ∙ ap (λ k. number_of (nth_cell ps k)) here)
          ∙ at_target p ps (v pair.guard.at) pair.target at (number v old) e;
    }

-- The pairs so far.

not_both : (xs : List ℕ) (x y : ℕ) → xs ++ x ∷ [] ≡ y ∷ [] → x ≡ y
not_both [] x y e = cc
not_both (z ∷ []) x y e = cc
not_both (z ∷ u ∷ xs) x y e = cc

pub states_none : (p : Layout) (ns : List Node) (l : List Location) (pairs : List Pair) (word : List Gate) → top word ≤ length ns
    → HasStates p ns l (take 0 pairs) word
states_none p ns l pairs word below =
    record { below = below; value = λ choice v runs ps met at one. absurd (no_one at (sym (held-nil v) ∙ one)) }
  where
    no_one : (at : ℕ) → [] ≡ suc at ∷ [] → ⊥
    no_one at e = cc

next_is : (p : Layout) (ps : List Place) (b : Bool) (before : List ℕ) (target at n : ℕ) → (if b then before ++ target ∷ [] else before) ≡ suc at ∷ []
    → (before ≡ suc at ∷ [] → n ≡ state_in p ps at) → state_where p ps b target n ≡ state_in p ps at
next_is p ps true before target at n e rest = ap (λ t. state_where p ps true t n) (not_both before target (suc at) e)
next_is p ps false before zero at n e rest = rest e
next_is p ps false before (suc k) at n e rest = rest e

pub states_step : (p : Layout) (n1 n2 : List Node) (l : List Location) (pairs : List Pair) (i : ℕ) (d : Pair) (old new : List Gate) → i < length pairs
    → Grown n1 n2 → HasStates p n1 l (take i pairs) old → HasStateWhere p n2 l (get_or pairs i d) old new → HasStates p n2 l (take (i + 1) pairs) new
states_step p n1 n2 l pairs i d old new low grown before is =
    record {
      below = is.below;
      value = λ choice v runs ps met at one.
          is.value choice v runs ps met
          ∙ next_is p ps (v (get_or pairs i d).guard.at) (held v (take i pairs)) (get_or pairs i d).target at (number v old)
          (sym (held-take v pairs i d low) ∙ one) (before.value choice v (grown.runs choice v runs) ps met at);
    }

pub states_all : (p : Layout) (ns : List Node) (l : List Location) (pairs : List Pair) (i : ℕ) (word : List Gate) → length pairs ≤ i
    → HasStates p ns l (take i pairs) word → HasStates p ns l pairs word
states_all p ns l pairs i word high h = subst (λ ps. HasStates p ns l ps word) (take_all i pairs high) h

-- The state in a run.

pub is_before : (p : Layout) (ns : List Node) (l : List Location) (pairs : List Pair) (word : List Gate) → HasStates p ns l pairs word
    → IsStateBefore p ns l pairs word
is_before p ns l pairs word h =
    record {
      below = h.below;
      does = λ choice v runs at found gates s bits temps turn.
          does_read v l gates (state_of (env_of s p bits temps turn) at) (λ w. state_in p w.places at) (λ n. number v word ≡ n)
          (λ w. refl)
          (λ w met. h.value choice v runs w.places met at found.one);
      value = λ choice v runs ps met at found. h.value choice v runs ps met at found.one;
    }
