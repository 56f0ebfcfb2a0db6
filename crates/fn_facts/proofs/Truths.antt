-- Values that are neither 0 nor null, and what a function gives.
use Rattle.std.proofs.Common.{◌≡◌, ℕ, nat_eq, Bool, true, false, not, List, refl, sym, ◌∙◌, ap}
use Rattle.std.specs.Prelude.{if◌then◌else◌}
use Rattle.bit_net.specs.declared.nodes.Node.{Node}
use Rattle.bit_net.specs.Runs.{Grown, Gives}
use Rattle.bit_words.specs.declared.Word.{Word}
use Rattle.bit_words.specs.Number.{number}
use Rattle.gl_sets.specs.declared.pairs.Pair.{Pair}
use Rattle.gl_sets.specs.declared.sets.Set.{Set}
use Rattle.gl_sets.specs.Guards.{Points, guard}
use Rattle.gl_store.specs.declared.values.Val.TheVariants as val
use Rattle.gl_store.specs.Meets.{Meets}
use Rattle.run_store.specs.Concrete.{Cell, Number, Pointer, Nothing}
use Rattle.sum_rows.specs.declared.row.Gives.{Gives as Gift}
use Rattle.sum_rows.specs.declared.row.Gives.TheVariants as gift
use Rattle.sc_world.specs.Known.{same_gives}
use Rattle.sc_world.specs.Tree.{Ty}
use Rattle.sc_world.specs.Shows.{gives_of, result}
use Rattle.sc_world.specs.World.{bit_at, is_true}
use Rattle.run_world.specs.Seen.{env}
use Rattle.fn_facts.specs.declared.around.Around.{Around}
use Rattle.fn_facts.specs.Seen.{has_bit}
use Rattle.fn_facts.specs.Showing.{IsTruth, ShowsAtExit}

word_truth : (v : ℕ → Bool) (w : Word) (c : Cell) → Meets v (val.Word w) c → not (nat_eq (number v w.bits.items) 0) ≡ is_true c
word_truth v w (Number width n) m = ap (λ k. not (nat_eq k 0)) m.value
word_truth v w (Pointer t) m = absurd m
word_truth v w Nothing m = absurd m

pub word_shown : (old ns : List Node) (w : Word) (x g : ℕ) → Grown old ns → Gives old x (λ choice v. nat_eq (number v w.bits.items) 0)
    → Gives ns g (λ choice v. not (v x)) → IsTruth ns (val.Word w) g
word_shown old ns w x g grown z gives =
    record {
      below = gives.below;
      value = λ choice v runs c m.
          gives.value choice v runs ∙ (ap not (z.value choice v (grown.runs choice v runs)) ∙ word_truth v w c m);
    }

-- a set points to a target exactly where the guard of that target holds
pub AreGuards : Type 0
AreGuards = (v : ℕ → Bool) (ps : List Pair) (t u : ℕ) → Points v ps t → guard v ps u ≡ nat_eq t u

set_truth : AreGuards → (v : ℕ → Bool) (s : Set) (c : Cell) → Meets v (val.Set s) c → not (guard v s.pairs.items 0) ≡ is_true c
unfolding AreGuards
set_truth law v s (Number width n) m = absurd m
set_truth law v s (Pointer t) m = ap not (law v s.pairs.items t 0 m)
set_truth law v s Nothing m = absurd m

pub set_shown : AreGuards → (old ns : List Node) (s : Set) (null g : ℕ) → Grown old ns → Gives old null (λ choice v. guard v s.pairs.items 0)
    → Gives ns g (λ choice v. not (v null)) → IsTruth ns (val.Set s) g
set_shown law old ns s null g grown z gives =
    record {
      below = gives.below;
      value = λ choice v runs c m.
          gives.value choice v runs ∙ (ap not (z.value choice v (grown.runs choice v runs)) ∙ set_truth law v s c m);
    }

no_truth : (v : ℕ → Bool) (c : Cell) → Meets v val.Unit c → is_true c ≡ false
no_truth v (Number width n) m = absurd m
no_truth v (Pointer t) m = absurd m
no_truth v Nothing m = refl

pub unit_shown : (ns : List Node) (g : ℕ) → Gives ns g (λ choice v. false) → IsTruth ns val.Unit g
unit_shown ns g gives =
    record { below = gives.below; value = λ choice v runs c m. gives.value choice v runs ∙ sym (no_truth v c m) }

-- What a function gives.

gift_of : (y : Ty) (c : Cell) (b : Bool) → has_bit y ≡ b → gives_of y c ≡ (if b then (if is_true c then gift.NotZero else gift.Zero) else gift.Nothing)
gift_of y c b e = ap (λ k. if k then (if is_true c then gift.NotZero else gift.Zero) else gift.Nothing) e

zero_gift : (b : Bool) → same_gives gift.Zero (if b then gift.NotZero else gift.Zero) ≡ not b
zero_gift true = refl
zero_gift false = refl

not_zero_gift : (b : Bool) → same_gives gift.NotZero (if b then gift.NotZero else gift.Zero) ≡ b
not_zero_gift true = refl
not_zero_gift false = refl

no_gift : (b : Bool) → same_gives gift.Nothing (if b then gift.NotZero else gift.Zero) ≡ false
no_gift true = refl
no_gift false = refl

-- nothing, of a function that gives a cell
pub nothing_shown : (a : Around) (ns : List Node) (g : ℕ) → has_bit (env a.here).source.result ≡ true → Gives ns g (λ choice v. false)
    → ShowsAtExit a ns (λ o. same_gives gift.Nothing (result o)) g
nothing_shown a ns g cell made =
    record {
      below = made.below;
      value = λ bits v c w runs t.
          made.value (bit_at bits) v runs
          ∙ sym (ap (same_gives gift.Nothing) (gift_of (env a.here).source.result c true cell) ∙ no_gift (is_true c));
    }

pub zero_shown : (a : Around) (old ns : List Node) (x g : ℕ) → has_bit (env a.here).source.result ≡ true → Grown old ns
    → IsTruth old a.encoded.now.result x → Gives ns g (λ choice v. not (v x)) → ShowsAtExit a ns (λ o. same_gives gift.Zero (result o)) g
zero_shown a old ns x g cell grown truth made =
    record {
      below = made.below;
      value = λ bits v c w runs t.
          (let before = grown.runs (bit_at bits) v runs in
          made.value (bit_at bits) v runs
          ∙ (ap not (truth.value (bit_at bits) v before c t.tells.2)
          ∙ sym (ap (same_gives gift.Zero) (gift_of (env a.here).source.result c true cell) ∙ zero_gift (is_true c))));
    }

pub not_zero_shown : (a : Around) (ns : List Node) (g : ℕ) → has_bit (env a.here).source.result ≡ true → IsTruth ns a.encoded.now.result g
    → ShowsAtExit a ns (λ o. same_gives gift.NotZero (result o)) g
not_zero_shown a ns g cell truth =
    record {
      below = truth.below;
      value = λ bits v c w runs t.
          truth.value (bit_at bits) v runs c t.tells.2
          ∙ sym (ap (same_gives gift.NotZero) (gift_of (env a.here).source.result c true cell) ∙ not_zero_gift (is_true c));
    }

-- a function that gives none
pub none_shown : (a : Around) (ns : List Node) (wanted : Gift) (b : Bool) (g : ℕ) → has_bit (env a.here).source.result ≡ false
    → b ≡ same_gives wanted gift.Nothing → Gives ns g (λ choice v. b) → ShowsAtExit a ns (λ o. same_gives wanted (result o)) g
none_shown a ns wanted b g without is made =
    record {
      below = made.below;
      value = λ bits v c w runs t.
          made.value (bit_at bits) v runs
          ∙ (is ∙ sym (ap (same_gives wanted) (gift_of (env a.here).source.result c false without)));
    }

pub ruleset truth_laws = (word_shown, set_shown, unit_shown)

pub ruleset gift_laws = (nothing_shown, zero_shown, not_zero_shown, none_shown)
