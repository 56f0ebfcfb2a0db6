-- Values that are made, and the truth of values.
use Rattle.std.proofs.Common.{◌≡◌, ℕ, ◌<◌, ◌%◌, ◌^◌, Bool, true, false, not, nat_eq, List, refl, ◌∙◌, ap}
use Rattle.std.proofs.Math.Nat.{mod-eq_of_lt}
use Rattle.bit_net.specs.declared.nodes.Node.{Node}
use Rattle.bit_net.specs.Runs.{Grown, Gives, Always}
use Rattle.bit_words.specs.Number.{bit, number}
use Rattle.bit_words.specs.Spells.{Spells}
use Rattle.bit_words.specs.declared.Word.{Word as Words}
use Rattle.gl_sets.specs.declared.sets.Set.{Set as Sets}
use Rattle.gl_sets.specs.Guards.{Points, guard}
use Rattle.gl_sets.specs.Sets.{IsGood}
use Rattle.gl_sets.proofs.PointLemmas.{guard-points}
use Rattle.gl_store.specs.declared.values.Val.TheVariants.{Word, Set, Unit as Empty}
use Rattle.gl_store.specs.Meets.{Meets}
use Rattle.run_store.specs.Concrete.{Cell, Number, Pointer, Nothing, Numbers}
use Rattle.sc_typed.specs.Arith.{truth}
use Rattle.sc_world.specs.World.{is_true}
use Rattle.gate_values.specs.Values.{IsNumber, IsPointer, IsTruth, IsTruthOf}

word_true : (v : ℕ → Bool) (w : Words) (c : Cell) (g : Bool) → Meets v (Word w) c → g ≡ not (nat_eq (number v w.bits.items) 0) → g ≡ is_true c
word_true v w (Number width n) g m is = is ∙ ap (λ k. not (nat_eq k 0)) m.value
word_true v w _ g m is = absurd m

pub word_truth : (ns mid : List Node) (w : Words) (none some : ℕ) → Grown mid ns → Gives mid none (λ choice v. nat_eq (number v w.bits.items) 0)
    → Gives ns some (λ choice v. not (v none)) → IsTruth ns (Word w) some
word_truth ns mid w none some grown is_zero is_not =
    record {
      below = is_not.below;
      value = λ choice v runs c m.
          word_true v w c (v some) m (is_not.value choice v runs ∙ ap not (is_zero.value choice v (grown.runs choice v runs)));
    }

set_true : (v : ℕ → Bool) (s : Sets) (c : Cell) (g : Bool) → Meets v (Set s) c → g ≡ not (guard v s.pairs.items 0) → g ≡ is_true c
set_true v s (Pointer t) g m is = is ∙ ap not (guard-points v s.pairs.items t 0 m)
set_true v s _ g m is = absurd m

pub set_truth : (ns mid : List Node) (s : Sets) (null some : ℕ) → Grown mid ns → Gives mid null (λ choice v. guard v s.pairs.items 0)
    → Gives ns some (λ choice v. not (v null)) → IsTruth ns (Set s) some
set_truth ns mid s null some grown is_null is_not =
    record {
      below = is_not.below;
      value = λ choice v runs c m.
          set_true v s c (v some) m (is_not.value choice v runs ∙ ap not (is_null.value choice v (grown.runs choice v runs)));
    }

none_true : (v : ℕ → Bool) (c : Cell) (g : Bool) → Meets v Empty c → g ≡ false → g ≡ is_true c
none_true v Nothing g m is = is
none_true v _ g m is = absurd m

pub never_true : (ns : List Node) (never : ℕ) → Gives ns never (λ choice v. false) → IsTruth ns Empty never
never_true ns never is =
    record {
      below = is.below;
      value = λ choice v runs c m. none_true v c (v never) m (is.value choice v runs);
    }

pub bit_truth : (b : Bool) → bit b ≡ truth b
bit_truth true = refl
bit_truth false = refl

pub truth_word : (ns : List Node) (w : Words) (gate bits : ℕ) → Spells ns w.bits.items bits (λ v. bit (v gate)) → IsTruthOf ns gate bits (Word w)
truth_word ns w gate bits is =
    record {
      below = is.below;
      kind = ap Numbers is.wide;
      value = λ choice v runs. record { wide = is.wide; value = is.value choice v runs ∙ bit_truth (v gate) };
    }

pub number_word : (ns : List Node) (w : Words) (n bits : ℕ) → n < 2 ^ bits → Spells ns w.bits.items bits (λ v. n % 2 ^ bits) → IsNumber ns n bits (Word w)
number_word ns w n bits low is =
    record {
      below = is.below;
      kind = ap Numbers is.wide;
      value = λ choice v runs. record { wide = is.wide; value = is.value choice v runs ∙ mod-eq_of_lt low };
    }

pub one_target : (ns : List Node) (s : Sets) (t : ℕ) → IsGood ns s.pairs.items → Always ns (λ choice v. Points v s.pairs.items t) → IsPointer ns t (Set s)
one_target ns s t good points =
    record {
      below = good.below;
      kind = refl;
      value = λ choice v runs. points.holds choice v runs;
    }
