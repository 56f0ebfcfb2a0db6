-- The pointer that a value is, and the value that an operation gives.
use Rattle.std.proofs.Common.{◌≡◌, ℕ, ◌%◌, ◌^◌, ◌≤◌, Bool, true, false, if◌then◌else◌, List, length, refl, sym, ◌∙◌, ap, subst, arith}
use Rattle.std.proofs.Math.Nat.{mod-eq_of_lt}
use Rattle.std.proofs.lemmas.Nat.{pow_pos}
use Rattle.bit_net.specs.declared.nodes.Node.{Node}
use Rattle.bit_net.specs.Runs.{Always}
use Rattle.bit_words.specs.declared.Word.{Word as Words}
use Rattle.bit_words.specs.Number.{number}
use Rattle.bit_words.specs.Spells.{Spells}
use Rattle.gl_sets.specs.declared.pairs.Pair.{Pair}
use Rattle.gl_sets.specs.declared.sets.Set.{Set as Sets}
use Rattle.gl_sets.specs.Guards.{Points, guards_top}
use Rattle.gl_sets.specs.Sets.{IsGood}
use Rattle.gl_store.specs.declared.values.Val.{Val}
use Rattle.gl_store.specs.declared.values.Val.TheVariants.{Word, Set, Unit as Empty}
use Rattle.gl_store.specs.Meets.{Meets, val_kind, val_top}
use Rattle.run_store.specs.Concrete.{Cell, Kind, Number, Pointer, Nothing, Numbers, NoCell}
use Rattle.sc_world.specs.Tree.{Ty, is_integer, int_bits}
use Rattle.sc_world.specs.Source.{Source}
use Rattle.sc_world.specs.World.{target_of}
use Rattle.gate_acts.specs.Acts.{IsPointerOf, IsZero, zero_kind}

set_points : (v : ℕ → Bool) (s : Sets) (c : Cell) → Meets v (Set s) c → Points v s.pairs.items (target_of c)
set_points v s (Pointer t) met = met
set_points v s (Number w n) met = absurd met
set_points v s Nothing met = absurd met

pub pointer_set : (ns : List Node) (val : Val) (s : Sets) (pairs : List Pair) → val ≡ Set s → pairs ≡ s.pairs.items → val_top val ≤ length ns → IsPointerOf ns val pairs
pointer_set ns val s pairs e same top =
    record {
      below = omega (arith, ap guards_top same, ap val_top e, top);
      points = λ choice v runs c met. subst (λ ps. Points v ps (target_of c)) (sym same) (set_points v s c (subst (λ x. Meets v x c) e met));
    }

word_null : (v : ℕ → Bool) (w : Words) (c : Cell) → Meets v (Word w) c → target_of c ≡ 0
word_null v w (Number width n) met = refl
word_null v w (Pointer t) met = absurd met
word_null v w Nothing met = absurd met

pub pointer_word : (ns : List Node) (val : Val) (w : Words) (pairs : List Pair) → val ≡ Word w → IsGood ns pairs → Always ns (λ choice v. Points v pairs 0) → IsPointerOf ns val pairs
pointer_word ns val w pairs e good null =
    record {
      below = good.below;
      points = λ choice v runs c met. subst (Points v pairs) (sym (word_null v w c (subst (λ x. Meets v x c) e met))) (null.holds choice v runs);
    }

empty_null : (v : ℕ → Bool) (c : Cell) → Meets v Empty c → target_of c ≡ 0
empty_null v (Number width n) met = absurd met
empty_null v (Pointer t) met = absurd met
empty_null v Nothing met = refl

pub pointer_empty : (ns : List Node) (val : Val) (pairs : List Pair) → val ≡ Empty → IsGood ns pairs → Always ns (λ choice v. Points v pairs 0) → IsPointerOf ns val pairs
pointer_empty ns val pairs e good null =
    record {
      below = good.below;
      points = λ choice v runs c met. subst (Points v pairs) (sym (empty_null v c (subst (λ x. Meets v x c) e met))) (null.holds choice v runs);
    }

pub zero_word : (s : Source) (ns : List Node) (t : Ty) (w : Words) (width : ℕ) → is_integer t ≡ true → width ≡ int_bits s.widths t → Spells ns w.bits.items width (λ v. 0 % 2 ^ width)
    → IsZero s ns t (Word w)
zero_word s ns t w width is e spells =
    let wide : length w.bits.items ≡ int_bits s.widths t = spells.wide ∙ e in
    record {
      below = spells.below;
      kind = ap (λ k. Numbers k) wide ∙ ap (λ b. if b then Numbers (int_bits s.widths t) else NoCell) (sym is);
      value = λ choice v runs p bits temps turn.
          subst (λ b. Meets v (Word w) (if b then Number (int_bits s.widths t) 0 else Nothing)) (sym is)
          (record { wide = wide; value = spells.value choice v runs ∙ mod-eq_of_lt (pow_pos width) });
    }

pub zero_none : (s : Source) (ns : List Node) (t : Ty) → is_integer t ≡ false → IsZero s ns t Empty
zero_none s ns t is =
    record {
      below = omega arith;
      kind = ap (λ b. if b then Numbers (int_bits s.widths t) else NoCell) (sym is);
      value = λ choice v runs p bits temps turn. subst (λ b. Meets v Empty (if b then Number (int_bits s.widths t) 0 else Nothing)) (sym is) tt;
    }
