-- What is made of one number.
use Rattle.std.proofs.Common.{◌≡◌, ℕ, ◌+◌, ◌-◌, ◌<◌, ◌≤◌, ◌%◌, ◌^◌, Bool, true, false, nat_eq, ℤ, pos, negsuc, List, length, replicate, refl, sym, ◌∙◌, ap, subst, arith, if◌then◌else◌}
use Rattle.std.proofs.Math.Nat.{mod-eq_of_lt, zero-mod, add-mod_left}
use Rattle.std.proofs.lemmas.List.{length-replicate}
use Rattle.bit_net.specs.declared.nodes.Gate.{Gate}
use Rattle.bit_net.specs.declared.nodes.Node.{Node}
use Rattle.bit_net.specs.Runs.{Runs, Grown, Gives}
use Rattle.bit_words.specs.Number.{bit, number, top, signed, wrapped, converted, difference}
use Rattle.bit_words.specs.Spells.{Spells}
use Rattle.bit_words.specs.declared.Word.{Word as Words}
use Rattle.bit_words.proofs.NumberLemmas.{number-below, number-replicate, top-replicate}
use Rattle.gl_store.specs.declared.values.Val.TheVariants.{Word}
use Rattle.run_store.specs.Concrete.{Numbers}
use Rattle.sc_tree.specs.declared.op.UnaryOp.{UnaryOp}
use Rattle.sc_tree.specs.declared.op.UnaryOp.TheVariants as sign
use Rattle.sc_typed.specs.Arith as typed
use Rattle.sc_typed.specs.Arith.{truth, resized, of_one}
use Rattle.gate_values.specs.Values.{IsResized, IsOfOne}
use Rattle.gate_values.proofs.Truths.{bit_truth}

pub wrapped_is : (bits : ℕ) (z : ℤ) → wrapped bits z ≡ typed.wrapped bits z
wrapped_is bits (pos n) = refl
wrapped_is bits (negsuc n) = refl

pub signed_is : (bits n : ℕ) → signed bits n ≡ typed.signed bits n
unfolding signed
signed_is bits n = refl

resized_is : (s : Bool) (from bits n : ℕ) → converted s from bits n ≡ resized s from bits n
resized_is true from bits n = wrapped_is bits (signed from n) ∙ ap (λ z. typed.wrapped bits z) (signed_is from n)
resized_is false from bits n = refl

pub resized_word : (ns : List Node) (s : Bool) (bits : ℕ) (a w : Words)
    → Spells ns w.bits.items bits (λ v. converted s (length a.bits.items) bits (number v a.bits.items)) → IsResized ns s bits a (Word w)
resized_word ns s bits a w is =
    record {
      below = is.below;
      kind = ap Numbers is.wide;
      value = λ choice v runs width n m.
          record {
            wide = is.wide;
            value =
                is.value choice v runs ∙ resized_is s (length a.bits.items) bits (number v a.bits.items)
                ∙ ap (λ k. resized s k bits (number v a.bits.items)) m.wide ∙ ap (λ k. resized s width bits k) m.value;
          };
    }

pub ones_word : (ns : List Node) (w : Words) (g : Gate) (width : ℕ) → w.bits.items ≡ replicate width g → Gives ns g.at (λ choice v. true)
    → Spells ns w.bits.items width (λ v. 2 ^ width - 1)
ones_word ns w g width e always =
    record {
      wide = ap length e ∙ length-replicate width g;
      below = subst (λ gs. top gs ≤ length ns) (sym e) (top-replicate width (length ns) g always.below);
      value = λ choice v runs.
          ap (number v) e ∙ number-replicate v width g ∙ ap (λ b. if b then 2 ^ width - 1 else 0) (always.value choice v runs);
    }

-- an operator on one number, from what the word spells
of_one_word : (ns : List Node) (op : UnaryOp) (a w : Words) (f : (ℕ → Bool) → ℕ) → Spells ns w.bits.items (length a.bits.items) f
    → ((choice v : ℕ → Bool) → Runs ns choice v → f v ≡ of_one op (length a.bits.items) (number v a.bits.items)) → IsOfOne ns op a (Word w)
of_one_word ns op a w f is same =
    record {
      below = is.below;
      kind = ap Numbers is.wide;
      value = λ choice v runs width n m.
          record {
            wide = is.wide ∙ m.wide;
            value =
                is.value choice v runs ∙ same choice v runs ∙ ap (λ k. of_one op k (number v a.bits.items)) m.wide
                ∙ ap (λ k. of_one op width k) m.value;
          };
    }

less_of : (p n : ℕ) → (p + 0 - n) % p ≡ (p - n) % p
less_of p n = ap (λ k. (k - n) % p) (omega arith)

pub minus_word : (ns mid : List Node) (a nothing w : Words) → Grown mid ns
    → Spells mid nothing.bits.items (length a.bits.items) (λ v. 0 % 2 ^ length a.bits.items)
    → Spells ns w.bits.items (length nothing.bits.items) (λ v. difference (length nothing.bits.items) (number v nothing.bits.items) (number v a.bits.items))
    → IsOfOne ns sign.Minus a (Word w)
minus_word ns mid a nothing w grown zero is =
    of_one_word ns sign.Minus a w (λ v. difference (length nothing.bits.items) (number v nothing.bits.items) (number v a.bits.items))
    (record { wide = is.wide ∙ zero.wide; below = is.below; value = is.value })
    (λ choice v runs.
    ap (λ k. difference k (number v nothing.bits.items) (number v a.bits.items)) zero.wide
    ∙ ap (λ k. difference (length a.bits.items) k (number v a.bits.items))
    (zero.value choice v (grown.runs choice v runs) ∙ zero-mod (2 ^ length a.bits.items))
    ∙ less_of (2 ^ length a.bits.items) (number v a.bits.items))

rest_of : (p n : ℕ) → n < p → (p + (p - 1) - n) % p ≡ p - 1 - n
rest_of p n low =
    let around : p + (p - 1) - n ≡ p + (p - 1 - n) = omega (arith, low) in
    let below : p - 1 - n < p = omega (arith, low) in
    ap (λ k. k % p) around ∙ add-mod_left p (p - 1 - n) ∙ mod-eq_of_lt below

pub complement_word : (ns mid : List Node) (a all w : Words) → Grown mid ns
    → Spells mid all.bits.items (length a.bits.items) (λ v. 2 ^ length a.bits.items - 1)
    → Spells ns w.bits.items (length all.bits.items) (λ v. difference (length all.bits.items) (number v all.bits.items) (number v a.bits.items))
    → IsOfOne ns sign.Complement a (Word w)
complement_word ns mid a all w grown ones is =
    of_one_word ns sign.Complement a w (λ v. difference (length all.bits.items) (number v all.bits.items) (number v a.bits.items))
    (record { wide = is.wide ∙ ones.wide; below = is.below; value = is.value })
    (λ choice v runs.
    ap (λ k. difference k (number v all.bits.items) (number v a.bits.items)) ones.wide
    ∙ ap (λ k. difference (length a.bits.items) k (number v a.bits.items)) (ones.value choice v (grown.runs choice v runs))
    ∙ rest_of (2 ^ length a.bits.items) (number v a.bits.items) (number-below v a.bits.items))

pub zero_word : (ns : List Node) (a w : Words) (none : ℕ) → Gives ns none (λ choice v. nat_eq (number v a.bits.items) 0)
    → Spells ns w.bits.items (length a.bits.items) (λ v. bit (v none)) → IsOfOne ns sign.Not a (Word w)
zero_word ns a w none zero is =
    of_one_word ns sign.Not a w (λ v. bit (v none)) is
    (λ choice v runs. bit_truth (v none) ∙ ap truth (zero.value choice v runs))

same_spells : (ns : List Node) (a w : Words) → top a.bits.items ≤ length ns → w.bits.items ≡ a.bits.items
    → Spells ns w.bits.items (length a.bits.items) (λ v. number v a.bits.items)
same_spells ns a w below e =
    record {
      wide = ap length e;
      below = subst (λ gs. top gs ≤ length ns) (sym e) below;
      value = λ choice v runs. ap (number v) e;
    }

pub same_plus : (ns : List Node) (a w : Words) → top a.bits.items ≤ length ns → w.bits.items ≡ a.bits.items → IsOfOne ns sign.Plus a (Word w)
same_plus ns a w below e = of_one_word ns sign.Plus a w (λ v. number v a.bits.items) (same_spells ns a w below e) (λ choice v runs. refl)

pub same_address : (ns : List Node) (a w : Words) → top a.bits.items ≤ length ns → w.bits.items ≡ a.bits.items → IsOfOne ns sign.Address a (Word w)
same_address ns a w below e = of_one_word ns sign.Address a w (λ v. number v a.bits.items) (same_spells ns a w below e) (λ choice v runs. refl)

pub same_deref : (ns : List Node) (a w : Words) → top a.bits.items ≤ length ns → w.bits.items ≡ a.bits.items → IsOfOne ns sign.Deref a (Word w)
same_deref ns a w below e = of_one_word ns sign.Deref a w (λ v. number v a.bits.items) (same_spells ns a w below e) (λ choice v runs. refl)

pub ruleset same_word = (same_plus, same_address, same_deref)
