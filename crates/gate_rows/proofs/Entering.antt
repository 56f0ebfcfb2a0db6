-- Entry bits, one after the other.
use Rattle.std.proofs.Common.{◌≡◌, ℕ, zero, suc, ◌+◌, ◌*◌, ◌<◌, ◌≤◌, Bool, true, false, List, [], ◌∷◌, ◌++◌, length, take, get_or, refl, sym, ◌∙◌, ap, subst, arith}
use Rattle.std.proofs.lemmas.List.{take_more}
use Rattle.bit_net.specs.declared.nodes.Gate.{Gate}
use Rattle.bit_net.specs.declared.nodes.Node.{Node}
use Rattle.bit_net.specs.Runs.{Runs, Grown}
use Rattle.bit_words.specs.Number.{bit, number, top}
use Rattle.bit_words.proofs.NumberLemmas.{number-push, top-push}
use Rattle.gl_store.specs.declared.values.Val.{Val}
use Rattle.gl_store.specs.Meets.{Meets}
use Rattle.run_store.specs.Concrete.{Cell, Nothing}
use Rattle.sc_world.specs.World.{digit, is_true}
use Rattle.sc_world.specs.Known.{given_from, given_number}
use Rattle.gate_values.specs.Values.{IsTruth}
use Rattle.gate_objects.specs.Escapes.{MeetsEach}
use Rattle.gate_rows.specs.Entries.{AreEntryBits}

-- the bits of the first i arguments
pub record AreFirstBits (ns : List Node) (args : List Val) (i : ℕ) (bits : List Gate) : Type 0 where
  pub below : top bits ≤ length ns
  pub value : (choice v : ℕ → Bool) → Runs ns choice v → (cs : List Cell) → MeetsEach v args cs → number v bits ≡ given_number (take i cs)

each_wide : (v : ℕ → Bool) (xs : List Val) (cs : List Cell) → MeetsEach v xs cs → length cs ≡ length xs
each_wide v [] [] h = refl
each_wide v (x ∷ xs) (c ∷ cs) h = ap suc (each_wide v xs cs h.1)
each_wide v [] (c ∷ cs) h = absurd h
each_wide v (x ∷ xs) [] h = absurd h

each_at : (v : ℕ → Bool) (xs : List Val) (cs : List Cell) (i : ℕ) (d : Val) (e : Cell) → i < length xs → MeetsEach v xs cs
    → Meets v (get_or xs i d) (get_or cs i e)
each_at v (x ∷ xs) (c ∷ cs) zero d e low h = h.0
each_at v (x ∷ xs) (c ∷ cs) (suc i) d e low h = each_at v xs cs i d e (omega (arith, low)) h.1
each_at v [] cs i d e low h = absurd (omega (arith, low))
each_at v (x ∷ xs) [] i d e low h = absurd h

-- one digit more behind those that there are
from_push : (most n : ℕ) (xs : List Cell) (c : Cell) → length xs < most → given_from most n (xs ++ c ∷ []) ≡ 2 * given_from most n xs + digit (is_true c)
from_push zero n xs c low = absurd (omega (arith, low))
from_push (suc zero) n [] c low = refl
from_push (suc (suc more)) n [] c low = refl
from_push (suc more) n (x ∷ xs) c low = from_push more (2 * n + digit (is_true x)) xs c (omega (arith, low))

from_first : (most n : ℕ) (xs : List Cell) (i : ℕ) → (i < most → length xs ≤ i) → i ≤ most → given_from most n (take i xs) ≡ given_from most n xs
from_first zero n xs i high low = refl
from_first (suc more) n [] zero high low = refl
from_first (suc more) n [] (suc i) high low = refl
from_first (suc more) n (x ∷ xs) zero high low = absurd (omega (arith, high (omega arith)))
from_first (suc more) n (x ∷ xs) (suc i) high low =
    from_first more (2 * n + digit (is_true x)) xs i (λ h. omega (arith, high (omega (arith, h)))) (omega (arith, low))

digit_bit : (b : Bool) → bit b ≡ digit b
digit_bit true = refl
digit_bit false = refl

pub bits_none : (ns : List Node) (args : List Val) (bits : List Gate) → bits ≡ [] → AreFirstBits ns args 0 bits
unfolding number top
bits_none ns args bits e =
    subst (AreFirstBits ns args 0) (sym e) (record { below = omega arith; value = λ choice v runs cs met. refl })

pub bits_step : (n1 n2 : List Node) (args : List Val) (i : ℕ) (d : Val) (bits new : List Gate) (g : Gate) → i < length args → i < 3 → Grown n1 n2
    → new ≡ bits ++ g ∷ []
    → AreFirstBits n1 args i bits → IsTruth n2 (get_or args i d) g.at → AreFirstBits n2 args (i + 1) new
bits_step n1 n2 args i d bits new g low few grown pushed before is =
    record {
      below = omega (arith, ap top pushed, top-push bits g, before.below, is.below, grown.longer);
      value = λ choice v runs cs met.
          let c : Cell = get_or cs i Nothing in
          let within : i < length cs = omega (arith, each_wide v args cs met, low) in
          ap (number v) pushed ∙ number-push v bits g
          ∙ ap (λ n. 2 * n + bit (v g.at)) (before.value choice v (grown.runs choice v runs) cs met)
          ∙ ap (λ b. 2 * given_number (take i cs) + bit b) (is.value choice v runs c (each_at v args cs i d Nothing low met))
          ∙ ap (λ n. 2 * given_number (take i cs) + n) (digit_bit (is_true c))
          ∙ sym (from_push 3 0 (take i cs) c (omega (arith, few, length_take i cs)))
          ∙ ap given_number (sym (take_more cs i Nothing within));
    }
  where
    length_take : (k : ℕ) (xs : List Cell) → length (take k xs) ≤ k
    length_take zero xs = omega arith
    length_take (suc k) [] = omega arith
    length_take (suc k) (x ∷ xs) = omega (arith, length_take k xs)

pub bits_all : (ns : List Node) (args : List Val) (i : ℕ) (bits : List Gate) → (i < 3 → length args ≤ i) → i ≤ 3 → AreFirstBits ns args i bits
    → AreEntryBits ns args bits
bits_all ns args i bits high low h =
    record {
      below = h.below;
      value = λ choice v runs cs met.
          h.value choice v runs cs met ∙ from_first 3 0 cs i (λ h. omega (arith, high h, each_wide v args cs met)) low;
    }
