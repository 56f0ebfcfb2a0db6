-- The entry bits, one parameter after another.
use Rattle.std.proofs.Common.{◌≡◌, ℕ, zero, suc, ◌+◌, ◌-◌, ◌*◌, ◌<◌, ◌≤◌, Bool, true, false, List, [], ◌∷◌, ap, refl, ◌∙◌, arith}
use Rattle.std.specs.Prelude.{◌||◌, if◌then◌else◌}
use Rattle.sc_world.specs.Tree.{Ty}
use Rattle.sc_world.specs.World.{digit, is_true}
use Rattle.sc_world.specs.Shows.{Over, bits_number, entry_params_from, param_cell}
use Rattle.run_answers.specs.Seen.{has_bit, bits_from, size_of, given, is_given}

pub bits_in : (o : Over) (n left k : ℕ) (t : Ty) (ts : List Ty) → 0 < left → has_bit t ≡ true
    → bits_from o n left k (t ∷ ts) ≡ bits_from o (2 * n + digit (is_given o k)) (left - 1) (k + 1) ts
unfolding bits_from is_given
bits_in o n zero k t ts low e = absurd (omega arith)
bits_in o n (suc left) k t ts low e =
    let same : left ≡ suc left - 1 = omega arith in
    ap (λ b. bits_number o n (if b then k ∷ entry_params_from left (k + 1) ts else entry_params_from (suc left) (k + 1) ts)) e
    ∙ ap (λ m. bits_number o (2 * n + digit (is_true (param_cell o k))) (entry_params_from m (k + 1) ts)) same

pub bits_out : (o : Over) (n left k : ℕ) (t : Ty) (ts : List Ty) → has_bit t ≡ false
    → bits_from o n left k (t ∷ ts) ≡ bits_from o n left (k + 1) ts
unfolding bits_from
bits_out o n zero k t ts e = refl
bits_out o n (suc left) k t ts e =
    ap (λ b. bits_number o n (if b then k ∷ entry_params_from left (k + 1) ts else entry_params_from (suc left) (k + 1) ts)) e

pub bits_read : (o : Over) (n left k : ℕ) (ts : List Ty) → left ≡ 0 → bits_from o n left k ts ≡ n
unfolding bits_from
bits_read o n zero k ts e = refl
bits_read o n (suc left) k ts e = absurd (omega (arith, e))

pub bits_none : (o : Over) (n left k : ℕ) → bits_from o n left k [] ≡ n
unfolding bits_from
bits_none o n zero k = refl
bits_none o n (suc left) k = refl

pub bits_all : (o : Over) → given o ≡ bits_from o 0 3 0 o.source.params
unfolding bits_from given
bits_all o = refl

pub size_next : (left : ℕ) → 0 < left → left ≤ 3 → size_of (left - 1) ≡ 2 * size_of left
unfolding size_of
size_next zero low high = absurd (omega arith)
size_next (suc zero) low high = refl
size_next (suc (suc zero)) low high = refl
size_next (suc (suc (suc zero))) low high = refl
size_next (suc (suc (suc (suc n)))) low high = absurd (omega arith)

pub size_low : (left : ℕ) → 0 < left → left ≤ 3 → size_of left ≤ 4
unfolding size_of
size_low zero low high = absurd (omega arith)
size_low (suc zero) low high = omega arith
size_low (suc (suc zero)) low high = omega arith
size_low (suc (suc (suc zero))) low high = omega arith
size_low (suc (suc (suc (suc n)))) low high = absurd (omega arith)

pub size_first : size_of 3 ≡ 1
unfolding size_of
size_first = refl

pub ruleset bit_steps = (bits_in, bits_out, bits_read, bits_none, bits_all, size_next, size_low, size_first)
