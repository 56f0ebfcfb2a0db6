-- What numbers of two bits say from 3 on.
use Rattle.std.proofs.Common.{◌≡◌, ℕ, zero, suc, ◌≤◌, Option, refl, arith}
use Rattle.choice_words.specs.Words.{given, fate, pointed}
use Rattle.choice_words.specs.declared.sayings.Word.TheVariants as word

pub given_many : (object : Option ℕ) (n : ℕ) → 3 ≤ n → given object n ≡ word.NoRow
given_many o zero h = absurd (omega (arith, h))
given_many o (suc zero) h = absurd (omega (arith, h))
given_many o (suc (suc zero)) h = absurd (omega (arith, h))
given_many o (suc (suc (suc n))) h = refl

pub fate_many : (n : ℕ) → 3 ≤ n → fate n ≡ word.NoRow
fate_many zero h = absurd (omega (arith, h))
fate_many (suc zero) h = absurd (omega (arith, h))
fate_many (suc (suc zero)) h = absurd (omega (arith, h))
fate_many (suc (suc (suc n))) h = refl

pub pointed_many : (object : Option ℕ) (n : ℕ) → 3 ≤ n → pointed object n ≡ word.Same
pointed_many o zero h = absurd (omega (arith, h))
pointed_many o (suc zero) h = absurd (omega (arith, h))
pointed_many o (suc (suc zero)) h = absurd (omega (arith, h))
pointed_many o (suc (suc (suc n))) h = refl
