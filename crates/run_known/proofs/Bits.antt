-- The bits of a choice behind its first one.
use Rattle.std.proofs.Common.{◌≡◌, ℕ, zero, suc, ◌+◌, ◌*◌, Bool, List, [], ◌∷◌, length, drop, refl, sym, ap, ◌∙◌, add-one, arith}
use Rattle.sc_world.specs.World.{bit_at, digit, number_from, number_at}

bit_behind : (b : Bool) (bs : List Bool) (at : ℕ) → bit_at (b ∷ bs) (at + 1) ≡ bit_at bs at
bit_behind b bs at = rw add-one refl

pub number_behind : (w : ℕ) (b : Bool) (bs : List Bool) (at n : ℕ) → number_from w bs at n ≡ number_from w (b ∷ bs) (at + 1) n
number_behind zero b bs at n = refl
number_behind (suc w) b bs at n =
    number_behind w b bs (at + 1) (2 * n + digit (bit_at bs at))
    ∙ ap (λ c. number_from w (b ∷ bs) ((at + 1) + 1) (2 * n + digit c)) (sym (bit_behind b bs at))

pub number_of_none : (w at : ℕ) → number_from w [] at 0 ≡ 0
number_of_none zero at = refl
number_of_none (suc w) at = number_of_none w (at + 1)

pub number_drop : (bs : List Bool) (at w : ℕ) → number_at (drop 1 bs) at w ≡ number_at bs (at + 1) w
number_drop [] at w = number_of_none w at ∙ sym (number_of_none w (at + 1))
number_drop (b ∷ bs) at w = number_behind w b bs at 0

pub number_none : (bs : List Bool) (at w : ℕ) → length bs ≡ 0 → 0 ≡ number_at bs at w
number_none [] at w h = sym (number_of_none w at)
number_none (b ∷ bs) at w h = absurd (omega (arith, h))

pub ruleset behind = (number_drop, number_none)
