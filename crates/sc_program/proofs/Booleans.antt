-- Tests that say the same.
use Rattle.std.proofs.Common.{◌≡◌, ℕ, Bool, true, false, ◌&&◌, ◌||◌, nat_eq, refl, sym}
use Rattle.std.proofs.lemmas.Bool.{false≢true, eqb-true, eq-eqb}

pub and_false : (a : Bool) → (a && false) ≡ false
and_false true = refl
and_false false = refl

pub or_false : (a : Bool) → (a || false) ≡ a
or_false true = refl
or_false false = refl

pub and_both : (a b : Bool) → (a && b) ≡ true → (a ≡ true) × (b ≡ true)
and_both true true h = (refl, refl)
and_both true false h = absurd (false≢true h)
and_both false b h = absurd (false≢true h)

by_sides : (a b : Bool) → (a ≡ true → b ≡ true) → (b ≡ true → a ≡ true) → a ≡ b
by_sides true true f g = refl
by_sides true false f g = absurd (false≢true (f refl))
by_sides false true f g = absurd (false≢true (g refl))
by_sides false false f g = refl

pub same_both : (m n : ℕ) → nat_eq m n ≡ nat_eq n m
same_both m n =
    by_sides (nat_eq m n) (nat_eq n m) (λ h. eq-eqb n m (sym (eqb-true m n h))) (λ h. eq-eqb m n (sym (eqb-true n m h)))

pub spread_and : (p q c r : Bool) → (p && (q || (c && r))) ≡ ((p && q) || (c && (p && r)))
spread_and true q c r = refl
spread_and false q true r = refl
spread_and false q false r = refl

pub join_or : (x c y u v : Bool) → ((x || (c && y)) || (u || (c && v))) ≡ ((x || u) || (c && (y || v)))
join_or true c y u v = refl
join_or false true true true v = refl
join_or false true true false v = refl
join_or false true false u v = refl
join_or false false y u v = refl

pub and_true : (a : Bool) → (a && true) ≡ a
and_true true = refl
and_true false = refl

pub and_turn : (a b c : Bool) → ((a && b) && c) ≡ (b && (a && c))
and_turn true true c = refl
and_turn true false c = refl
and_turn false true c = refl
and_turn false false c = refl

pub or_same : (a b c : Bool) → (a || (b || c)) ≡ ((a || b) || c)
or_same true b c = refl
or_same false b c = refl
