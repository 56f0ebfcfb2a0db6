-- The number that digits spell, digit by digit.
use Rattle.std.proofs.Common.{◌≡◌, ℕ, ◌+◌, ◌-◌, ◌*◌, ◌<◌, ◌≤◌, Bool, true, false, cond, ◌&&◌, ltb, List, [], ◌∷◌, length, drop, get_or, Some, None, refl, sym, ap, ap₂, ◌∙◌, arith}
use Rattle.std.proofs.lemmas.Bool.{lt-ltb, le-ltb}
use Rattle.std.proofs.lemmas.List.{at_drop_more}
use Rattle.line_marks.specs.Markers.{number_from, line_number}

-- more digits make no smaller number
grows : (n : ℕ) (ds : List ℕ) → n ≤ number_from n ds
grows n [] = omega arith
grows n (d ∷ ds) = omega (arith, grows (10 * n + (d - 48)) ds)

-- one digit more
pub number_more : (n : ℕ) (ds : List ℕ) (i d : ℕ) → i < length ds → d ≡ get_or ds i 0 - 48
    → number_from n (drop i ds) ≡ number_from (10 * n + d) (drop (i + 1) ds)
number_more n ds i d inside is =
    at_drop_more (number_from n) ds i 0 inside ∙ ap (λ x. number_from (10 * n + x) (drop (i + 1) ds)) (sym is)

pub number_too_large : (ds rest : List ℕ) (n : ℕ) → 4294967296 ≤ n → number_from n rest ≡ number_from 0 ds → None ≡ line_number ds
unfolding line_number
number_too_large ds rest n large is =
    let whole : 4294967296 ≤ number_from 0 ds = omega (arith, grows n rest) in
    sym (by_test (ltb 0 (length ds)) (le-ltb (number_from 0 ds) 4294967296 whole))
  where
    by_test : (b : Bool) → {c : Bool} → c ≡ false → cond (b && c) (Some (number_from 0 ds)) None ≡ None
    by_test true e = ap (λ c. cond c (Some (number_from 0 ds)) None) e
    by_test false e = refl

pub number_fits : (ds : List ℕ) (n : ℕ) → 0 < length ds → n < 4294967296 → n ≡ number_from 0 ds → Some n ≡ line_number ds
unfolding line_number
number_fits ds n some small is =
    let whole : number_from 0 ds < 4294967296 = omega arith in
    ap Some is ∙ sym (ap₂ (λ b c. cond (b && c) (Some (number_from 0 ds)) None) (lt-ltb 0 (length ds) some) (lt-ltb (number_from 0 ds) 4294967296 whole))
