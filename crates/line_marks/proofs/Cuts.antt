-- Of marks in the order of their lines, those above a line are the first ones.
use Rattle.std.proofs.Common.{◌≡◌, ℕ, zero, suc, ◌+◌, ◌-◌, ◌<◌, ◌≤◌, cond, List, [], ◌∷◌, length, take, get_or, Some, None, slice_get, refl, sym, ap, ◌∙◌, arith}
use Rattle.std.specs.List.{AllWithin, filter}
use Rattle.std.specs.List.Sorted.{IsNonDecreasingBy}
use Rattle.std.proofs.lemmas.Bool.{lt-ltb, le-ltb}
use Rattle.std.proofs.lemmas.List.{length-take-le, get_or-take}
use Rattle.std.proofs.lemmas.Option.{slice_get-get_or}
use Rattle.line_marks.specs.declared.marks.Mark.{Mark}
use Rattle.line_marks.specs.Sources.{is_above, last_of, mark_above}

-- up to a mark above the line, all are
pub above_to : (ms : List Mark) (line middle : ℕ) (m : Mark) → IsNonDecreasingBy (λ (x : Mark). x.at) ms → middle < length ms
    → m ≡ get_or ms middle m → m.at < line → AllWithin (λ (x : Mark). x.at < line) ms 0 (middle + 1)
above_to ms line middle m order inside is above =
    λ k d low high. omega (arith, order k middle d (omega arith) inside, ap (λ (x : Mark). x.at) (at_any ms middle m d inside is))
  where
    at_any : (ms : List Mark) (i : ℕ) (m d : Mark) → i < length ms → m ≡ get_or ms i m → m ≡ get_or ms i d
    at_any [] i m d inside is = absurd (omega (arith, inside))
    at_any (x ∷ xs) zero m d inside is = is
    at_any (x ∷ xs) (suc i) m d inside is = at_any xs i m d (omega (arith, inside)) is

-- from a mark on that is not above the line, none is
pub below_from : (ms : List Mark) (line middle : ℕ) (m : Mark) → IsNonDecreasingBy (λ (x : Mark). x.at) ms → middle < length ms
    → m ≡ get_or ms middle m → line ≤ m.at → AllWithin (λ (x : Mark). line ≤ x.at) ms middle (length ms)
below_from ms line middle m order inside is below =
    λ k d low high. omega (arith, order middle k d low high, ap (λ (x : Mark). x.at) (at_any ms middle m d inside is))
  where
    at_any : (ms : List Mark) (i : ℕ) (m d : Mark) → i < length ms → m ≡ get_or ms i m → m ≡ get_or ms i d
    at_any [] i m d inside is = absurd (omega (arith, inside))
    at_any (x ∷ xs) zero m d inside is = is
    at_any (x ∷ xs) (suc i) m d inside is = at_any xs i m d (omega (arith, inside)) is

pub filter_cut : (line : ℕ) (ms : List Mark) (k : ℕ) → AllWithin (λ (m : Mark). m.at < line) ms 0 k
    → AllWithin (λ (m : Mark). line ≤ m.at) ms k (length ms) → filter (is_above line) ms ≡ take k ms
filter_cut line [] zero above below = refl
filter_cut line [] (suc k) above below = refl
filter_cut line (m ∷ ms) zero above below =
    ap (λ b. cond b (m ∷ filter (is_above line) ms) (filter (is_above line) ms)) (le-ltb m.at line (below 0 m (omega arith) (omega arith)))
    ∙ filter_cut line ms zero (λ k d low high. absurd (omega (arith, high))) (λ k d low high. below (suc k) d (omega arith) (omega (arith, high)))
filter_cut line (m ∷ ms) (suc k) above below =
    ap (λ b. cond b (m ∷ filter (is_above line) ms) (filter (is_above line) ms)) (lt-ltb m.at line (above 0 m (omega arith) (omega arith)))
    ∙ ap (λ l. m ∷ l) (filter_cut line ms k (λ j d low high. above (suc j) d (omega arith) (omega (arith, high)))
    (λ j d low high. below (suc j) d (omega (arith, low)) (omega (arith, high))))

-- the last of the first ones
pub last_of_first : (ms : List Mark) (k : ℕ) (d : Mark) → 0 < k → k ≤ length ms → last_of (take k ms) ≡ Some (get_or ms (k - 1) d)
last_of_first ms k d some inside =
    let long = length-take-le k ms inside in
    ap (λ n. slice_get (take k ms) (n - 1)) long
    ∙ slice_get-get_or (take k ms) (k - 1) d (omega (arith, long))
    ∙ ap Some (get_or-take k ms (k - 1) d (omega arith))

pub mark_above_is : (line : ℕ) (ms : List Mark) (k : ℕ) (m : Mark) → 0 < k → k ≤ length ms → AllWithin (λ (x : Mark). x.at < line) ms 0 k
    → AllWithin (λ (x : Mark). line ≤ x.at) ms k (length ms) → m ≡ get_or ms (k - 1) m → Some m ≡ mark_above line ms
unfolding mark_above
mark_above_is line ms k m some inside above below is =
    ap Some is ∙ sym (ap last_of (filter_cut line ms k above below) ∙ last_of_first ms k m some inside)

pub none_above : (line : ℕ) (ms : List Mark) → AllWithin (λ (x : Mark). line ≤ x.at) ms 0 (length ms) → None ≡ mark_above line ms
unfolding mark_above
none_above line ms below =
    sym (ap last_of (filter_cut line ms 0 (λ k d low high. absurd (omega (arith, high))) below))
