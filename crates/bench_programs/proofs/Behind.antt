-- One more line of a program.
use Rattle.std.proofs.Common.{◌≡◌, ℕ, suc, ◌+◌, ◌-◌, ◌<◌, ◌≤◌, List, ◌++◌, refl, sym, ap, ◌∙◌, arith, append_assoc}
use Rattle.std.specs.List.{flat_map, range_with_len}
use Rattle.std.proofs.lemmas.List.{append-nil}

-- the lines from a number on, behind those before it
abbrev pub all_lines : (ℕ → List ℕ) → (front : List ℕ) → (from count : ℕ) → List ℕ
all_lines line front from count = front ++ flat_map line (range_with_len from (count - from))

pub one_more : (line : ℕ → List ℕ) (front : List ℕ) (from count : ℕ) → from < count
    → all_lines line (front ++ line from) (from + 1) count ≡ all_lines line front from count
one_more line front from count lt =
    let rest = flat_map line (range_with_len (from + 1) (count - (from + 1))) in
    let e : count - from ≡ suc (count - (from + 1)) = omega arith in
    append_assoc front (line from) rest ∙ ap (λ n. front ++ flat_map line (range_with_len from n)) (sym e)

pub no_more : (line : ℕ → List ℕ) (front : List ℕ) (from count : ℕ) → count ≤ from → all_lines line front from count ≡ front
no_more line front from count le =
    let e : count - from ≡ 0 = omega arith in
    ap (λ n. front ++ flat_map line (range_with_len from n)) e ∙ append-nil front
