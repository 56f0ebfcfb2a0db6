-- Bytes that were put behind each other, one part at a time.
use Rattle.std.proofs.Common.{◌≡◌, ◌∙◌, ℕ, List, ◌++◌, ap, append_assoc}

-- one part more
behind : (x y a p : List ℕ) → y ≡ x ++ p → x ≡ a → y ≡ a ++ p
behind x y a p put is = put ∙ ap (λ z. z ++ p) is

pub ended : (program colon word name line t u v w : List ℕ) → t ≡ program ++ colon → u ≡ t ++ word → v ≡ u ++ name → w ≡ v ++ line
    → w ≡ program ++ (colon ++ ((word ++ name) ++ line))
ended program colon word name line t u v w first second third last =
    behind v w _ line last (behind u v _ name third (behind t u _ word second first)) ∙ simp append_assoc

pub placed : (program colon name a row b column c word line t u0 u1 u2 u3 u4 u5 u6 w : List ℕ) → t ≡ program ++ colon → u0 ≡ t ++ name → u1 ≡ u0 ++ a
    → u2 ≡ u1 ++ row → u3 ≡ u2 ++ b → u4 ≡ u3 ++ column → u5 ≡ u4 ++ c → u6 ≡ u5 ++ word → w ≡ u6 ++ line
    → w ≡ program ++ (colon ++ ((name ++ (a ++ (row ++ (b ++ (column ++ (c ++ word)))))) ++ line))
placed program colon name a row b column c word line t u0 u1 u2 u3 u4 u5 u6 w e0 e1 e2 e3 e4 e5 e6 e7 e8 =
    behind u6 w _ line e8 (behind u5 u6 _ word e7 (behind u4 u5 _ c e6 (behind u3 u4 _ column e5 (behind u2 u3 _ b e4
    (behind u1 u2 _ row e3 (behind u0 u1 _ a e2 (behind t u0 _ name e1 e0))))))) ∙ simp append_assoc
