-- Bytes that were put behind each other, one part at a time.
use Rattle.std.proofs.Common.{◌≡◌, ◌∙◌, ℕ, List, ◌++◌, ap, append_assoc}

pub joined : (a b c d e t u v w x : List ℕ) → t ≡ a → u ≡ t ++ b → v ≡ u ++ c → w ≡ v ++ d → x ≡ w ++ e
    → x ≡ a ++ (b ++ (c ++ (d ++ e)))
joined a b c d e t u v w x at bt ct dt et =
    let two : u ≡ a ++ b = bt ∙ ap (λ z. z ++ b) at in
    let three : v ≡ (a ++ b) ++ c = ct ∙ ap (λ z. z ++ c) two in
    let four : w ≡ ((a ++ b) ++ c) ++ d = dt ∙ ap (λ z. z ++ d) three in
    (et ∙ ap (λ z. z ++ e) four) ∙ simp append_assoc
