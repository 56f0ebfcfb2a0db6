-- Numbers that are written one after the other.
use Rattle.std.proofs.Common.{◌≡◌, ℕ, ◌+◌, List, [], ◌∷◌, ◌++◌, length, ◌∙◌, append_assoc, arith}
use Rattle.fn_matter.specs.Words.{begun}

-- a kind, the number of numbers, the first six of them, and the others
pub placed : (ws : List ℕ) (k n a b c d e f : ℕ) (ns : List ℕ) → n ≡ length ns + 6
    → (((ws ++ k ∷ []) ++ n ∷ []) ++ (a ∷ b ∷ c ∷ d ∷ e ∷ f ∷ [])) ++ ns ≡ begun k (a ∷ b ∷ c ∷ d ∷ e ∷ f ∷ ns) ws
placed ws k n a b c d e f ns many =
    let size : n ≡ length (a ∷ b ∷ c ∷ d ∷ e ∷ f ∷ ns) = omega (arith, many) in
    append_assoc ((ws ++ k ∷ []) ++ n ∷ []) (a ∷ b ∷ c ∷ d ∷ e ∷ f ∷ []) ns
    ∙ (append_assoc (ws ++ k ∷ []) (n ∷ []) (a ∷ b ∷ c ∷ d ∷ e ∷ f ∷ ns)
    ∙ (append_assoc ws (k ∷ []) (n ∷ a ∷ b ∷ c ∷ d ∷ e ∷ f ∷ ns)
    ∙ (λ i. ws ++ (k ∷ size i ∷ a ∷ b ∷ c ∷ d ∷ e ∷ f ∷ ns))))
