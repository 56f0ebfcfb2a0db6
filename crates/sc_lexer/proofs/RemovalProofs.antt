-- Steps of the loop that takes out what leaves nothing.
use Rattle.std.proofs.Common.{◌≡◌, ℕ, suc, ◌+◌, ◌-◌, ◌<◌, List, ◌++◌, length, drop, sym, ap, ◌∙◌, arith}
use Rattle.sc_tree.specs.declared.token.Token.{Token}
use Rattle.sc_tree.specs.Removal.{kept}
use Rattle.sc_lexer.proofs.Steps.{element_at}

-- a token that is left out
pub kept_skip : (whole front items : List Token) (at skip : ℕ) → at < length items → 0 < skip → front ++ kept skip (drop at items) ≡ whole
    → front ++ kept (skip - 1) (drop (at + 1) items) ≡ whole
kept_skip whole front items at skip lt pos so_far =
    let x = element_at items at lt in
    let e : skip ≡ suc (skip - 1) = omega arith in
    ap (λ (xs : List Token). front ++ kept (suc (skip - 1)) xs) (sym x.1) ∙ ap (λ (n : ℕ). front ++ kept n (drop at items)) (sym e) ∙ so_far
