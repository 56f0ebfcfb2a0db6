-- Tokens in braces: one that closes a bracket which is not the last.
use Rattle.std.proofs.Common.{◌≡◌, ℕ, zero, suc, ◌+◌, ◌-◌, ◌≤◌, length, Bool, true, List, [], ◌∷◌, Some, sym, refl, ap, ◌∙◌, arith}
use Rattle.sc_tree.specs.declared.token.Token.{Token}
use Rattle.sc_tree.specs.declared.token.Kind.{Kind}
use Rattle.sc_tree.specs.Units.{Turn, Opens, Closes, Neither, turn_of, is_empty, closes_by, closes}
use Rattle.sc_parse_front.specs.Front.{front_kind, behind}
use Rattle.sc_parse_unit.specs.Reading.{is_closing}

closes_turn : (n : ℕ) (ts : List Token) (q : Kind) → front_kind ts ≡ Some q → closes n ts
    ≡ closes_by (turn_of q) n (λ m. closes m (behind ts)) (is_empty (behind ts))
closes_turn n [] q e = absurd cc
closes_turn n (t ∷ ts) q e = let same : t.kind ≡ q = (cc) in ap (λ (p : Kind). closes_by (turn_of p) n (λ m. closes m ts) (is_empty ts)) same

closed_by : (t : Turn) (n : ℕ) (go : ℕ → Bool) (last : Bool) → is_closing t ≡ true → closes_by t n go last ≡ closes_by Closes n go last
closed_by Opens n go last e = absurd cc
closed_by Closes n go last e = refl
closed_by Neither n go last e = absurd cc

closed_deeper : (n : ℕ) (go : ℕ → Bool) (last : Bool) → 2 ≤ n → closes_by Closes n go last ≡ go (n - 1)
closed_deeper zero go last deep = absurd (omega arith)
closed_deeper (suc zero) go last deep = absurd (omega arith)
closed_deeper (suc (suc n)) go last deep = let less : suc n ≡ suc (suc n) - 1 = omega arith in ap go less

pub turn_closes : {b : Bool} (n : ℕ) (ts us : List Token) (q : Kind) → front_kind ts ≡ Some q → b ≡ closes n ts → us ≡ behind ts
    → is_closing (turn_of q) ≡ true → 2 ≤ n
    → b ≡ closes (n - 1) us
turn_closes n ts us q is so rest e deep =
    so ∙ closes_turn n ts q is ∙ ap (λ (vs : List Token). closes_by (turn_of q) n (λ m. closes m vs) (is_empty vs)) (sym rest)
    ∙ closed_by (turn_of q) n (λ m. closes m us) (is_empty us) e ∙ closed_deeper n (λ m. closes m us) (is_empty us) deep

-- one token less is left
pub behind_length : (ts : List Token) (q : Kind) → front_kind ts ≡ Some q → length (behind ts) + 1 ≡ length ts
behind_length [] q e = absurd cc
behind_length (t ∷ ts) q e = omega arith
