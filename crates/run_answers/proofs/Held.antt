-- Holders, one location after another.
use Rattle.std.proofs.Common.{◌≡◌, ℕ, ◌+◌, ◌-◌, ◌<◌, ◌≤◌, List, [], ◌∷◌, ◌++◌, ap, sym, refl, ◌∙◌, arith, append_assoc, append-nil, length}
use Rattle.std.specs.Prelude.{Option, Some, None}
use Rattle.sc_world.specs.Shows.{Over, with_object}
use Rattle.run_answers.specs.declared.holders.Beside.{Beside}
use Rattle.run_answers.specs.Rest.{rest}
use Rattle.run_answers.specs.Seen.{held_at, held_among, held}
use Rattle.run_answers.proofs.Rests.{rest_all, rest_first, rest_none}

behind : (x : Option ℕ) (xs ys : List ℕ) → (xs ++ with_object x []) ++ ys ≡ xs ++ with_object x ys
behind None xs ys = ap (λ zs. zs ++ ys) (append-nil xs)
behind (Some n) xs ys = append_assoc xs (n ∷ []) ys

first_held : (o : Over) (b : Beside) (k : ℕ) (ks : List ℕ)
    → held_among o b (k ∷ ks) ≡ with_object (held_at o b k) (held_among o b ks)
unfolding held_among held_at
first_held o b k ks = refl

-- location k is passed
pub held_turn : (o : Over) (b : Beside) (k n : ℕ) (xs : List ℕ) → k < n
    → (xs ++ with_object (held_at o b k) []) ++ held_among o b (rest (k + 1) n) ≡ xs ++ held_among o b (rest k n)
held_turn o b k n xs low =
    behind (held_at o b k) xs (held_among o b (rest (k + 1) n))
    ∙ ap (λ ys. xs ++ ys) (sym (ap (held_among o b) (rest_first k n low) ∙ first_held o b k (rest (k + 1) n)))

no_held : (o : Over) (b : Beside) → held_among o b [] ≡ []
unfolding held_among
no_held o b = refl

pub held_none : (o : Over) (b : Beside) (k n : ℕ) (xs : List ℕ) → n ≤ k → xs ++ held_among o b (rest k n) ≡ xs
held_none o b k n xs past =
    ap (λ ys. xs ++ held_among o b ys) (rest_none k n past) ∙ (ap (λ ys. xs ++ ys) (no_held o b) ∙ append-nil xs)

held_is : (o : Over) (x : Option ℕ) (b : Beside)
    → held o x b ≡ with_object x (held_among o b (rest 0 (length o.layout.locations)))
unfolding held held_among
held_is o x b = ap (λ ks. with_object x (held_among o b ks)) (rest_all (length o.layout.locations))

pub held_all : (o : Over) (x : Option ℕ) (b : Beside)
    → held o x b ≡ ([] ++ with_object x []) ++ held_among o b (rest 0 (length o.layout.locations))
held_all o x b = held_is o x b ∙ sym (behind x [] (held_among o b (rest 0 (length o.layout.locations))))

pub ruleset held_steps = (held_turn, held_none, held_all)
