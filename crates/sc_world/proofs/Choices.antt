-- The search over choices: by recursion on the bits that are left.
use Rattle.std.proofs.Common.{◌≡◌, ℕ, zero, suc, ◌+◌, Bool, true, false, List, [], ◌∷◌, ◌++◌, length, refl, sym, subst, ap, ◌∙◌, arith}
use Rattle.std.specs.Prelude.{Option, Some, None, if◌then◌else◌}
use Rattle.std.proofs.lemmas.Bool.{false≢true, true≢false}
use Rattle.std.proofs.lemmas.List.{append-nil, append_assoc}
use Rattle.sc_world.specs.Choices.{or_else, first_from, first_choice, Before, here, behind, IsLeast, HasNone}

-- what a search with that front has found: nothing, or the least of the lists that begin with the front
Is : (n : ℕ) → List Bool → (List Bool → Bool) → Option (List Bool) → Type 0
Is n front test None = (d : List Bool) → length d ≡ n → test (front ++ d) ≡ false
Is n front test (Some c) =
    (d : List Bool) × (length d ≡ n) × (c ≡ front ++ d) × (test c ≡ true)
    × ((e : List Bool) → length e ≡ n → Before e d → test (front ++ e) ≡ false)

no_bits : (d : List Bool) → length d ≡ 0 → d ≡ []
no_bits [] l = refl
no_bits (b ∷ bs) l = absurd (omega (arith, l))

nothing_before : (e : List Bool) → Before e [] → ⊥
nothing_before e b = elim b [ ]

at_end : (front : List Bool) (test : List Bool → Bool) (b : Bool) → test front ≡ b → Is 0 front test (if b then Some front else None)
unfolding Is
at_end front test true e =
    ([], refl, sym (append-nil front), e, λ d l b. absurd (nothing_before d b))
at_end front test false e =
    λ d l. rw (no_bits d l) (rw append-nil e)

one_more : (front : List Bool) (b : Bool) (d : List Bool) → front ++ b ∷ d ≡ (front ++ b ∷ []) ++ d
one_more front b d = sym (append_assoc front (b ∷ []) d)

-- all lists that begin with a bit fail where those behind it fail
none_of_both : (n : ℕ) (front : List Bool) (test : List Bool → Bool)
    → ((d : List Bool) → length d ≡ n → test ((front ++ false ∷ []) ++ d) ≡ false)
    → ((d : List Bool) → length d ≡ n → test ((front ++ true ∷ []) ++ d) ≡ false)
    → (d : List Bool) → length d ≡ suc n → test (front ++ d) ≡ false
none_of_both n front test f t [] l = absurd (omega (arith, l))
none_of_both n front test f t (false ∷ d) l = ap test (one_more front false d) ∙ f d (omega (arith, l))
none_of_both n front test f t (true ∷ d) l = ap test (one_more front true d) ∙ t d (omega (arith, l))

-- what stands before a list that begins with false begins with false
before_false : (n : ℕ) (front : List Bool) (test : List Bool → Bool) (d : List Bool)
    → ((e : List Bool) → length e ≡ n → Before e d → test ((front ++ false ∷ []) ++ e) ≡ false)
    → (e : List Bool) → length e ≡ suc n → Before e (false ∷ d) → test (front ++ e) ≡ false
before_false n front test d h e l (behind b es ds q) = ap test (one_more front false es) ∙ h es (omega (arith, l)) q

before_true : (n : ℕ) (front : List Bool) (test : List Bool → Bool) (d : List Bool)
    → ((e : List Bool) → length e ≡ n → test ((front ++ false ∷ []) ++ e) ≡ false)
    → ((e : List Bool) → length e ≡ n → Before e d → test ((front ++ true ∷ []) ++ e) ≡ false)
    → (e : List Bool) → length e ≡ suc n → Before e (true ∷ d) → test (front ++ e) ≡ false
before_true n front test d f h e l (here es ds) = ap test (one_more front false es) ∙ f es (omega (arith, l))
before_true n front test d f h e l (behind b es ds q) = ap test (one_more front true es) ∙ h es (omega (arith, l)) q

join : (n : ℕ) (front : List Bool) (test : List Bool → Bool) (a b : Option (List Bool))
    → Is n (front ++ false ∷ []) test a → Is n (front ++ true ∷ []) test b → Is (suc n) front test (or_else a b)
unfolding Is
join n front test (Some c) b (d, l, is, p, least) t =
    (false ∷ d, omega (arith, l), is ∙ sym (one_more front false d), p, before_false n front test d least)
join n front test None (Some c) f (d, l, is, p, least) =
    (true ∷ d, omega (arith, l), is ∙ sym (one_more front true d), p, before_true n front test d f least)
join n front test None None f t = none_of_both n front test f t

search_is : (n : ℕ) (front : List Bool) (test : List Bool → Bool) → Is n front test (first_from n front test)
unfolding first_from
search_is zero front test = at_end front test (test front) refl
search_is (suc n) front test =
    join n front test _ _ (search_is n (front ++ false ∷ []) test) (search_is n (front ++ true ∷ []) test)

found : (n : ℕ) (test : List Bool → Bool) (c : List Bool) → Is n [] test (Some c) → IsLeast n test c
unfolding Is
found n test c (d, l, is, p, least) =
    subst (λ (x : List Bool). IsLeast n test x) (sym is)
    (record { long = l; passes = ap test (sym is) ∙ p; least = least })

pub least_of : (n : ℕ) (test : List Bool → Bool) (c : List Bool) → first_choice n test ≡ Some c → IsLeast n test c
least_of n test c e = found n test c (subst (λ (r : Option (List Bool)). Is n [] test r) e (search_is n [] test))

none : (n : ℕ) (test : List Bool → Bool) → Is n [] test None → HasNone n test
unfolding Is
none n test h d l = h d l

pub none_of : (n : ℕ) (test : List Bool → Bool) → first_choice n test ≡ None → HasNone n test
none_of n test e = none n test (subst (λ (r : Option (List Bool)). Is n [] test r) e (search_is n [] test))

some_or_none : (n : ℕ) (test : List Bool → Bool) (d : List Bool) → length d ≡ n → test d ≡ true → (r : Option (List Bool)) → first_choice n test ≡ r
    → (c : List Bool) × (first_choice n test ≡ Some c)
some_or_none n test d l p (Some c) e = (c, e)
some_or_none n test d l p None e = absurd (true≢false (sym p ∙ none_of n test e d l))

pub some_of : (n : ℕ) (test : List Bool → Bool) (d : List Bool) → length d ≡ n → test d ≡ true
    → (c : List Bool) × (first_choice n test ≡ Some c)
some_of n test d l p = some_or_none n test d l p (first_choice n test) refl
