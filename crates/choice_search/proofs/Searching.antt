-- All lists of choices from one on, in their order.
use Rattle.std.proofs.Common.{◌≡◌, ◌∙◌, ℕ, zero, suc, ◌+◌, ◌^◌, ◌<◌, Bool, true, false, List}
use Rattle.std.proofs.Common.{[], ◌∷◌, ◌++◌, length, Option, Some, None, refl, sym, subst, ap, arith, append_assoc}
use Rattle.std.specs.Prelude.{replicate, if◌then◌else◌}
use Rattle.std.proofs.lemmas.List.{append-nil}
use Rattle.std.proofs.Math.ListN.{length-replicate}
use Rattle.sc_world.specs.Choices.{or_else, first_from, first_choice}
use Rattle.choice_search.specs.Behind.{behind, behind_of, first_at_or_behind, left}

-- from the first one on these are all
pub all_from_blank : (n : ℕ) (front : List Bool) (test : List Bool → Bool)
    → first_at_or_behind front (replicate n false) test ≡ first_from n front test
unfolding first_at_or_behind first_from
all_from_blank zero front test = refl
all_from_blank (suc n) front test =
    ap (λ first. or_else first (first_from (length (replicate n false)) (front ++ true ∷ []) test))
    (all_from_blank n (front ++ false ∷ []) test)
    ∙ ap (λ k. or_else (first_from n (front ++ false ∷ []) test) (first_from k (front ++ true ∷ []) test))
    (length-replicate n false)

-- one that passes is the first from itself on
pub found_here : (front bs : List Bool) (test : List Bool → Bool) → test (front ++ bs) ≡ true
    → first_at_or_behind front bs test ≡ Some (front ++ bs)
unfolding first_at_or_behind
found_here front [] test passes =
    let same = append-nil front in
    let e : test front ≡ true = ap test (sym same) ∙ passes in
    ap (λ b. if b then Some front else None) e ∙ ap Some (sym same)
found_here front (true ∷ bs) test passes =
    let same = append_assoc front (true ∷ []) bs in
    found_here (front ++ true ∷ []) bs test (ap test same ∙ passes) ∙ ap Some same
found_here front (false ∷ bs) test passes =
    let same = append_assoc front (false ∷ []) bs in
    ap (λ first. or_else first (first_from (length bs) (front ++ true ∷ []) test))
    (found_here (front ++ false ∷ []) bs test (ap test same ∙ passes)) ∙ ap Some same

-- the first from the list behind on
abbrev pub from_behind : List Bool → Option (List Bool) → (List Bool → Bool) → Option (List Bool)
from_behind front None test = None
from_behind front (Some cs) test = first_at_or_behind front cs test

pub behind_length : (bs cs : List Bool) → behind bs ≡ Some cs → length cs ≡ length bs
unfolding behind
behind_length [] cs e = absurd (let wrong : None ≡ Some cs = e in cc)
behind_length (b ∷ bs) cs e = go b (behind bs) refl e (λ ds d. behind_length bs ds d)
  where
    some_is : (x y : List Bool) → Some x ≡ Some y → y ≡ x
    some_is x y s = cc

    go : (c : Bool) (o : Option (List Bool)) → behind bs ≡ o → behind_of c (length bs) o ≡ Some cs
        → ((ds : List Bool) → behind bs ≡ Some ds → length ds ≡ length bs) → length cs ≡ length (c ∷ bs)
    go c (Some ds) o s rest = ap length (some_is (c ∷ ds) cs s) ∙ ap suc (rest ds o)
    go true None o s rest = absurd (let wrong : None ≡ Some cs = s in cc)
    go false None o s rest =
        ap length (some_is (true ∷ replicate (length bs) false) cs s) ∙ ap suc (length-replicate (length bs) false)

-- one that does not pass is passed over
pub goes_on : (front bs : List Bool) (test : List Bool → Bool) → test (front ++ bs) ≡ false
    → first_at_or_behind front bs test ≡ from_behind front (behind bs) test
unfolding first_at_or_behind behind
goes_on front [] test fails =
    let e : test front ≡ false = ap test (sym (append-nil front)) ∙ fails in
    ap (λ b. if b then Some front else None) e
goes_on front (true ∷ bs) test fails =
    goes_on (front ++ true ∷ []) bs test (ap test (append_assoc front (true ∷ []) bs) ∙ fails)
    ∙ turn_true (behind bs)
  where
    turn_true : (o : Option (List Bool))
        → from_behind (front ++ true ∷ []) o test ≡ from_behind front (behind_of true (length bs) o) test
    turn_true None = refl
    turn_true (Some cs) = refl
goes_on front (false ∷ bs) test fails =
    ap (λ first. or_else first (first_from (length bs) (front ++ true ∷ []) test))
    (goes_on (front ++ false ∷ []) bs test (ap test (append_assoc front (false ∷ []) bs) ∙ fails))
    ∙ turn_false (behind bs) refl
  where
    turn_false : (o : Option (List Bool)) → behind bs ≡ o
        → or_else (from_behind (front ++ false ∷ []) o test) (first_from (length bs) (front ++ true ∷ []) test)
        ≡ from_behind front (behind_of false (length bs) o) test
    turn_false None e = sym (all_from_blank (length bs) (front ++ true ∷ []) test)
    turn_false (Some cs) e =
        ap (λ k. or_else (first_at_or_behind (front ++ false ∷ []) cs test) (first_from k (front ++ true ∷ []) test))
        (sym (behind_length bs cs e))

-- ---- an end of the steps

left_blank : (n : ℕ) → left (replicate n false) + 1 ≡ 2 ^ n
unfolding left
left_blank zero = refl
left_blank (suc n) =
    let more = left_blank n in
    let same : 2 ^ length (replicate n false) ≡ 2 ^ n = ap (λ k. 2 ^ k) (length-replicate n false) in
    let twice : 2 ^ suc n ≡ 2 ^ n + 2 ^ n = omega arith in
    omega (arith, more, same, twice)

none_left : (bs : List Bool) → behind bs ≡ None → left bs ≡ 0
unfolding behind left
none_left [] e = refl
none_left (b ∷ bs) e = go b (behind bs) refl e (λ d. none_left bs d)
  where
    go : (c : Bool) (o : Option (List Bool)) → behind bs ≡ o → behind_of c (length bs) o ≡ None
        → (behind bs ≡ None → left bs ≡ 0) → left (c ∷ bs) ≡ 0
    go c (Some ds) o s rest = absurd (let wrong : Some (c ∷ ds) ≡ None = s in cc)
    go true None o s rest = rest o
    go false None o s rest = absurd (let wrong : Some (true ∷ replicate (length bs) false) ≡ None = s in cc)

pub fewer_left : (bs cs : List Bool) → behind bs ≡ Some cs → left cs < left bs
unfolding behind left
fewer_left [] cs e = absurd (let wrong : None ≡ Some cs = e in cc)
fewer_left (b ∷ bs) cs e = go b (behind bs) refl e (λ ds d. fewer_left bs ds d)
  where
    some_is : (x y : List Bool) → Some x ≡ Some y → y ≡ x
    some_is x y s = cc

    go : (c : Bool) (o : Option (List Bool)) → behind bs ≡ o → behind_of c (length bs) o ≡ Some cs
        → ((ds : List Bool) → behind bs ≡ Some ds → left ds < left bs) → left cs < left (c ∷ bs)
    go true (Some ds) o s rest = subst (λ x. left x < left bs) (sym (some_is (true ∷ ds) cs s)) (rest ds o)
    go false (Some ds) o s rest =
        let less = rest ds o in
        let long : 2 ^ length ds ≡ 2 ^ length bs = ap (λ k. 2 ^ k) (behind_length bs ds o) in
        subst (λ x. left x < left bs + 2 ^ length bs) (sym (some_is (false ∷ ds) cs s)) (omega (arith, less, long))
    go true None o s rest = absurd (let wrong : None ≡ Some cs = s in cc)
    go false None o s rest =
        let blank = left_blank (length bs) in
        let none = none_left bs o in
        subst (λ x. left x < left bs + 2 ^ length bs) (sym (some_is (true ∷ replicate (length bs) false) cs s))
        (omega (arith, blank, none))

-- ---- as the law has it

pub starts : (n : ℕ) (test : List Bool → Bool) → first_at_or_behind [] (replicate n false) test ≡ first_choice n test
starts n test = all_from_blank n [] test

pub finds : (bs : List Bool) (test : List Bool → Bool) → test bs ≡ true → first_at_or_behind [] bs test ≡ Some bs
finds bs test passes = found_here [] bs test passes

pub steps_on : (bs cs : List Bool) (test : List Bool → Bool) → test bs ≡ false → behind bs ≡ Some cs
    → first_at_or_behind [] bs test ≡ first_at_or_behind [] cs test
steps_on bs cs test fails next = goes_on [] bs test fails ∙ ap (λ o. from_behind [] o test) next

pub stops : (bs : List Bool) (test : List Bool → Bool) → test bs ≡ false → behind bs ≡ None
    → first_at_or_behind [] bs test ≡ None
stops bs test fails next = goes_on [] bs test fails ∙ ap (λ o. from_behind [] o test) next
