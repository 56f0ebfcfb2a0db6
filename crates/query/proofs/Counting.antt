-- The values under a bit that is false, and behind them those under the bit that is true.

use Rattle.std.proofs.Common.{◌≡◌, ℕ, ◌+◌, ◌-◌, ◌*◌, ◌<◌, ◌≤◌, Bool, true, false, not, ◌&&◌, if◌then◌else◌, List, [], ◌∷◌, ◌++◌, length, length-append, drop, get_or, refl, sym, subst, ap, ◌∙◌, ⊎_elim, arith}
use Rattle.std.proofs.lemmas.List.{drop_more, drop_all, length-map, get_or_append_left, get_or-append_right}
use Rattle.std.proofs.lemmas.List.Elements.{Contains-get_or, Contains-append_left, Contains-append_right, Contains-append_cases}
use Rattle.std.proofs.lemmas.Bool.{cases_lt, cases_Bool, and_parts, and_from, not-true, false≢true}
use Rattle.std.specs.List.{Contains}
use Rattle.std.specs.List.Sorted.{IsStrictlyIncreasing}
use Rattle.sat_base.specs.declared.literal.Lit.{Lit}
use Rattle.sat_base.specs.Logic.{negation, lit_true, satisfied}
use Rattle.query.specs.Values.{values_of, number_from, ListsValues}
use Rattle.query.proofs.Fixed.{satisfied-push, lit_true-negation}

-- a smaller number before as many bits gives a smaller number
number_from-less : (h i : ℕ) (bs cs : List Bool) → length bs ≡ length cs → h < i → number_from h bs < number_from i cs
number_from-less h i [] [] same less = less
number_from-less h i [] (c ∷ cs) same less = absurd (omega (arith, same))
number_from-less h i (b ∷ bs) [] same less = absurd (omega (arith, same))
number_from-less h i (true ∷ bs) (true ∷ cs) same less = number_from-less (2 * h + 1) (2 * i + 1) bs cs (omega (arith, same)) (omega (arith, less))
number_from-less h i (true ∷ bs) (false ∷ cs) same less = number_from-less (2 * h + 1) (2 * i) bs cs (omega (arith, same)) (omega (arith, less))
number_from-less h i (false ∷ bs) (true ∷ cs) same less = number_from-less (2 * h) (2 * i + 1) bs cs (omega (arith, same)) (omega (arith, less))
number_from-less h i (false ∷ bs) (false ∷ cs) same less = number_from-less (2 * h) (2 * i) bs cs (omega (arith, same)) (omega (arith, less))

rising_append : (xs ys : List ℕ) → IsStrictlyIncreasing xs → IsStrictlyIncreasing ys
    → ((x y : ℕ) → Contains xs x → Contains ys y → x < y) → IsStrictlyIncreasing (xs ++ ys)
rising_append xs ys first next apart k below =
    let total : k + 1 < length xs + length ys = subst (λ n. k + 1 < n) (length-append xs ys) below in
    ⊎_elim
    (λ within.
    subst (λ n. n < get_or (xs ++ ys) (k + 1) 0) (sym (get_or_append_left xs ys 0 k (omega (arith, within))))
    (subst (λ n. get_or xs k 0 < n) (sym (get_or_append_left xs ys 0 (k + 1) within)) (first k within)))
    (λ past. ⊎_elim
    (λ last.
    let e0 = get_or_append_left xs ys 0 k (omega (arith, last)) in
    let e1 = get_or-append_right xs ys (length xs) (k + 1) 0 refl past in
    let less = apart (get_or xs k 0) (get_or ys (k + 1 - length xs) 0) (Contains-get_or xs k 0 (omega (arith, last)))
    (Contains-get_or ys (k + 1 - length xs) 0 (omega (arith, total, past))) in
    subst (λ n. n < get_or (xs ++ ys) (k + 1) 0) (sym e0) (subst (λ n. get_or xs k 0 < n) (sym e1) less))
    (λ behind.
    let e0 = get_or-append_right xs ys (length xs) k 0 refl behind in
    let e1 = get_or-append_right xs ys (length xs) (k + 1) 0 refl past in
    let j : k + 1 - length xs ≡ k - length xs + 1 = omega (arith, behind) in
    let less = next (k - length xs) (omega (arith, total, behind)) in
    subst (λ n. n < get_or (xs ++ ys) (k + 1) 0) (sym e0)
    (subst (λ n. get_or ys (k - length xs) 0 < n) (sym (e1 ∙ ap (λ i. get_or ys i 0) j)) less))
    (cases_lt k (length xs)))
    (cases_lt (k + 1) (length xs))

-- no model
pub lists_none : (clauses : List (List Lit)) (bits fixed : List Lit) (high : ℕ) (values : List ℕ)
    → values ≡ [] → ((f : ℕ → Bool) → satisfied f clauses fixed ≡ false) → ListsValues clauses bits fixed high values
lists_none clauses bits fixed high values is none =
    subst (ListsValues clauses bits fixed high) (sym is)
    (record {
      rising = λ k below. absurd (omega (arith, below));
      exact = λ v. ((λ has. absurd (omega (arith, has.1))), (λ occurs. absurd (false≢true (sym (none occurs.0) ∙ occurs.1))));
    })

-- no bit is left
pub lists_one : (clauses : List (List Lit)) (bits fixed : List Lit) (high place : ℕ) (values : List ℕ)
    → values ≡ high ∷ [] → length bits ≤ place → (f : ℕ → Bool) → satisfied f clauses fixed ≡ true
    → ListsValues clauses (drop place bits) fixed high values
lists_one clauses bits fixed high place values is end f holds =
    subst (λ rest. ListsValues clauses rest fixed high values) (sym (drop_all place bits end))
    (subst (ListsValues clauses [] fixed high) (sym is)
    (record {
      rising = λ k below. absurd (omega (arith, below));
      exact =
          λ v. (
            (λ has.
                let first : has.0 ≡ 0 = omega (arith, has.1) in
                (f, holds, subst (λ k. get_or (high ∷ []) k v ≡ v) first has.2)),
            (λ occurs. (0, omega arith, occurs.2)),
          );
    }))

high_if : (f : ℕ → Bool) (high : ℕ) (bit : Lit) (b : Bool) → lit_true f bit ≡ b
    → (if lit_true f bit then 2 * high + 1 else 2 * high) ≡ (if b then 2 * high + 1 else 2 * high)
high_if f high bit b is = ap (λ x. if x then 2 * high + 1 else 2 * high) is

-- the values under both values of a bit
lists_both : (clauses : List (List Lit)) (bit : Lit) (rest fixed without with' : List Lit) (high : ℕ) (xs ys : List ℕ)
    → without ≡ fixed ++ negation bit ∷ [] → with' ≡ fixed ++ bit ∷ []
    → ListsValues clauses rest without (2 * high) xs → ListsValues clauses rest with' (2 * high + 1) ys
    → ListsValues clauses (bit ∷ rest) fixed high (xs ++ ys)
lists_both clauses bit rest fixed without with' high xs ys is0 is1 low high' =
    let split0 : (f : ℕ → Bool) → satisfied f clauses without ≡ (satisfied f clauses fixed && not (lit_true f bit)) =
    λ f. ap (satisfied f clauses) is0 ∙ satisfied-push f clauses fixed (negation bit) ∙ ap (λ b. satisfied f clauses fixed && b) (lit_true-negation f bit) in
    let split1 : (f : ℕ → Bool) → satisfied f clauses with' ≡ (satisfied f clauses fixed && lit_true f bit) =
    λ f. ap (satisfied f clauses) is1 ∙ satisfied-push f clauses fixed bit in
    record {
      rising =
          rising_append xs ys low.rising high'.rising
          (λ x y in_x in_y.
          let o0 = (low.exact x).0 in_x in
          let o1 = (high'.exact y).0 in_y in
          let less = number_from-less (2 * high) (2 * high + 1) (values_of o0.0 rest) (values_of o1.0 rest)
          (length-map rest (lit_true o0.0) ∙ sym (length-map rest (lit_true o1.0))) (omega arith) in
          subst (λ n. n < y) o0.2 (subst (λ n. number_from (2 * high) (values_of o0.0 rest) < n) o1.2 less));
      exact =
          λ v. (
            (λ has. ⊎_elim
                (λ in_x.
                let o = (low.exact v).0 in_x in
                let parts = and_parts (satisfied o.0 clauses fixed) (not (lit_true o.0 bit)) (sym (split0 o.0) ∙ o.1) in
                (o.0, parts.0, ap (λ n. number_from n (values_of o.0 rest)) (high_if o.0 high bit false (not-true (lit_true o.0 bit) parts.1)) ∙ o.2))
                (λ in_y.
                let o = (high'.exact v).0 in_y in
                let parts = and_parts (satisfied o.0 clauses fixed) (lit_true o.0 bit) (sym (split1 o.0) ∙ o.1) in
                (o.0, parts.0, ap (λ n. number_from n (values_of o.0 rest)) (high_if o.0 high bit true parts.1) ∙ o.2))
                (Contains-append_cases xs ys v has)),
            (λ o. ⊎_elim
                (λ yes'.
                Contains-append_right xs ys v
                ((high'.exact v).1 (
                  o.0,
                  split1 o.0 ∙ and_from (satisfied o.0 clauses fixed) (lit_true o.0 bit) o.1 yes',
                  ap (λ n. number_from n (values_of o.0 rest)) (sym (high_if o.0 high bit true yes')) ∙ o.2,
                )))
                (λ no'.
                Contains-append_left xs ys v
                ((low.exact v).1 (
                  o.0,
                  split0 o.0 ∙ and_from (satisfied o.0 clauses fixed) (not (lit_true o.0 bit)) o.1 (ap not no'),
                  ap (λ n. number_from n (values_of o.0 rest)) (sym (high_if o.0 high bit false no')) ∙ o.2,
                )))
                (cases_Bool (lit_true o.0 bit))),
          );
    }

pub lists_split : (clauses : List (List Lit)) (bits : List Lit) (place : ℕ) (d bit : Lit) (fixed without with' : List Lit) (high : ℕ) (xs ys all : List ℕ)
    → place < length bits → bit ≡ get_or bits place d
    → without ≡ fixed ++ negation bit ∷ [] → with' ≡ fixed ++ bit ∷ []
    → ListsValues clauses (drop (place + 1) bits) without (2 * high) xs → ListsValues clauses (drop (place + 1) bits) with' (2 * high + 1) ys
    → all ≡ xs ++ ys
    → ListsValues clauses (drop place bits) fixed high all
lists_split clauses bits place d bit fixed without with' high xs ys all inside is is0 is1 low high' both =
    subst (λ rest. ListsValues clauses rest fixed high all)
    (sym (drop_more bits place d inside ∙ ap (λ l. l ∷ drop (place + 1) bits) (sym is)))
    (subst (ListsValues clauses (bit ∷ drop (place + 1) bits) fixed high) (sym both)
    (lists_both clauses bit (drop (place + 1) bits) fixed without with' high xs ys is0 is1 low high'))
