-- The parameters of the entry bits are the first three integers and pointers.
use Rattle.std.proofs.Common.{◌≡◌, ℕ, zero, suc, ◌+◌, ◌-◌, ◌<◌, ◌≤◌, Bool, true, false, List, [], ◌∷◌, cond, map, filter, take, ltb, refl, sym, ap, ◌∙◌, arith}
use Rattle.std.specs.Prelude.{nat_lt, ◌&&◌}
use Rattle.std.proofs.lemmas.Bool.{ltb-true, ltb-false}
use Rattle.json.specs.Json.{Json}
use Rattle.sc_typed.specs.declared.program.Param.{Param}
use Rattle.sc_typed.specs.declared.program.Program.{Program}
use Rattle.sc_typed.specs.Types.{is_scalar}
use Rattle.verdict_json.specs.Functions.{parameter_value, entry_values}

none : List Param
none = []

take_none : (n : ℕ) → take n none ≡ none
unfolding none
take_none zero = refl
take_none (suc n) = refl

abbrev scalars : List Param → List Param
scalars qs = filter (λ (q : Param). is_scalar q.ctype) qs

module _ (p : Program) where
  abbrev values : List Param → List Json
  values qs = map (parameter_value p) qs

  -- one parameter more, which is listed or not
  more : (n : ℕ) (q : Param) (qs : List Param) (few scalar : Bool) → nat_lt n 3 ≡ few
      → entry_values p n qs ≡ values (take (3 - n) (scalars qs))
      → entry_values p (n + 1) qs ≡ values (take (3 - (n + 1)) (scalars qs))
      → cond (few && scalar) (parameter_value p q ∷ entry_values p (n + 1) qs) (entry_values p n qs)
      ≡ values (take (3 - n) (cond scalar (q ∷ scalars qs) (scalars qs)))
  more n q qs true true is same next =
      let one : 3 - n ≡ suc (3 - (n + 1)) = omega (arith, ltb-true n 3 is) in
      ap (λ vs. parameter_value p q ∷ vs) next ∙ ap (λ k. values (take k (q ∷ scalars qs))) (sym one)
  more n q qs true false is same next = same
  more n q qs false true is same next =
      let none_left : 3 - n ≡ 0 = omega (arith, ltb-false n 3 is) in
      same ∙ ap (λ k. values (take k (scalars qs))) none_left ∙ ap (λ k. values (take k (q ∷ scalars qs))) (sym none_left)
  more n q qs false false is same next = same

  pub entry_same : (n : ℕ) (qs : List Param) → entry_values p n qs ≡ values (take (3 - n) (scalars qs))
  unfolding none
  entry_same n [] = ap values (sym (take_none (3 - n)))
  entry_same n (q ∷ qs) =
      more n q qs (nat_lt n 3) (is_scalar q.ctype) refl (entry_same n qs) (entry_same (n + 1) qs)
