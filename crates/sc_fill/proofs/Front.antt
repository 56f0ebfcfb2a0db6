-- The front of a queue.
use Rattle.std.proofs.Common.{◌≡◌, ℕ, ◌+◌, ◌<◌, ◌↔◌, Option, Some, None, IsSome, IfSome, MatchOption, List, [], ◌∷◌, ◌++◌, length, refl, sym, ◌∙◌, ap, arith}
use Rattle.std.proofs.lemmas.Bool.{false≢true}
use Rattle.std.specs.List.{slice_index_or}
use Rattle.std.specs.Option.{option_copied, option_to_list}
use Rattle.std.specs.Borrow.{Bor}
use Rattle.sc_fill.specs.Filling.{first_of}

pub first_is : {A : Type 0} (xs : List A) (n : ℕ) (r : Option (Bor A)) → n ≡ length xs → (IsSome r ↔ (0 < n)) → IfSome r (λ x. x.now ≡ slice_index_or xs 0 x.now) → option_copied r ≡ first_of xs
first_is [] n None len some at = refl
first_is [] n (Some x) len some at = absurd (omega (arith, some.0 refl, len))
first_is (e ∷ es) n None len some at = absurd (false≢true (some.1 (omega (arith, len))))
first_is (e ∷ es) n (Some x) len some at = ap (λ y. Some y) at

nothing : {A : Type 0} (xs : List A) → length xs ≡ 0 → xs ≡ []
nothing [] none = refl
nothing (x ∷ xs) none = absurd (omega (arith, none))

pub popped : {A : Type 0} (old new : List A) (m n : ℕ) (r : Option A) → m ≡ length old → n ≡ length new → old ≡ option_to_list r ++ new → MatchOption r ((m ≡ 0) × (n ≡ 0)) (λ e. n + 1 ≡ m)
    → MatchOption r ((old ≡ []) × (new ≡ [])) (λ e. old ≡ e ∷ new)
popped old new m n None len_old len_new items cases = (nothing old (sym len_old ∙ cases.0), nothing new (sym len_new ∙ cases.1))
popped old new m n (Some e) len_old len_new items cases = items
