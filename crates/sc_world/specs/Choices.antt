-- Choice lists in their order: false before true, the first bit counting most. What some choice gives, and the first
-- choice that gives it.
use Rattle.std.specs.Prelude.{◌≡◌, ℕ, zero, suc, Bool, true, false, Option, Some, None, List, [], ◌∷◌, ◌++◌, length, if◌then◌else◌}

abbrev pub or_else : {A : Type 0} → Option A → Option A → Option A
or_else None b = b
or_else (Some a) b = Some a

-- the first list that passes, of those that begin with a front and have n bits more
unfoldable pub first_from : (n : ℕ) → List Bool → (List Bool → Bool) → Option (List Bool)
first_from zero front test = if test front then Some front else None
first_from (suc n) front test =
    or_else (first_from n (front ++ false ∷ []) test) (first_from n (front ++ true ∷ []) test)

-- the first list of n bits that passes
abbrev pub first_choice : ℕ → (List Bool → Bool) → Option (List Bool)
first_choice n test = first_from n [] test

-- one list stands before another one of its length
pub data Before : List Bool → List Bool → Type 0 where
  here : (as' bs : List Bool) → Before (false ∷ as') (true ∷ bs)
  behind : (b : Bool) (as' bs : List Bool) → Before as' bs → Before (b ∷ as') (b ∷ bs)

-- the least list of n bits that passes
pub record IsLeast (n : ℕ) (test : List Bool → Bool) (c : List Bool) : Type 0 where
  pub long : length c ≡ n
  pub passes : test c ≡ true
  pub least : (d : List Bool) → length d ≡ n → Before d c → test d ≡ false

-- no list of n bits passes
abbrev pub HasNone : ℕ → (List Bool → Bool) → Type 0
HasNone n test = (d : List Bool) → length d ≡ n → test d ≡ false
