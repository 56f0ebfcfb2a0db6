-- What the number of a name's latest entry tells: where the entry stands, and what a look-up gives.
use Rattle.std.proofs.Common.{◌≡◌, ℕ, ◌+◌, ◌<◌, ◌≤◌, suc, zero, nat_eq, Bool, true, false, length, map, reverse, take, get_or, Some, None, List, [], ◌∷◌, refl, ◌∙◌, arith}
use Rattle.std.proofs.lemmas.List.{length-reverse, get_or_push, get_or_append_left}
use Rattle.std.proofs.lemmas.Grind.{reverse_onto}
use Rattle.std.specs.Cmp.{nat_eq_equiv}
use Rattle.std.specs.Map.{lookup}
use Rattle.scopes.specs.declared.stack.Entry.{Entry}
use Rattle.scopes.specs.Stack.{named, latest_of}

step_number : {T : Type 0} (e : Entry T) (es : List (Entry T)) (name i : ℕ) (b : Bool) → nat_eq e.name name ≡ b → latest_of (e ∷ es) name ≡ Some i → (latest_of es name ≡ Some i → i < length es) → i < length (e ∷ es)
step_number e es name i true same is rest = let at : Some (length es) ≡ Some i = rw same at is in let here : length es ≡ i = (cc) in omega arith
step_number e es name i false other is rest = let below : i < length es = rest (rw other at is) in omega arith

-- the number of an entry is below how many there are
pub number-lt : {T : Type 0} (es : List (Entry T)) (name i : ℕ) → latest_of es name ≡ Some i → i < length es
number-lt [] name i is = (cc)
number-lt (e ∷ es) name i is = step_number e es name i (nat_eq e.name name) refl is (number-lt es name i)

at_top : {T : Type 0} (e : Entry T) (es : List (Entry T)) (d : Entry T) → get_or (reverse (e ∷ es)) (length es) d ≡ e
at_top e es d = rw (reverse_onto es e []) (get_or_push (reverse es) e d (length es) (length-reverse es))

below_top : {T : Type 0} (e : Entry T) (es : List (Entry T)) (i : ℕ) (d : Entry T) → i < length es → get_or (reverse (e ∷ es)) i d ≡ get_or (reverse es) i d
below_top e es i d below = rw (reverse_onto es e []) (get_or_append_left (reverse es) (e ∷ []) d i (rw (length-reverse es) below))

step_value : {T : Type 0} (e : Entry T) (es : List (Entry T)) (name i : ℕ) (d : Entry T) (b : Bool) → nat_eq e.name name ≡ b → latest_of (e ∷ es) name ≡ Some i → (latest_of es name ≡ Some i → Some (get_or (reverse es) i d).value ≡ lookup (nat_eq name) (map named es)) → Some (get_or (reverse (e ∷ es)) i d).value ≡ lookup (nat_eq name) (map named (e ∷ es))
step_value e es name i d true same is rest =
    let at : Some (length es) ≡ Some i = rw same at is in
    let here : length es ≡ i = (cc) in
    let asked : nat_eq name e.name ≡ true = nat_eq_equiv.symm name e.name ∙ same in
    rw (asked, ← here, at_top e es d) refl
step_value e es name i d false other is rest =
    let lower : latest_of es name ≡ Some i = rw other at is in
    let asked : nat_eq name e.name ≡ false = nat_eq_equiv.symm name e.name ∙ other in
    rw (asked, below_top e es i d (number-lt es name i lower)) (rest lower)

-- the entry with the number has what a look-up of the name gives
pub value_at : {T : Type 0} (es : List (Entry T)) (name i : ℕ) (d : Entry T) → latest_of es name ≡ Some i → Some (get_or (reverse es) i d).value ≡ lookup (nat_eq name) (map named es)
value_at [] name i d is = (cc)
value_at (e ∷ es) name i d is = step_value e es name i d (nat_eq e.name name) refl is (value_at es name i d)

step_absent : {T : Type 0} (e : Entry T) (es : List (Entry T)) (name n : ℕ) (b : Bool) → nat_eq e.name name ≡ b → latest_of (e ∷ es) name ≡ None → (latest_of es name ≡ None → lookup (nat_eq name) (take n (map named es)) ≡ None) → lookup (nat_eq name) (named e ∷ take n (map named es)) ≡ None
step_absent e es name n true same is rest = let no : Some (length es) ≡ None = rw same at is in (cc)
step_absent e es name n false other is rest =
    let asked : nat_eq name e.name ≡ false = nat_eq_equiv.symm name e.name ∙ other in
    rw asked (rest (rw other at is))

-- with no number there is no entry of the name, among the latest either
pub absent_among : {T : Type 0} (es : List (Entry T)) (name n : ℕ) → latest_of es name ≡ None → lookup (nat_eq name) (take n (map named es)) ≡ None
absent_among es name zero is = refl
absent_among [] name (suc n) is = refl
absent_among (e ∷ es) name (suc n) is = step_absent e es name n (nat_eq e.name name) refl is (absent_among es name n)

pub absent : {T : Type 0} (es : List (Entry T)) (name : ℕ) → latest_of es name ≡ None → lookup (nat_eq name) (map named es) ≡ None
absent [] name is = refl
absent (e ∷ es) name is =
    step_whole e es name (nat_eq e.name name) refl is (absent es name)
  where
    step_whole : {T : Type 0} (e : Entry T) (es : List (Entry T)) (name : ℕ) (b : Bool) → nat_eq e.name name ≡ b → latest_of (e ∷ es) name ≡ None → (latest_of es name ≡ None → lookup (nat_eq name) (map named es) ≡ None) → lookup (nat_eq name) (map named (e ∷ es)) ≡ None
    step_whole e es name true same is rest = let no : Some (length es) ≡ None = rw same at is in (cc)
    step_whole e es name false other is rest =
        let asked : nat_eq name e.name ≡ false = nat_eq_equiv.symm name e.name ∙ other in
        rw asked (rest (rw other at is))

step_among : {T : Type 0} (e : Entry T) (es : List (Entry T)) (name i n : ℕ) (b : Bool) → nat_eq e.name name ≡ b → latest_of (e ∷ es) name ≡ Some i → (latest_of es name ≡ Some i → lookup (nat_eq name) (take n (map named es)) ≡ lookup (nat_eq name) (map named es)) → lookup (nat_eq name) (named e ∷ take n (map named es)) ≡ lookup (nat_eq name) (map named (e ∷ es))
step_among e es name i n true same is rest =
    let asked : nat_eq name e.name ≡ true = nat_eq_equiv.symm name e.name ∙ same in
    rw asked refl
step_among e es name i n false other is rest =
    let asked : nat_eq name e.name ≡ false = nat_eq_equiv.symm name e.name ∙ other in
    rw asked (rest (rw other at is))

-- an entry among the latest n is what a look-up among them gives
pub within_latest : {T : Type 0} (es : List (Entry T)) (name i n : ℕ) → latest_of es name ≡ Some i → length es ≤ i + n → lookup (nat_eq name) (take n (map named es)) ≡ lookup (nat_eq name) (map named es)
within_latest [] name i n is near = (cc)
within_latest (e ∷ es) name i zero is near = let below : i < length (e ∷ es) = number-lt (e ∷ es) name i is in absurd (omega arith)
within_latest (e ∷ es) name i (suc n) is near = step_among e es name i n (nat_eq e.name name) refl is (λ lower. within_latest es name i n lower (omega arith))

step_beyond : {T : Type 0} (e : Entry T) (es : List (Entry T)) (name i n : ℕ) (b : Bool) → nat_eq e.name name ≡ b → latest_of (e ∷ es) name ≡ Some i → i + suc n < length (e ∷ es) → (latest_of es name ≡ Some i → lookup (nat_eq name) (take n (map named es)) ≡ None) → lookup (nat_eq name) (named e ∷ take n (map named es)) ≡ None
step_beyond e es name i n true same is far rest =
    let at : Some (length es) ≡ Some i = rw same at is in
    let here : length es ≡ i = (cc) in
    absurd (omega arith)
step_beyond e es name i n false other is far rest =
    let asked : nat_eq name e.name ≡ false = nat_eq_equiv.symm name e.name ∙ other in
    rw asked (rest (rw other at is))

-- an entry below the latest n is not among them
pub beyond_latest : {T : Type 0} (es : List (Entry T)) (name i n : ℕ) → latest_of es name ≡ Some i → i + n < length es → lookup (nat_eq name) (take n (map named es)) ≡ None
beyond_latest es name i zero is far = refl
beyond_latest [] name i (suc n) is far = refl
beyond_latest (e ∷ es) name i (suc n) is far = step_beyond e es name i n (nat_eq e.name name) refl is far (λ lower. beyond_latest es name i n lower (omega arith))
