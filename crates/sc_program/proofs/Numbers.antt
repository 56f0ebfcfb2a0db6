-- A table has the number of the first item with each key.
use Rattle.std.proofs.Common.{◌≡◌, ℕ, ◌+◌, Bool, true, false, ◌&&◌, ◌||◌, Option, Some, None, is_some, nat_eq, List, [], ◌∷◌, ◌++◌, if◌then◌else◌, cond, refl, sym, ◌∙◌, ap}
use Rattle.std.proofs.lemmas.Bool.{false≢true, eqb-true}
use Rattle.std.specs.List.{list_any}
use Rattle.std.specs.Option.{option_eq}
use Rattle.sc_program.specs.Firsts.{or_else, number_where}
use Rattle.sc_program.specs.Places.{Key, Table, same_key, place_of, noted}
use Rattle.sc_program.specs.Tables.{noted_if}
use Rattle.sc_program.proofs.Booleans.{and_both, and_true, and_false}

pub or_none : {A : Type 0} (x : Option A) → or_else x None ≡ x
or_none None = refl
or_none (Some a) = refl

pub or_assoc : {A : Type 0} (x y z : Option A) → or_else (or_else x y) z ≡ or_else x (or_else y z)
or_assoc None y z = refl
or_assoc (Some a) y z = refl

-- Keys.

file_is : (x y : Option ℕ) → option_eq nat_eq x y ≡ true → x ≡ y
file_is None None h = refl
file_is None (Some n) h = absurd (false≢true h)
file_is (Some m) None h = absurd (false≢true h)
file_is (Some m) (Some n) h = ap (λ k. Some k) (eqb-true m n h)

key_is : (q k : Key) → same_key q k ≡ true → q ≡ k
key_is (m, x) (n, y) h =
    let sides = and_both (nat_eq m n) (option_eq nat_eq x y) h in
    let names : m ≡ n = eqb-true m n sides.0 in
    let files : x ≡ y = file_is x y sides.1 in
    rw (names, files) refl

-- A number noted for a key.

behind_step : (b : Bool) (v : ℕ) (x y z : Option ℕ) → x ≡ or_else y z → cond b (Some v) x ≡ or_else (cond b (Some v) y) z
behind_step true v x y z is = refl
behind_step false v x y z is = is

place_behind : (q k : Key) (n : ℕ) (es : Table) → place_of q (es ++ (k, n) ∷ []) ≡ or_else (place_of q es) (if same_key q k then Some n else None)
place_behind q k n [] = refl
place_behind q k n (e ∷ es) =
    behind_step (same_key q e.0) e.1 (place_of q (es ++ (k, n) ∷ [])) (place_of q es) (if same_key q k then Some n else None) (place_behind q k n es)

first_stays : (x y : Option ℕ) → is_some x ≡ true → or_else x y ≡ x
first_stays None y h = absurd (false≢true h)
first_stays (Some a) y h = refl

there_by : (b : Bool) (q k : Key) (n : ℕ) (es : Table) → same_key q k ≡ b → is_some (place_of k es) ≡ true → place_of q es ≡ or_else (place_of q es) (if b then Some n else None)
there_by true q k n es same there =
    sym (first_stays (place_of q es) (Some n) (ap (λ (j : Key). is_some (place_of j es)) (key_is q k same) ∙ there))
there_by false q k n es same there = sym (or_none (place_of q es))

noted_by : (b : Bool) (q k : Key) (n : ℕ) (es : Table) → is_some (place_of k es) ≡ b → place_of q (if b then es else es ++ (k, n) ∷ []) ≡ or_else (place_of q es) (if same_key q k then Some n else None)
noted_by true q k n es there = there_by (same_key q k) q k n es refl there
noted_by false q k n es there = place_behind q k n es

pub place_noted : (q k : Key) (n : ℕ) (es : Table) → place_of q (noted k n es) ≡ or_else (place_of q es) (if same_key q k then Some n else None)
place_noted q k n es = noted_by (is_some (place_of k es)) q k n es refl

noted_when : (b : Bool) (q k : Key) (n : ℕ) (es : Table) → place_of q (noted_if b k n es) ≡ or_else (place_of q es) (if same_key q k && b then Some n else None)
noted_when true q k n es = place_noted q k n es ∙ ap (λ c. or_else (place_of q es) (if c then Some n else None)) (sym (and_true (same_key q k)))
noted_when false q k n es = sym (ap (λ c. or_else (place_of q es) (if c then Some n else None)) (and_false (same_key q k)) ∙ or_none (place_of q es))

-- the number that a key has when a number is noted for another key, where the test holds
pub place_noted_if : (b : Bool) (q k : Key) (n : ℕ) (es : Table) → place_of q (noted_if b k n es) ≡ or_else (place_of q es) (if same_key q k && b then Some n else None)
place_noted_if b q k n es = noted_when b q k n es

-- The first item that passes a test.

first_by : {A : Type 0} (b : Bool) (k : A) (x : Option A) → or_else (if b then Some k else None) x ≡ (if b then Some k else x)
first_by true k x = refl
first_by false k x = refl

-- a first number, then that of one item, then those of the rest
pub then_rest : (p : Option ℕ) (b : Bool) (k : ℕ) (rest : Option ℕ) → or_else (or_else p (if b then Some k else None)) rest ≡ or_else p (if b then Some k else rest)
then_rest p b k rest = or_assoc p (if b then Some k else None) rest ∙ ap (λ x. or_else p x) (first_by b k rest)

some_by : (b : Bool) (k : ℕ) (r : Option ℕ) → is_some (cond b (Some k) r) ≡ (b || is_some r)
some_by true k r = refl
some_by false k r = refl

pub some_where : {A : Type 0} (t : A → Bool) (k : ℕ) (xs : List A) → is_some (number_where t k xs) ≡ list_any t xs
some_where t k [] = refl
some_where t k (x ∷ xs) = some_by (t x) k (number_where t (k + 1) xs) ∙ ap (λ b. t x || b) (some_where t (k + 1) xs)

pub some_or : (x y : Option ℕ) → is_some (or_else x y) ≡ (is_some x || is_some y)
some_or None y = refl
some_or (Some a) y = refl

pub some_if : (b : Bool) (n : ℕ) → is_some (if b then Some n else None) ≡ b
some_if true n = refl
some_if false n = refl

pub same_test : {A : Type 0} (s t : A → Bool) → ((x : A) → s x ≡ t x) → (k : ℕ) (xs : List A) → number_where s k xs ≡ number_where t k xs
same_test s t same k [] = refl
same_test s t same k (x ∷ xs) =
    ap (λ b. if b then Some k else number_where s (k + 1) xs) (same x)
    ∙ ap (λ r. if t x then Some k else r) (same_test s t same (k + 1) xs)
