-- Tables by the numbers of names. A table has an entry for each number, and behind its end what a name has that
-- means nothing.
use Rattle.std.specs.Prelude.{◌≡◌, ℕ, nat_eq, Bool, false, List, [], slice_index_or, if◌then◌else◌}
use Rattle.std.specs.List.{list_any}

-- what each name has in each file
abbrev pub Meaning : Type 0 → Type 0
Meaning A = (file name : ℕ) → A

abbrev pub is_among : ℕ → List ℕ → Bool
is_among n ns = list_any (λ m. nat_eq m n) ns

-- the names that may have another meaning in a file than elsewhere
abbrev pub own_names : List (List ℕ) → (file : ℕ) → List ℕ
own_names own f = slice_index_or own f []

-- the table says what each name has in that file
abbrev pub Fills : {A : Type 0} → A → Meaning A → (file : ℕ) → List A → Type 0
Fills none means f table = (n : ℕ) → slice_index_or table n none ≡ means f n

-- a name has in two files the same, unless it is one of their own names
abbrev pub IsSameElsewhere : {A : Type 0} → List (List ℕ) → Meaning A → Type 0
IsSameElsewhere own means =
    (f g n : ℕ) → is_among n (own_names own f) ≡ false → is_among n (own_names own g) ≡ false → means f n ≡ means g n

-- the table of one file, and what it takes to make it that of another
pub record IsTable {A : Type 0} (none : A) (own : List (List ℕ)) (means : Meaning A) (file : ℕ) (table : List A) : Type 0 where
  pub filled : Fills none means file table
  pub elsewhere : IsSameElsewhere own means

-- the table has for these names what they have in that file, and for others what it had before
abbrev pub IsRewritten : {A : Type 0} → A → Meaning A → (file : ℕ) → (names : List ℕ) → (before table : List A) → Type 0
IsRewritten none means f names before table =
    (n : ℕ) → slice_index_or table n none ≡ (if is_among n names then means f n else slice_index_or before n none)

-- the table has that for one name, and for others what it had before
abbrev pub IsPut : {A : Type 0} → A → (name : ℕ) → A → (before table : List A) → Type 0
IsPut none name value before table =
    (n : ℕ) → slice_index_or table n none ≡ (if nat_eq name n then value else slice_index_or before n none)
