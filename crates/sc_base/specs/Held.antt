-- Files as lists of names and bytes, and what is read of them.
use Rattle.std.specs.Prelude.{◌≡◌, ℕ, Bool, List, [], ◌∷◌, take, if◌then◌else◌, Option, Some, None, Result, IfOk, IfSome, IsSome, option_map}
use Rattle.std.specs.List.{list_any}
use Rattle.std.specs.Str.{bytes_eq}
use Rattle.std.specs.Io.KnownBytes.{Consumes, IsAtEnd}

-- the bytes of the first file of that name
abbrev pub bytes_of : List ℕ → List (List ℕ × List ℕ) → Option (List ℕ)
bytes_of name [] = None
bytes_of name (file ∷ files) = if bytes_eq name file.0 then Some file.1 else bytes_of name files

-- whether the name is one of these
abbrev pub is_named : List ℕ → List (List ℕ) → Bool
is_named name names = list_any (bytes_eq name) names

-- Where it is told which files there are, the name is one of them and all its bytes are left.
abbrev pub IsWhole : Option (List (List ℕ × List ℕ)) → List ℕ → Option (List ℕ) → Type 0
IsWhole held name left = IfSome held (λ files. IsSome (bytes_of name files) × (left ≡ bytes_of name files))

-- A read that answers n gave the next n bytes, and 0 only where nothing is left.
abbrev pub Gives : {E : Type 0} → Option (List ℕ) → Option (List ℕ) → Result ℕ E → List ℕ → Type 0
Gives old new result buf = IfOk result (λ n. Consumes old new (take n buf) × (n ≡ 0 → IsAtEnd new))

-- Where it is told which files there are, the bytes read are those of the file of that name, up to
-- the limit: its whole content, or the front of it that has as many bytes as the limit says.
abbrev pub IsRead : ℕ → Option (List (List ℕ × List ℕ)) → List ℕ → List ℕ → Type 0
IsRead limit held name read = IfSome held (λ files. option_map (take limit) (bytes_of name files) ≡ Some read)
