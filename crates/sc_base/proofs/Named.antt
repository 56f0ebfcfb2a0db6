-- What it means that a name is one of those that are held: look-ups of files by name.
use Rattle.std.proofs.Common.{◌≡◌, ◌==◌, ◌||◌, ◌<◌, ℕ, true, false, List, [], ◌∷◌, map, length, drop, get_or, Some, None, is_some, if◌then◌else◌, refl, arith, drop-cons, string_bytes, String, Vec}
use Rattle.std.proofs.lemmas.Option.{slice_get-get_or}
use Rattle.std.specs.declared.alloc.Global.{Global}
use Rattle.std.specs.List.{list_any}
use Rattle.std.specs.Str.{bytes_eq}
use Rattle.sc_base.specs.Held.{bytes_of, is_named}
use Rattle.sc_base.specs.Memory.{named_bytes, content_at}

-- a name is that of a file exactly where its bytes are found
is_named-names : (name : List ℕ) (held : List (List ℕ × List ℕ)) → is_named name (map (λ file. file.0) held) ≡ is_some (bytes_of name held)
is_named-names name [] = refl
is_named-names name (file ∷ held) =
    elim (bytes_eq name file.0) as (λ b. (b || is_named name (map (λ (f : List ℕ × List ℕ). f.0) held)) ≡ is_some (if b then Some file.1 else bytes_of name held))
    [ true ↦ refl | false ↦ is_named-names name held ]

-- where no call is to fail, a firm name is one that is held; else there is none
is_named-firm : (name : List ℕ) (held : List (List ℕ × List ℕ)) (failing : List ℕ) → is_named name (if length failing == 0 then map (λ file. file.0) held else []) ≡ (if length failing == 0 then is_some (bytes_of name held) else false)
is_named-firm name held failing =
    elim (length failing == 0) as (λ b. is_named name (if b then map (λ (f : List ℕ × List ℕ). f.0) held else []) ≡ (if b then is_some (bytes_of name held) else false))
    [ true ↦ is_named-names name held | false ↦ refl ]

-- the name of a file that is found is firm exactly where no call is to fail
pub firm_where_found : (name : List ℕ) (held : List (List ℕ × List ℕ)) (failing bytes : List ℕ) → bytes_of name held ≡ Some bytes → (length failing == 0) ≡ is_named name (if length failing == 0 then map (λ file. file.0) held else [])
firm_where_found name held failing bytes found =
    rw (is_named-firm, found) (elim (length failing == 0) as (λ b. b ≡ (if b then true else false)) [ true ↦ refl | false ↦ refl ])

-- a name that is not found is not firm
pub not_firm_unless_found : (name : List ℕ) (held : List (List ℕ × List ℕ)) (failing : List ℕ) → bytes_of name held ≡ None → is_named name (if length failing == 0 then map (λ file. file.0) held else []) ≡ false
not_firm_unless_found name held failing missing =
    rw (is_named-firm, missing) (elim (length failing == 0) as (λ b. (if b then false else false) ≡ false) [ true ↦ refl | false ↦ refl ])

-- where a call is to fail, no name is firm
pub not_firm_where_failing : (name : List ℕ) (held : List (List ℕ × List ℕ)) (failing : List ℕ) (number : ℕ) → list_any (λ call. call == number) failing ≡ true → is_named name (if length failing == 0 then map (λ file. file.0) held else []) ≡ false
not_firm_where_failing name held [] number fails = (cc)
not_firm_where_failing name held (call ∷ failing) number fails =
    let some : (length (call ∷ failing) == 0) ≡ false = grind arith in rw some refl

-- the file at a place where the name is met is the one of that name, of those from there on
pub found_at : (name : List ℕ) (files : List (String Global × Vec ℕ Global)) (place : ℕ) (file : String Global × Vec ℕ Global) → place < length files → file ≡ get_or files place file → bytes_eq name (string_bytes file.0) ≡ true → bytes_of name (named_bytes (drop place files)) ≡ Some (content_at files place)
found_at name files place file within is same =
    rw (slice_get-get_or files place file within, drop-cons files place file within, ← is, same) refl
