-- A file that was not read is one of those that were to be read, and its name is no firm one.
use Rattle.std.proofs.Common.{◌≡◌, ◌⊎◌, ◌||◌, ◌∙◌, ℕ, Bool, true, false, List, [], ◌∷◌, ◌++◌, length, Option, Some, None, refl, sym, subst, inl, inr}
use Rattle.std.specs.Str.{bytes_eq}
use Rattle.std.proofs.lemmas.List.Folds.{list_any-append}
use Rattle.std.proofs.lemmas.Cmp.{nat_list_eq_equiv}
use Rattle.sc_base.specs.Held.{is_named}
use Rattle.sc_input.specs.declared.input.Input.{Input}
use Rattle.sc_input.specs.declared.refusal.Refusal.{Refusal}
use Rattle.sc_input.specs.declared.refusal.Refusal.TheVariants as refusal
use Rattle.sc_input.specs.Input.{Outside, IsUnread, RefuseBytes, RefuseSpelling, RefuseTree, RefuseBegin, RefuseFile, Stops, Refuse, memory, too_many, no_machine, no_tree}

-- a text in the middle of a list is one of it
middle_is_named : (front behind : List (List ℕ)) (name : List ℕ) → is_named name (front ++ (name ∷ behind)) ≡ true
middle_is_named front behind name =
    list_any-append (bytes_eq name) front (name ∷ behind) ∙ joined (is_named name front) (bytes_eq name name) (is_named name behind) (nat_list_eq_equiv.refl name)
  where
    joined : (a b c : Bool) → b ≡ true → (a || (b || c)) ≡ true
    joined true b c is = refl
    joined false b c is = rw is refl

-- one of the files, or that of the machine
abbrev pub IsOne : (machine : Option (List ℕ)) → (names : List (List ℕ)) → (name : List ℕ) → Type 0
IsOne machine names name = (is_named name names ≡ true) ⊎ (machine ≡ Some name)

abbrev pub Unread : Outside → (machine : Option (List ℕ)) → (names : List (List ℕ)) → Type 0
Unread outside machine names = (name : List ℕ) × IsOne machine names name × IsUnread outside name

-- what a refusal is where it says that a file was not read
abbrev pub Says : Outside → (machine : Option (List ℕ)) → (names : List (List ℕ)) → Refusal → Type 0
Says outside machine names (refusal.Unread shown) = Unread outside machine names
Says outside machine names _ = Unit {0}

by_bytes : (outside : Outside) (machine : Option (List ℕ)) (names : List (List ℕ)) (used : ℕ) (name : List ℕ) (why : Refusal)
    → IsOne machine names name → RefuseBytes outside used name why → Says outside machine names why
by_bytes outside machine names used name (refusal.Files count) one refused = tt
by_bytes outside machine names used name (refusal.Unread shown) one refused = (name, one, refused.1)
by_bytes outside machine names used name refusal.Bytes one refused = tt
by_bytes outside machine names used name (refusal.Machine line) one refused = tt
by_bytes outside machine names used name (refusal.Lexical shown pos) one refused = tt
by_bytes outside machine names used name (refusal.Unbalanced shown pos) one refused = tt
by_bytes outside machine names used name refusal.OutOfMemory one refused = tt

by_spelling : (outside : Outside) (machine : Option (List ℕ)) (names : List (List ℕ)) (bytes : List ℕ) (why : Refusal)
    → RefuseSpelling bytes why → Says outside machine names why
by_spelling outside machine names bytes (refusal.Files count) refused = tt
by_spelling outside machine names bytes (refusal.Unread shown) refused = absurd refused
by_spelling outside machine names bytes refusal.Bytes refused = tt
by_spelling outside machine names bytes (refusal.Machine line) refused = tt
by_spelling outside machine names bytes (refusal.Lexical shown pos) refused = tt
by_spelling outside machine names bytes (refusal.Unbalanced shown pos) refused = tt
by_spelling outside machine names bytes refusal.OutOfMemory refused = tt

by_tree : (outside : Outside) (machine : Option (List ℕ)) (names : List (List ℕ)) (texts : List (List ℕ)) (file : ℕ) (name bytes : List ℕ)
    (why : Refusal) → RefuseTree texts file name bytes why → Says outside machine names why
by_tree outside machine names texts file name bytes (refusal.Files count) refused = tt
by_tree outside machine names texts file name bytes (refusal.Unread shown) refused = absurd refused
by_tree outside machine names texts file name bytes refusal.Bytes refused = tt
by_tree outside machine names texts file name bytes (refusal.Machine line) refused = tt
by_tree outside machine names texts file name bytes (refusal.Lexical shown pos) refused = tt
by_tree outside machine names texts file name bytes (refusal.Unbalanced shown pos) refused = tt
by_tree outside machine names texts file name bytes refusal.OutOfMemory refused = tt

by_machine : (outside : Outside) (machine : Option (List ℕ)) (names : List (List ℕ)) (why : Refusal) → RefuseBegin outside machine why
    → Says outside machine names why
by_machine outside None names why refused = absurd refused
by_machine outside (Some name) names why (inl refused) = by_bytes outside (Some name) names 0 name why (inr refl) refused
by_machine outside (Some name) names why (inr refused) = by_spelling outside (Some name) names refused.0 why refused.2

by_file : (outside : Outside) (machine : Option (List ℕ)) (names : List (List ℕ)) (before : Input) (name : List ℕ) (why : Refusal)
    → IsOne machine names name → RefuseFile outside before name why → Says outside machine names why
by_file outside machine names before name why one (inl refused) = by_bytes outside machine names before.used name why one refused
by_file outside machine names before name why one (inr refused) =
    by_tree outside machine names refused.names (length before.units) name refused.bytes why refused.refused

by_stop : (outside : Outside) (machine : Option (List ℕ)) (names : List (List ℕ)) (start : Input) (why : Refusal)
    → Stops outside start names why → Says outside machine names why
by_stop outside machine names start why stops =
    let among : is_named stops.name names ≡ true = rw stops.split (middle_is_named stops.front stops.behind stops.name) in
    by_file outside machine names stops.before stops.name why (inl among) stops.refused

pub says : (outside : Outside) (machine : Option (List ℕ)) (names : List (List ℕ)) (why : Refusal) → Refuse outside machine names why
    → Says outside machine names why
says outside machine names why (memory is) = let P : Refusal → Type 0 = Says outside machine names in subst P (sym is) tt
says outside machine names why (too_many many is) = let P : Refusal → Type 0 = Says outside machine names in subst P (sym is) tt
says outside machine names why (no_machine few refused) = by_machine outside machine names why refused
says outside machine names why (no_tree few start begins stops) = by_stop outside machine names start why stops
