-- The table of bodies has the numbers of the bodies, and says which of them clash.
use Rattle.std.proofs.Common.{◌≡◌, ℕ, ◌+◌, Bool, true, false, not, ◌&&◌, ◌||◌, Option, Some, None, is_some, nat_eq, List, [], ◌∷◌, ◌++◌, if◌then◌else◌, refl, sym, ◌∙◌, ap}
use Rattle.std.specs.List.{list_any}
use Rattle.sc_program.specs.declared.bodies.Bodied.{Bodied}
use Rattle.sc_program.specs.Firsts.{or_else, number_where}
use Rattle.sc_program.specs.Places.{Table, place_of, noted}
use Rattle.sc_program.specs.Tables.{noted_if, with_body, with_bodies, clashes, clash_behind, body_in}
use Rattle.sc_program.specs.Bodies.{clash, first_clash, is_in_file, is_external, body_named}
use Rattle.sc_program.proofs.Booleans.{and_false, or_false, or_same, same_both, spread_and, join_or}
use Rattle.sc_program.proofs.Numbers.{place_noted, place_noted_if, or_none, then_rest, some_or, some_if}

-- which bodies have a key: those of a file, or the external ones
abbrev pub matches : ℕ → Option ℕ → Bodied → Bool
matches n None b = is_external n b
matches n (Some f) b = is_in_file f n b

abbrev found : Option ℕ → Bool → ℕ → Option ℕ
found p b k = or_else p (if b then Some k else None)

flipped : (m n : ℕ) (f g : ℕ) → (nat_eq m n && nat_eq f g) ≡ (nat_eq n m && nat_eq g f)
flipped m n f g = ap (λ b. b && nat_eq f g) (same_both m n) ∙ ap (λ b. nat_eq n m && b) (same_both f g)

in_file : (n f k : ℕ) (b : Bodied) (es : Table) → place_of (n, Some f) (noted (b.name, Some b.file) k es) ≡ found (place_of (n, Some f) es) (is_in_file f n b) k
in_file n f k b es =
    place_noted (n, Some f) (b.name, Some b.file) k es
    ∙ ap (λ c. found (place_of (n, Some f) es) c k) (flipped n b.name f b.file)

not_in_file : (n k : ℕ) (b : Bodied) (es : Table) → place_of (n, None) (noted (b.name, Some b.file) k es) ≡ place_of (n, None) es
not_in_file n k b es =
    place_noted (n, None) (b.name, Some b.file) k es
    ∙ ap (λ c. found (place_of (n, None) es) c k) (and_false (nat_eq n b.name))
    ∙ or_none (place_of (n, None) es)

file_stays : (test : Bool) (n f m k : ℕ) (es : Table) → place_of (n, Some f) (noted_if test (m, None) k es) ≡ place_of (n, Some f) es
file_stays test n f m k es =
    place_noted_if test (n, Some f) (m, None) k es
    ∙ ap (λ c. found (place_of (n, Some f) es) (c && test) k) (and_false (nat_eq n m))
    ∙ or_none (place_of (n, Some f) es)

and_true_first : (b c : Bool) → ((b && true) && c) ≡ (b && c)
and_true_first true c = refl
and_true_first false c = refl

external_added : (test : Bool) (n m k : ℕ) (es : Table) → place_of (n, None) (noted_if test (m, None) k es) ≡ found (place_of (n, None) es) (nat_eq m n && test) k
external_added test n m k es =
    place_noted_if test (n, None) (m, None) k es
    ∙ ap (λ c. found (place_of (n, None) es) c k) (and_true_first (nat_eq n m) test ∙ ap (λ c. c && test) (same_both n m))

body_added : (n : ℕ) (f : Option ℕ) (k : ℕ) (b : Bodied) (es : Table) → place_of (n, f) (with_body k b es) ≡ found (place_of (n, f) es) (matches n f b) k
body_added n None k b es =
    external_added (not b.local) n b.name k (noted (b.name, Some b.file) k es)
    ∙ ap (λ r. found r (is_external n b) k) (not_in_file n k b es)
body_added n (Some f) k b es = file_stays (not b.local) n f b.name k (noted (b.name, Some b.file) k es) ∙ in_file n f k b es

-- The numbers of bodies.

bodies_added : (n : ℕ) (f : Option ℕ) (k : ℕ) (bs : List Bodied) (es : Table) → place_of (n, f) (with_bodies k bs es) ≡ or_else (place_of (n, f) es) (number_where (matches n f) k bs)
bodies_added n f k [] es = sym (or_none (place_of (n, f) es))
bodies_added n f k (b ∷ bs) es =
    bodies_added n f (k + 1) bs (with_body k b es)
    ∙ ap (λ r. or_else r (number_where (matches n f) (k + 1) bs)) (body_added n f k b es)
    ∙ then_rest (place_of (n, f) es) (matches n f b) k (number_where (matches n f) (k + 1) bs)

pub body_found : (bs : List Bodied) (f n : ℕ) → body_in (with_bodies 0 bs []) f n ≡ body_named bs f n
body_found bs f n =
    ap (λ r. or_else r (place_of (n, None) (with_bodies 0 bs []))) (bodies_added n (Some f) 0 bs [])
    ∙ ap (λ r. or_else (number_where (is_in_file f n) 0 bs) r) (bodies_added n None 0 bs [])

-- Bodies that clash.

-- the table has a key exactly if one of the bodies has it
abbrev Knows : Table → List Bodied → Type 0
Knows es before = (n : ℕ) (f : Option ℕ) → is_some (place_of (n, f) es) ≡ list_any (matches n f) before

any_behind : (t : Bodied → Bool) (xs : List Bodied) (x : Bodied) → list_any t (xs ++ x ∷ []) ≡ (list_any t xs || t x)
any_behind t [] x = or_false (t x)
any_behind t (y ∷ ys) x = ap (λ b. t y || b) (any_behind t ys x) ∙ or_same (t y) (list_any t ys) (t x)

knows_more : (k : ℕ) (b : Bodied) (es : Table) (before : List Bodied) → Knows es before → Knows (with_body k b es) (before ++ b ∷ [])
knows_more k b es before knows n f =
    ap (λ (x : Option ℕ). is_some x) (body_added n f k b es)
    ∙ some_or (place_of (n, f) es) (if matches n f b then Some k else None)
    ∙ ap (λ c. is_some (place_of (n, f) es) || c) (some_if (matches n f b) k)
    ∙ ap (λ c. c || matches n f b) (knows n f)
    ∙ sym (any_behind (matches n f) before b)

clash_one : (b a : Bodied) → clash b a ≡ (is_in_file b.file b.name a || (not b.local && is_external b.name a))
clash_one b a =
    ap (λ c. c && (nat_eq b.file a.file || (not b.local && not a.local))) (same_both b.name a.name)
    ∙ ap (λ c. nat_eq a.name b.name && (c || (not b.local && not a.local))) (same_both b.file a.file)
    ∙ spread_and (nat_eq a.name b.name) (nat_eq a.file b.file) (not b.local) (not a.local)

clash_any : (b : Bodied) (bs : List Bodied) → list_any (clash b) bs ≡ (list_any (is_in_file b.file b.name) bs || (not b.local && list_any (is_external b.name) bs))
clash_any b [] = sym (and_false (not b.local))
clash_any b (a ∷ rest) =
    ap (λ c. c || list_any (clash b) rest) (clash_one b a)
    ∙ ap (λ c. (is_in_file b.file b.name a || (not b.local && is_external b.name a)) || c) (clash_any b rest)
    ∙ join_or (is_in_file b.file b.name a) (not b.local) (is_external b.name a) (list_any (is_in_file b.file b.name) rest) (list_any (is_external b.name) rest)

clash_known : (b : Bodied) (es : Table) (before : List Bodied) → Knows es before → clashes b es ≡ list_any (clash b) before
clash_known b es before knows =
    ap (λ c. c || (not b.local && is_some (place_of (b.name, None) es))) (knows b.name (Some b.file))
    ∙ ap (λ c. list_any (is_in_file b.file b.name) before || (not b.local && c)) (knows b.name None)
    ∙ sym (clash_any b before)

clash_from : (k : ℕ) (bs : List Bodied) (es : Table) (before : List Bodied) → Knows es before → clash_behind k bs es ≡ first_clash before bs
clash_from k [] es before knows = refl
clash_from k (b ∷ bs) es before knows =
    ap (λ c. if c then Some b.name else clash_behind (k + 1) bs (with_body k b es)) (clash_known b es before knows)
    ∙ ap (λ r. if list_any (clash b) before then Some b.name else r) (clash_from (k + 1) bs (with_body k b es) (before ++ b ∷ []) (knows_more k b es before knows))

knows_none : (n : ℕ) (f : Option ℕ) → is_some (place_of (n, f) []) ≡ list_any (matches n f) []
knows_none n f = refl

pub clash_found : (bs : List Bodied) → clash_behind 0 bs [] ≡ first_clash [] bs
clash_found bs = clash_from 0 bs [] [] knows_none
