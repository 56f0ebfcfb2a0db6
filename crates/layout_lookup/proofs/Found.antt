-- Look-ups by keys are the look-ups of the definitions.
use Rattle.std.proofs.Common.{◌≡◌, ℕ, suc, ◌+◌, ◌&&◌, Bool, true, false, List, [], ◌∷◌, length, map, drop, get_or, nat_eq, refl, sym, ap, ◌∙◌, add-one, zero-add, drop-cons, ◌^◌, ◌<◌, ◌≤◌, arith}
use Rattle.std.proofs.lemmas.Bool.{and_right, ne_eqb}
use Rattle.std.proofs.lemmas.Grind.{common_steps}
use Rattle.std.specs.Prelude.{Option, Some, None, if◌then◌else◌, slice_index_or}
use Rattle.sc_base.specs.declared.pos.Pos.{Pos}
use Rattle.sum_rows.specs.declared.path.Step.{Step}
use Rattle.sum_rows.specs.declared.path.Step.TheVariants as step
use Rattle.sc_world.specs.declared.run.Origin.{Origin}
use Rattle.sc_world.specs.declared.run.Origin.TheVariants as origin
use Rattle.sc_world.specs.Gather.{Site}
use Rattle.sc_world.specs.Layout.{Location, Placed, first_where, is_part_of, same_origin, same_pos, site_from, no_site}
use Rattle.layout_base.specs.declared.layout.Location.{Location as Code}
use Rattle.layout_base.specs.Seen.{location_of}
use Rattle.layout_lookup.specs.declared.key.Key.{Key}
use Rattle.layout_lookup.specs.declared.key.Key.TheVariants as key
use Rattle.layout_lookup.specs.Firsts.{or_else, some_if, number_or, first_of}
use Rattle.layout_lookup.specs.Keys.{key_of, part_key, place_of, same_key, same_place}
use Rattle.layout_lookup.specs.Tables.{has_key, has_bracket, firsts, firsts_behind}

same_places : (p q : Pos) → same_place (place_of p) (place_of q) ≡ same_pos p q
same_places p q = grind (arith, common_steps)

and_true : (b : Bool) → b ≡ b && true
and_true true = refl
and_true false = refl

and_false : (b : Bool) → false ≡ b && false
and_false true = refl
and_false false = refl

same_keys : (o p : Origin) → same_key (key_of o) (key_of p) ≡ same_origin o p
same_keys (origin.Param m) (origin.Param n) = refl
same_keys (origin.Global m) (origin.Global n) = refl
same_keys (origin.Local m) (origin.Local n) = refl
same_keys (origin.Literal p) (origin.Literal q) = same_places p q
same_keys (origin.Function m) (origin.Function n) = refl
same_keys (origin.Target m) (origin.Target n) = refl
same_keys (origin.Call m) (origin.Call n) = refl
same_keys (origin.Part m step.Deref) (origin.Part n step.Deref) = and_true (nat_eq m n)
same_keys (origin.Part m (step.Field j)) (origin.Part n (step.Field k)) = refl
same_keys (origin.Part m (step.Elem j)) (origin.Part n (step.Elem k)) = refl
same_keys (origin.Part m step.Deref) (origin.Part n (step.Field k)) = and_false (nat_eq m n)
same_keys (origin.Part m step.Deref) (origin.Part n (step.Elem k)) = and_false (nat_eq m n)
same_keys (origin.Part m (step.Field j)) (origin.Part n step.Deref) = and_false (nat_eq m n)
same_keys (origin.Part m (step.Field j)) (origin.Part n (step.Elem k)) = and_false (nat_eq m n)
same_keys (origin.Part m (step.Elem j)) (origin.Part n step.Deref) = and_false (nat_eq m n)
same_keys (origin.Part m (step.Elem j)) (origin.Part n (step.Field k)) = and_false (nat_eq m n)
same_keys (origin.Part m step.Deref) p = refl
same_keys (origin.Part m (step.Field j)) p = refl
same_keys (origin.Part m (step.Elem j)) p = refl
same_keys o (origin.Part n step.Deref) = refl
same_keys o (origin.Part n (step.Field k)) = refl
same_keys o (origin.Part n (step.Elem k)) = refl
same_keys o p = refl

same_part : (at : ℕ) (s : Step) (o : Origin) → is_part_of at s o ≡ same_origin (origin.Part at s) o
same_part at s (origin.Part up t) = refl
same_part at s o = refl

first_same : (t u : Location → Bool) → ((l : Location) → t l ≡ u l) → (k : ℕ) (ls : List Location) → first_where t k ls ≡ first_of u k ls
first_same t u same k [] = refl
first_same t u same k (l ∷ ls) = let e = same l in let rest = first_same t u same (k + 1) ls in cc

-- the first part, by its key
pub part_found : (at : ℕ) (s : Step) (ls : List Location)
    → first_where (λ l. is_part_of at s l.origin) 0 ls ≡ first_of (has_key (part_key at s)) 0 ls
part_found at s ls =
    first_same (λ l. is_part_of at s l.origin) (has_key (part_key at s))
    (λ l. same_part at s l.origin ∙ sym (same_keys (origin.Part at s) l.origin)) 0 ls

-- the first location of an origin, by its key
pub origin_found : (o : Origin) (ls : List Location)
    → first_where (λ l. same_origin o l.origin) 0 ls ≡ first_of (has_key (key_of o)) 0 ls
origin_found o ls =
    first_same (λ l. same_origin o l.origin) (has_key (key_of o)) (λ l. sym (same_keys o l.origin)) 0 ls

-- the number of the first element that passes, or how many there are
index_of : {A : Type 0} → (A → Bool) → List A → ℕ
index_of t [] = 0
index_of t (x ∷ xs) = if t x then 0 else suc (index_of t xs)

first_if : (b : Bool) (k i n : ℕ) (o : Option ℕ) → number_or o (k + 1 + n) ≡ k + 1 + i
    → number_or (if b then Some k else o) (k + (1 + n)) ≡ k + (if b then 0 else suc i)
first_if true k i n o e = omega arith
first_if false k i n o e =
    let plain : number_or o (k + (1 + n)) ≡ number_or o (k + 1 + n) = ap (number_or o) (omega arith) in omega (arith, plain, e)

first_is : {A : Type 0} (t : A → Bool) (k : ℕ) (xs : List A) → number_or (first_of t k xs) (k + length xs) ≡ k + index_of t xs
unfolding index_of
first_is t k [] = refl
first_is t k (x ∷ xs) =
    let long : length (x ∷ xs) ≡ 1 + length xs = omega arith in
    rw long (first_if (t x) k (index_of t xs) (length xs) (first_of t (k + 1) xs) (first_is t (k + 1) xs))

placed_at : List Site → (n at : ℕ) → Placed
placed_at ss n at = record { site = slice_index_or ss at no_site; first = slice_index_or (n ∷ firsts_behind n ss) at 0 }

site_if : (b : Bool) (s : Site) (ss : List Site) (n i : ℕ) (rest : Placed) → rest ≡ placed_at ss (n + s.turns) i
    → (if b then record { site = s; first = n } else rest) ≡ placed_at (s ∷ ss) n (if b then 0 else suc i)
unfolding placed_at
site_if true s ss n i rest e = refl
site_if false s ss n i rest e = e

same_brackets : (b : Pos) (s : Site) → same_pos b s.bracket ≡ has_bracket (place_of b) s
same_brackets b s = sym (same_places b s.bracket)

at_none : (n : ℕ) → record { site = no_site; first = n } ≡ placed_at [] n 0
unfolding placed_at
at_none n = refl

site_is : (b : Pos) (n : ℕ) (ss : List Site) → site_from b n ss ≡ placed_at ss n (index_of (has_bracket (place_of b)) ss)
unfolding index_of
site_is b n [] = at_none n
site_is b n (s ∷ ss) =
    rw (same_brackets b s)
    (site_if (has_bracket (place_of b) s) s ss n (index_of (has_bracket (place_of b)) ss) (site_from b (n + s.turns) ss)
    (site_is b (n + s.turns) ss))

-- the call with that opening bracket, by its number
pub site_found : (b : Pos) (ss : List Site) (at : ℕ) → at ≡ number_or (first_of (has_bracket (place_of b)) 0 ss) (length ss)
    → site_from b 0 ss ≡ record { site = slice_index_or ss at no_site; first = slice_index_or (firsts ss) at 0 }
unfolding placed_at
site_found b ss at e =
    let found = first_of (has_bracket (place_of b)) 0 ss in
    let plain : number_or found (0 + length ss) ≡ number_or found (length ss) = ap (number_or found) (zero-add (length ss)) in
    let is : at ≡ index_of (has_bracket (place_of b)) ss =
    omega (arith, e, plain, first_is (has_bracket (place_of b)) 0 ss) in
    rw is (site_is b 0 ss)

-- One key more in a table.

more_if : (g r : Option ℕ) (b : Bool) (at : ℕ) → or_else g (if b then Some at else r) ≡ or_else (or_else g (some_if b at)) r
more_if None r true at = refl
more_if None r false at = refl
more_if (Some n) r b at = refl

drop_item : {A : Type 0} (xs : List A) (i : ℕ) (x : A) → i < length xs → x ≡ get_or xs i x → drop i xs ≡ x ∷ drop (i + 1) xs
drop_item xs i x inside is = rw (add-one, drop-cons xs i x inside) (ap (λ y. y ∷ drop (suc i) xs) (sym is))

pub one_more : (q : Key) (before now all : Option ℕ) (at i : ℕ) (x : Code) (xs : List Code) → i < length xs → x ≡ get_or xs i x
    → all ≡ or_else before (first_of (has_key q) at (map location_of (drop i xs)))
    → now ≡ or_else before (some_if (same_key q (key_of x.origin)) at)
    → all ≡ or_else now (first_of (has_key q) (at + 1) (map location_of (drop (i + 1) xs)))
one_more q before now all at i x xs inside is old new =
    let split = ap (λ ys. or_else before (first_of (has_key q) at (map location_of ys))) (drop_item xs i x inside is) in
    let more =
    more_if before (first_of (has_key q) (at + 1) (map location_of (drop (i + 1) xs))) (same_key q (key_of x.origin)) at in
    old ∙ split ∙ more ∙ ap (λ g. or_else g (first_of (has_key q) (at + 1) (map location_of (drop (i + 1) xs)))) (sym new)

-- A number of an element beyond 32 bits.

pub large_differs : (up m n k : ℕ) → 2 ^ 32 ≤ n → k < 2 ^ 32 → same_key (key.Elem up n) (key.Elem m k) ≡ false
large_differs up m n k large small =
    and_right (nat_eq up m) (nat_eq n k) (ne_eqb n k (λ e. omega (arith, e)))

pub still_none : (before now : Option ℕ) (b : Bool) (at : ℕ) → before ≡ None → b ≡ false → now ≡ or_else before (some_if b at) → now ≡ None
still_none before now b at none different new = new ∙ ap (λ g. or_else g (some_if b at)) none ∙ ap (λ c. some_if c at) different
