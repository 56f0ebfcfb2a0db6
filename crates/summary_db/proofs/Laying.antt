-- The lists of numbers, as places are numbered one after another.
use Rattle.std.proofs.Common.{◌≡◌, ◌≢◌, ℕ, zero, suc, ◌+◌, ◌<◌, ◌≤◌, true, false, cond, eqb, ◌||◌, List, [], ◌∷◌, ◌++◌, length, map, take, get_or, set, refl, sym, ap, ◌∙◌, subst, ⊎_elim, arith, eq-eqb, ne_eqb, append-nil, append_assoc, get_or-set_same, get_or-set_other, length-append, replicate}
use Rattle.std.proofs.lemmas.Bool.{cases_eq, cond-true, cond-false, or_left, or_right}
use Rattle.std.proofs.lemmas.List.{length-map, length-replicate, get_or-replicate}
use Rattle.std.proofs.lemmas.List.FromFn.{map-range_with_len_more}
use Rattle.std.specs.List.{range_with_len}
use mathlib.Core.List.{map-append}
use Rattle.summary_db.specs.declared.place.Place.{Place}
use Rattle.summary_db.specs.declared.lay.Lay.{Lay}
use Rattle.summary_db.specs.Views.{member}
use Rattle.summary_db.specs.Places.{edge, edges_before, places_of, numbers_where, takes_of, gives_of}
use Rattle.plan_core.specs.Graph.{callees}
use Rattle.summary_db.specs.Lays.{lists, list_of, IsLay}
use Rattle.summary_db.proofs.Numbers.{numbers_snoc}

pub read_map : {A : Type 0} (h : A → List ℕ) (l : List A) (i : ℕ) (a : A) → i < length l → a ≡ get_or l i a → get_or (map h l) i [] ≡ h a
read_map h [] i a low e = absurd (omega arith)
read_map h (x ∷ xs) zero a low e = ap h (sym e)
read_map h (x ∷ xs) (suc i) a low e = read_map h xs i a (omega arith) e

pub side : (key : Place → ℕ) (n : ℕ) (places : List Place) (p : Place) (old new : List (List ℕ)) (count : ℕ)
    → ((f : ℕ) → f < n + 1 → get_or old f [] ≡ numbers_where (λ q. eqb (key q) f) 0 places)
    → key p < length old → key p < n + 1 → count ≡ length places → new ≡ set old (key p) (get_or old (key p) [] ++ count ∷ [])
    → (f : ℕ) → f < n + 1 → get_or new f [] ≡ numbers_where (λ q. eqb (key q) f) 0 (places ++ p ∷ [])
side key n places p old new count before low low' many is f inside =
    let e : 0 + length places ≡ count = omega arith in
    let snoc = numbers_snoc (λ q. eqb (key q) f) 0 places p ∙ ap (λ (k : ℕ). numbers_where (λ q. eqb (key q) f) 0 places ++ cond (eqb (key p) f) (k ∷ []) []) e in
    ap (λ ls. get_or ls f []) is ∙ ⊎_elim
    (λ same.
    (ap (λ (k : ℕ). get_or (set old k (get_or old k [] ++ count ∷ [])) f []) same
    ∙ (get_or-set_same old f (get_or old f [] ++ count ∷ []) [] (subst (λ (k : ℕ). k < length old) same low)
    ∙ ap (λ l. l ++ count ∷ []) (before f inside)))
    ∙ sym (snoc ∙ ap (λ l. numbers_where (λ q. eqb (key q) f) 0 places ++ l) (cond-true (eqb (key p) f) (count ∷ []) [] (eq-eqb (key p) f same))))
    (λ other.
    (get_or-set_other old (key p) f (get_or old (key p) [] ++ count ∷ []) [] (λ g. other (sym g)) ∙ before f inside)
    ∙ sym (snoc ∙ (ap (λ l. numbers_where (λ q. eqb (key q) f) 0 places ++ l) (cond-false (eqb (key p) f) (count ∷ []) [] (ne_eqb (key p) f other)) ∙ append-nil (numbers_where (λ q. eqb (key q) f) 0 places))))
    (cases_eq (key p) f)

pub pushed : (n : ℕ) (places : List Place) (taker giver : ℕ) (old new : Lay) → IsLay n places old
    → taker < old.takes.len → giver < old.gives.len
    → lists new.takes ≡ set (lists old.takes) taker (list_of old.takes taker ++ old.count ∷ [])
    → lists new.gives ≡ set (lists old.gives) giver (list_of old.gives giver ++ old.count ∷ [])
    → new.takes.len ≡ old.takes.len → new.gives.len ≡ old.gives.len → new.count ≡ old.count + 1
    → IsLay n (places ++ edge taker giver ∷ []) new
pushed n places taker giver old new lay low low' takes gives len len' count =
    let many = lay.count in
    let tl = lay.takers in let gl = lay.givers in
    let lt = length-map old.takes.items (λ row. row.items) in let lt' = old.takes.ok.0 in
    let lg = length-map old.gives.items (λ row. row.items) in let lg' = old.gives.ok.0 in
    record {
      takes = side (λ q. q.taker) n places (edge taker giver) (lists old.takes) (lists new.takes) old.count lay.takes (omega arith) (omega arith) many takes;
      gives = side (λ q. q.giver) n places (edge taker giver) (lists old.gives) (lists new.gives) old.count lay.gives (omega arith) (omega arith) many gives;
      takers = len ∙ tl;
      givers = len' ∙ gl;
      count = let e = length-append places (edge taker giver ∷ []) in omega arith;
    }

take_next : (xs : List ℕ) (i d : ℕ) → i < length xs → take (i + 1) xs ≡ take i xs ++ get_or xs i d ∷ []
take_next [] i d low = absurd (omega arith)
take_next (x ∷ xs) zero d low = refl
take_next (x ∷ xs) (suc i) d low = let e : suc i + 1 ≡ suc (i + 1) = omega arith in ap (λ (n : ℕ). take n (x ∷ xs)) e ∙ ap (λ l. x ∷ l) (take_next xs i d (omega arith))

pub row_more : (places : List Place) (h : ℕ → Place) (xs : List ℕ) (i d : ℕ) → i < length xs
    → (places ++ map h (take i xs)) ++ h (get_or xs i d) ∷ [] ≡ places ++ map h (take (i + 1) xs)
row_more places h xs i d low =
    append_assoc places (map h (take i xs)) (h (get_or xs i d) ∷ [])
    ∙ ap (λ l. places ++ l) (sym (ap (map h) (take_next xs i d low) ∙ map-append h (take i xs) (get_or xs i d ∷ [])))

pub member_get : (xs : List ℕ) (i d : ℕ) → i < length xs → member (get_or xs i d) xs ≡ true
member_get [] i d low = absurd (omega arith)
member_get (y ∷ ys) zero d low = or_left (eqb y y) (member y ys) (eq-eqb y y refl)
member_get (y ∷ ys) (suc i) d low = or_right (eqb (get_or ys i d) y) (member (get_or ys i d) ys) (member_get ys i d (omega arith))

pub laid_none : (rows : List (List ℕ)) (n : ℕ) (lay : Lay) → lists lay.takes ≡ replicate (n + 1) [] → lists lay.gives ≡ replicate (n + 1) [] → lay.count ≡ 0
    → IsLay n (edges_before rows 0) lay
unfolding edges_before numbers_where
laid_none rows n lay takes gives count =
    let a = ap length takes in let b = ap length gives in
    let lt = length-map lay.takes.items (λ row. row.items) in let lt' = lay.takes.ok.0 in
    let lg = length-map lay.gives.items (λ row. row.items) in let lg' = lay.gives.ok.0 in
    let r = length-replicate {A = List ℕ} (n + 1) [] in
    record {
      takes = λ f low. ap (λ ls. get_or ls f []) takes ∙ get_or-replicate (n + 1) f [] [] low;
      gives = λ f low. ap (λ ls. get_or ls f []) gives ∙ get_or-replicate (n + 1) f [] [] low;
      takers = omega arith;
      givers = omega arith;
      count = count;
    }

pub rows_more : (rows : List (List ℕ)) (k : ℕ) → edges_before rows k ++ map (edge k) (callees rows k) ≡ edges_before rows (k + 1)
unfolding edges_before
rows_more rows k = let e : suc k ≡ k + 1 = omega arith in ap (edges_before rows) e

pub results_more : (ps : List Place) (n k : ℕ) → (ps ++ map (edge n) (range_with_len 0 k)) ++ edge n k ∷ [] ≡ ps ++ map (edge n) (range_with_len 0 (k + 1))
results_more ps n k = append_assoc ps (map (edge n) (range_with_len 0 k)) (edge n k ∷ []) ∙ ap (λ l. ps ++ l) (sym (map-range_with_len_more (edge n) 0 k k (omega arith)))

pub all_places : (rows : List (List ℕ)) → edges_before rows (length rows) ++ map (edge (length rows)) (range_with_len 0 (length rows)) ≡ places_of rows
unfolding places_of
all_places rows = refl

pub read_row : (l : List (List ℕ)) (i : ℕ) (a : List ℕ) → i < length l → a ≡ get_or l i a → a ≡ get_or l i []
read_row [] i a low e = absurd (omega arith)
read_row (x ∷ xs) zero a low e = e
read_row (x ∷ xs) (suc i) a low e = read_row xs i a (omega arith) e

pub takes_listed : (rows : List (List ℕ)) (lay : Lay) (f : ℕ) → IsLay (length rows) (places_of rows) lay → f < length rows + 1 → list_of lay.takes f ≡ takes_of rows f
unfolding takes_of
takes_listed rows lay f is low = is.takes f low

pub gives_listed : (rows : List (List ℕ)) (lay : Lay) (f : ℕ) → IsLay (length rows) (places_of rows) lay → f < length rows + 1 → list_of lay.gives f ≡ gives_of rows f
unfolding gives_of
gives_listed rows lay f is low = is.gives f low
