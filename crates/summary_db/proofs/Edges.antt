-- What the places of a plan are, and which slots a function has.
use Rattle.std.proofs.Common.{◌≡◌, ◌≢◌, ℕ, zero, suc, ◌+◌, ◌-◌, length-append, ◌<◌, ◌≤◌, Bool, true, false, cond, ◌||◌, eqb, List, [], ◌∷◌, ◌++◌, length, map, get_or, refl, sym, ap, ◌∙◌, subst, ⊎_elim, ◌⊎◌, inl, inr, arith, eq-eqb, ne_eqb, filter, append-nil}
use mathlib.Core.Option.{some, none, some-injective, some-ne-none}
use lib.ListN.{get_elem?}
use Rattle.atomic_table.proofs.Lists.{at_map}
use Rattle.std.specs.List.{range_with_len}
use Rattle.std.proofs.lemmas.Bool.{cases_eq, cases_lt, cases_Bool, cond_both, cond-true, cond-false, or_left, or_right, or_from, or_cases, eqb-true, false≢true, false_from_ne_true}
use Rattle.std.proofs.lemmas.List.{length-map}
use Rattle.std.proofs.lemmas.List.FromFn.{length-range_with_len, get_or-range_with_len}
use Rattle.std.proofs.lemmas.List.Elements.{filter-append}
use Rattle.std.specs.List.{Contains}
use Rattle.plan_core.specs.Graph.{callees, IsPlan, Walk, one}
use Rattle.summary_db.specs.declared.place.Place.{Place}
use Rattle.summary_db.specs.Views.{member}
use Rattle.summary_db.specs.Places.{edge, edges_before, places_of, numbers_where, is_taker, is_giver, takes_of, gives_of, slots_of, IsPlace, IsLaidOut}
use Rattle.summary_db.proofs.Sets.{member_append}
use Rattle.summary_db.proofs.Numbers.{Distinct, distinct_append, distinct_numbers, found_from_member, member_from_found, nth_number, length_numbers}

module _ {A : Type 0} where
  pub get_append : (xs ys : List A) (i : ℕ) (a : A) → get_elem? (xs ++ ys) i ≡ some a → (get_elem? xs i ≡ some a) ⊎ ((j : ℕ) × (get_elem? ys j ≡ some a))
  get_append [] ys i a at = inr (i, at)
  get_append (x ∷ xs) ys zero a at = inl at
  get_append (x ∷ xs) ys (suc i) a at = get_append xs ys i a at

  pub get_map : {B : Type 0} (h : A → B) (xs : List A) (i : ℕ) (b : B) → get_elem? (map h xs) i ≡ some b → (a : A) × (get_elem? xs i ≡ some a) × (h a ≡ b)
  get_map h [] i b at = absurd (some-ne-none b (sym at))
  get_map h (x ∷ xs) zero b at = (x, refl, some-injective (h x) b at)
  get_map h (x ∷ xs) (suc i) b at = get_map h xs i b at

  pub get_or_from_at : (xs : List A) (i : ℕ) (a d : A) → get_elem? xs i ≡ some a → get_or xs i d ≡ a
  get_or_from_at [] i a d at = absurd (some-ne-none a (sym at))
  get_or_from_at (x ∷ xs) zero a d at = some-injective x a at
  get_or_from_at (x ∷ xs) (suc i) a d at = get_or_from_at xs i a d at

  pub at_from_inside : (xs : List A) (i : ℕ) → i < length xs → (a : A) × (get_elem? xs i ≡ some a)
  at_from_inside [] i low = absurd (omega arith)
  at_from_inside (x ∷ xs) zero low = (x, refl)
  at_from_inside (x ∷ xs) (suc i) low = at_from_inside xs i (omega arith)

  pub inside_from_get : (xs : List A) (i : ℕ) (a : A) → get_elem? xs i ≡ some a → i < length xs
  inside_from_get [] i a at = absurd (some-ne-none a (sym at))
  inside_from_get (x ∷ xs) zero a at = omega arith
  inside_from_get (x ∷ xs) (suc i) a at = let h = inside_from_get xs i a at in omega arith

pub member_at : (xs : List ℕ) (i a : ℕ) → get_elem? xs i ≡ some a → member a xs ≡ true
member_at [] i a at = absurd (some-ne-none a (sym at))
member_at (x ∷ xs) zero a at = or_left (eqb a x) (member a xs) (eq-eqb a x (sym (some-injective x a at)))
member_at (x ∷ xs) (suc i) a at = or_right (eqb a x) (member a xs) (member_at xs i a at)

edge_before : (rows : List (List ℕ)) (k i : ℕ) (p : Place) → get_elem? (edges_before rows k) i ≡ some p → (p.taker < k) × (member p.giver (callees rows p.taker) ≡ true)
unfolding edges_before
edge_before rows zero i p at = absurd (some-ne-none p (sym at))
edge_before rows (suc k) i p at =
    ⊎_elim
    (λ before. let r = edge_before rows k i p before in let low = r.0 in (omega arith, r.1))
    (λ here.
    let r = get_map (edge k) (callees rows k) here.0 p here.1 in
    subst (λ (q : Place). (q.taker < suc k) × (member q.giver (callees rows q.taker) ≡ true)) r.2 (omega arith, member_at (callees rows k) here.0 r.0 r.1))
    (get_append (edges_before rows k) (map (edge k) (callees rows k)) i p at)

-- an edge of the plan, or the place of a result
pub place_kind : (rows : List (List ℕ)) (i : ℕ) (p : Place) → IsPlace rows i p
    → ((p.taker < length rows) × (member p.giver (callees rows p.taker) ≡ true)) ⊎ ((p.taker ≡ length rows) × (p.giver < length rows))
unfolding places_of
place_kind rows i p at =
    ⊎_elim
    (λ before. inl (edge_before rows (length rows) i p before))
    (λ here.
    let r = get_map (edge (length rows)) (range_with_len 0 (length rows)) here.0 p here.1 in
    let low : here.0 < length rows = subst (λ (n : ℕ). here.0 < n) (length-range_with_len 0 (length rows)) (inside_from_get (range_with_len 0 (length rows)) here.0 r.0 r.1) in
    let same : here.0 ≡ r.0 = sym (get_or-range_with_len 0 (length rows) here.0 0 low ∙ omega arith) ∙ get_or_from_at (range_with_len 0 (length rows)) here.0 r.0 0 r.1 in
    inr (subst (λ (q : Place). (q.taker ≡ length rows) × (q.giver < length rows)) r.2 (refl, omega arith)))
    (get_append (edges_before rows (length rows)) (map (edge (length rows)) (range_with_len 0 (length rows))) i p at)

pub no_loop : (rows : List (List ℕ)) → IsLaidOut rows → (i : ℕ) (p : Place) → IsPlace rows i p → p.taker ≢ p.giver
no_loop rows laid i p at same =
    ⊎_elim
    (λ e. false≢true (sym (laid.loop_free p.taker) ∙ subst (λ (g : ℕ). member g (callees rows p.taker) ≡ true) (sym same) e.1))
    (λ e. let a = e.0 in let b = e.1 in absurd (omega arith))
    (place_kind rows i p at)

pub giver_inside : (rows : List (List ℕ)) → IsLaidOut rows → (i : ℕ) (p : Place) → IsPlace rows i p → p.giver < length rows
giver_inside rows laid i p at = ⊎_elim (λ e. laid.inside p.taker p.giver e.1) (λ e. e.1) (place_kind rows i p at)

pub callee_from_place : (rows : List (List ℕ)) (i : ℕ) (p : Place) (f : ℕ) → f < length rows → IsPlace rows i p → p.taker ≡ f → member p.giver (callees rows f) ≡ true
callee_from_place rows i p f low at same =
    ⊎_elim
    (λ e. subst (λ (g : ℕ). member p.giver (callees rows g) ≡ true) same e.1)
    (λ e. let a = e.0 in absurd (omega arith))
    (place_kind rows i p at)

pub member_takes : (rows : List (List ℕ)) (f i : ℕ) (p : Place) → IsPlace rows i p → p.taker ≡ f → member i (takes_of rows f) ≡ true
unfolding takes_of
member_takes rows f i p at same =
    let e : 0 + i ≡ i = omega arith in
    subst (λ (j : ℕ). member j (numbers_where (is_taker f) 0 (places_of rows)) ≡ true) e (member_from_found (is_taker f) 0 (places_of rows) i p at (eq-eqb p.taker f same))

pub member_gives : (rows : List (List ℕ)) (f i : ℕ) (p : Place) → IsPlace rows i p → p.giver ≡ f → member i (gives_of rows f) ≡ true
unfolding gives_of
member_gives rows f i p at same =
    let e : 0 + i ≡ i = omega arith in
    subst (λ (j : ℕ). member j (numbers_where (is_giver f) 0 (places_of rows)) ≡ true) e (member_from_found (is_giver f) 0 (places_of rows) i p at (eq-eqb p.giver f same))

pub taken_place : (rows : List (List ℕ)) (f i : ℕ) → member i (takes_of rows f) ≡ true → (p : Place) × IsPlace rows i p × (p.taker ≡ f)
unfolding takes_of
taken_place rows f i has =
    let r = found_from_member (is_taker f) 0 (places_of rows) i has in
    let e = r.number in let same : i ≡ r.from = omega arith in
    (r.found, subst (λ (j : ℕ). get_elem? (places_of rows) j ≡ some r.found) (sym same) r.here, eqb-true r.found.taker f r.passes)

pub given_place : (rows : List (List ℕ)) (f i : ℕ) → member i (gives_of rows f) ≡ true → (p : Place) × IsPlace rows i p × (p.giver ≡ f)
unfolding gives_of
given_place rows f i has =
    let r = found_from_member (is_giver f) 0 (places_of rows) i has in
    let e = r.number in let same : i ≡ r.from = omega arith in
    (r.found, subst (λ (j : ℕ). get_elem? (places_of rows) j ≡ some r.found) (sym same) r.here, eqb-true r.found.giver f r.passes)

pub slot_place : (rows : List (List ℕ)) (f i : ℕ) → member i (slots_of rows f) ≡ true → (p : Place) × IsPlace rows i p × ((p.taker ≡ f) ⊎ (p.giver ≡ f))
slot_place rows f i has =
    ⊎_elim
    (λ e. let r = taken_place rows f i e in (r.0, r.1, inl r.2))
    (λ e. let r = given_place rows f i e in (r.0, r.1, inr r.2))
    (or_cases (member i (takes_of rows f)) (member i (gives_of rows f)) (sym (member_append i (takes_of rows f) (gives_of rows f)) ∙ has))

pub slot_from_taker : (rows : List (List ℕ)) (f i : ℕ) (p : Place) → IsPlace rows i p → p.taker ≡ f → member i (slots_of rows f) ≡ true
slot_from_taker rows f i p at same = member_append i (takes_of rows f) (gives_of rows f) ∙ or_left (member i (takes_of rows f)) (member i (gives_of rows f)) (member_takes rows f i p at same)

pub slot_from_giver : (rows : List (List ℕ)) (f i : ℕ) (p : Place) → IsPlace rows i p → p.giver ≡ f → member i (slots_of rows f) ≡ true
slot_from_giver rows f i p at same = member_append i (takes_of rows f) (gives_of rows f) ∙ or_right (member i (takes_of rows f)) (member i (gives_of rows f)) (member_gives rows f i p at same)

pub not_slot : (rows : List (List ℕ)) (f i : ℕ) (p : Place) → IsPlace rows i p → p.taker ≢ f → p.giver ≢ f → member i (slots_of rows f) ≡ false
not_slot rows f i p at taker giver =
    false_from_ne_true (member i (slots_of rows f)) (λ has.
    let r = slot_place rows f i has in
    let same : r.0 ≡ p = some-injective r.0 p (sym r.1 ∙ at) in
    ⊎_elim (λ e. taker (ap (λ (q : Place). q.taker) (sym same) ∙ e)) (λ e. giver (ap (λ (q : Place). q.giver) (sym same) ∙ e)) r.2)

pub slots_distinct : (rows : List (List ℕ)) → IsLaidOut rows → (f : ℕ) → Distinct (slots_of rows f)
unfolding takes_of gives_of
slots_distinct rows laid f =
    distinct_append (takes_of rows f) (gives_of rows f) (distinct_numbers (is_taker f) 0 (places_of rows)) (distinct_numbers (is_giver f) 0 (places_of rows))
    (λ i has.
    false_from_ne_true (member i (gives_of rows f)) (λ too.
    let a = taken_place rows f i has in let b = given_place rows f i too in
    let same : b.0 ≡ a.0 = some-injective b.0 a.0 (sym b.1 ∙ a.1) in
    no_loop rows laid i a.0 a.1 (a.2 ∙ sym (ap (λ (q : Place). q.giver) (sym same) ∙ b.2))))

pub slot_inside : (rows : List (List ℕ)) (f i : ℕ) → member i (slots_of rows f) ≡ true → i < length (places_of rows)
slot_inside rows f i has = let r = slot_place rows f i has in inside_from_get (places_of rows) i r.0 r.1

-- the edges of one row, and of all rows, that f takes
filter_row : (f k : ℕ) (gs : List ℕ) → filter (is_taker f) (map (edge k) gs) ≡ cond (eqb k f) (map (edge k) gs) []
filter_row f k [] = cond_both (eqb k f) [] [] (λ l. [] ≡ l) (λ _. refl) (λ _. refl)
filter_row f k (g ∷ gs) =
    let rest = filter_row f k gs in
    ⊎_elim
    (λ same. cond-true (eqb k f) _ _ same ∙ (ap (λ l. edge k g ∷ l) (rest ∙ cond-true (eqb k f) (map (edge k) gs) [] same) ∙ sym (cond-true (eqb k f) (map (edge k) (g ∷ gs)) [] same)))
    (λ other. cond-false (eqb k f) _ _ other ∙ ((rest ∙ cond-false (eqb k f) (map (edge k) gs) [] other) ∙ sym (cond-false (eqb k f) (map (edge k) (g ∷ gs)) [] other)))
    (cases_Bool (eqb k f))

filter_above : (rows : List (List ℕ)) (f k : ℕ) → k ≤ f → filter (is_taker f) (edges_before rows k) ≡ []
unfolding edges_before
filter_above rows f zero low = refl
filter_above rows f (suc k) low =
    filter-append (is_taker f) (edges_before rows k) (map (edge k) (callees rows k))
    ∙ ((λ i. filter_above rows f k (omega arith) i ++ filter_row f k (callees rows k) i)
    ∙ cond-false (eqb k f) (map (edge k) (callees rows k)) [] (ne_eqb k f (λ e. omega arith)))

filter_below : (rows : List (List ℕ)) (f k : ℕ) → f < k → filter (is_taker f) (edges_before rows k) ≡ map (edge f) (callees rows f)
unfolding edges_before
filter_below rows f zero low = absurd (omega arith)
filter_below rows f (suc k) low =
    filter-append (is_taker f) (edges_before rows k) (map (edge k) (callees rows k))
    ∙ ⊎_elim
    (λ same.
    (λ i. filter_above rows f k (omega arith) i ++ filter_row f k (callees rows k) i)
    ∙ (cond-true (eqb k f) (map (edge k) (callees rows k)) [] (eq-eqb k f same) ∙ ap (λ (h : ℕ). map (edge h) (callees rows h)) same))
    (λ other.
    (λ i. filter_below rows f k (let n : k ≢ f = other in omega arith) i ++ filter_row f k (callees rows k) i)
    ∙ (ap (λ l. map (edge f) (callees rows f) ++ l) (cond-false (eqb k f) (map (edge k) (callees rows k)) [] (ne_eqb k f other)) ∙ append-nil (map (edge f) (callees rows f))))
    (cases_eq k f)

pub filter_places : (rows : List (List ℕ)) (f : ℕ) → f < length rows → filter (is_taker f) (places_of rows) ≡ map (edge f) (callees rows f)
unfolding places_of
filter_places rows f low =
    let n : ℕ = length rows in
    filter-append (is_taker f) (edges_before rows n) (map (edge n) (range_with_len 0 n))
    ∙ ((λ i. filter_below rows f n low i ++ filter_row f n (range_with_len 0 n) i)
    ∙ (ap (λ l. map (edge f) (callees rows f) ++ l) (cond-false (eqb n f) (map (edge n) (range_with_len 0 n)) [] (ne_eqb n f (λ e. omega arith))) ∙ append-nil (map (edge f) (callees rows f))))

pub filter_results : (rows : List (List ℕ)) → filter (is_taker (length rows)) (places_of rows) ≡ map (edge (length rows)) (range_with_len 0 (length rows))
unfolding places_of
filter_results rows =
    let n : ℕ = length rows in
    filter-append (is_taker n) (edges_before rows n) (map (edge n) (range_with_len 0 n))
    ∙ ((λ i. filter_above rows n n (omega arith) i ++ filter_row n n (range_with_len 0 n) i)
    ∙ cond-true (eqb n n) (map (edge n) (range_with_len 0 n)) [] (eq-eqb n n refl))

pub length_takes : (rows : List (List ℕ)) (f : ℕ) → f < length rows → length (takes_of rows f) ≡ length (callees rows f)
unfolding takes_of
length_takes rows f low = length_numbers (is_taker f) 0 (places_of rows) ∙ (ap length (filter_places rows f low) ∙ length-map (callees rows f) (edge f))

pub length_results : (rows : List (List ℕ)) → length (takes_of rows (length rows)) ≡ length rows
unfolding takes_of
length_results rows =
    length_numbers (is_taker (length rows)) 0 (places_of rows) ∙ (ap length (filter_results rows) ∙ (length-map (range_with_len 0 (length rows)) (edge (length rows)) ∙ length-range_with_len 0 (length rows)))

-- the k-th place from which f takes is the edge to its k-th callee
pub nth_take : (rows : List (List ℕ)) (f k i : ℕ) → f < length rows → get_elem? (takes_of rows f) k ≡ some i → IsPlace rows i (edge f (get_or (callees rows f) k 0))
unfolding takes_of
nth_take rows f k i low at =
    let r = nth_number (is_taker f) 0 (places_of rows) k i at in
    let e = r.number in let same : i ≡ r.from = omega arith in
    let m = get_map (edge f) (callees rows f) k r.found (subst (λ ps. get_elem? ps k ≡ some r.found) (filter_places rows f low) r.nth) in
    let g : get_or (callees rows f) k 0 ≡ m.0 = get_or_from_at (callees rows f) k m.0 0 m.1 in
    subst (λ (j : ℕ). get_elem? (places_of rows) j ≡ some (edge f (get_or (callees rows f) k 0))) (sym same)
    (r.here ∙ ap some (sym (ap (edge f) g ∙ m.2)))

-- the place of f's result
pub nth_result : (rows : List (List ℕ)) (f i : ℕ) → f < length rows → get_elem? (takes_of rows (length rows)) f ≡ some i → IsPlace rows i (edge (length rows) f)
unfolding takes_of
nth_result rows f i low at =
    let n : ℕ = length rows in
    let r = nth_number (is_taker n) 0 (places_of rows) f i at in
    let e = r.number in let same : i ≡ r.from = omega arith in
    let m = get_map (edge n) (range_with_len 0 n) f r.found (subst (λ ps. get_elem? ps f ≡ some r.found) (filter_results rows) r.nth) in
    let g : f ≡ m.0 = sym (get_or-range_with_len 0 n f 0 low ∙ omega arith) ∙ get_or_from_at (range_with_len 0 n) f m.0 0 m.1 in
    subst (λ (j : ℕ). get_elem? (places_of rows) j ≡ some (edge n f)) (sym same)
    (r.here ∙ ap some (sym (ap (edge n) g ∙ m.2)))

contains_from_member : (xs : List ℕ) (g : ℕ) → member g xs ≡ true → Contains xs g
contains_from_member [] g has = absurd (false≢true has)
contains_from_member (x ∷ xs) g has =
    ⊎_elim
    (λ same. (0, omega arith, sym (eqb-true g x same)))
    (λ rest. let r = contains_from_member xs g rest in let low = r.1 in (suc r.0, omega arith, r.2))
    (or_cases (eqb g x) (member g xs) has)

pub laid_from_plan : (rows : List (List ℕ)) → IsPlan rows → IsLaidOut rows
laid_from_plan rows plan =
    record {
      loop_free = λ f. false_from_ne_true (member f (callees rows f)) (λ has. plan.acyclic f (one f f (contains_from_member (callees rows f) f has)));
      inside = λ f g has. plan.inside f g (contains_from_member (callees rows f) g has);
      rising = plan.rising;
    }

-- the results stand behind all edges
pub result_place : (rows : List (List ℕ)) (f : ℕ) → f < length rows → IsPlace rows ((length (places_of rows) - length rows) + f) (edge (length rows) f)
unfolding places_of
result_place rows f low =
    let n : ℕ = length rows in
    let es = edges_before rows n in
    let m = length-append es (map (edge n) (range_with_len 0 n)) in
    let l = length-map (range_with_len 0 n) (edge n) in
    let r = length-range_with_len 0 n in
    let is : (length (es ++ map (edge n) (range_with_len 0 n)) - n) + f ≡ length es + f = omega arith in
    let t = at_from_inside (range_with_len 0 n) f (omega arith) in
    let same : t.0 ≡ f = sym (get_or_from_at (range_with_len 0 n) f t.0 0 t.1) ∙ (get_or-range_with_len 0 n f 0 low ∙ omega arith) in
    subst (λ (j : ℕ). get_elem? (es ++ map (edge n) (range_with_len 0 n)) j ≡ some (edge n f)) (sym is)
    (at_past es (map (edge n) (range_with_len 0 n)) f (edge n f) (at_map (edge n) (range_with_len 0 n) f t.0 t.1 ∙ ap (λ (k : ℕ). some (edge n k)) same))
  where
    at_past : (xs ys : List Place) (k : ℕ) (p : Place) → get_elem? ys k ≡ some p → get_elem? (xs ++ ys) (length xs + k) ≡ some p
    at_past [] ys k p at = let e : 0 + k ≡ k = omega arith in subst (λ (j : ℕ). get_elem? ys j ≡ some p) (sym e) at
    at_past (x ∷ xs) ys k p at = let e : suc (length xs) + k ≡ suc (length xs + k) = omega arith in subst (λ (j : ℕ). get_elem? (x ∷ (xs ++ ys)) j ≡ some p) (sym e) (at_past xs ys k p at)

pub places_many : (rows : List (List ℕ)) → length rows ≤ length (places_of rows)
unfolding places_of
places_many rows =
    let n : ℕ = length rows in
    let m = length-append (edges_before rows n) (map (edge n) (range_with_len 0 n)) in
    let l = length-map (range_with_len 0 n) (edge n) in
    let r = length-range_with_len 0 n in
    omega arith
