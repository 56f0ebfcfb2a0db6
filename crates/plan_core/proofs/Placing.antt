-- What keeps the order of functions: a new place, a function that waits, and the functions that wake.

use Rattle.std.proofs.Common.{◌≡◌, ℕ, zero, suc, ◌+◌, ◌<◌, ◌≤◌, ◌⊎◌, inl, inr, ◌||◌, Bool, true, false, List, [], ◌∷◌, ◌++◌, length, set, get_or}
use Rattle.std.proofs.Common.{replicate, drop, eqb, refl, sym, subst, ap, ◌∙◌, ⊎_elim, length-append, length-drop, get_or-set_same, get_or-set_other, arith, eq-eqb}
use Rattle.std.proofs.lemmas.List.{get_or_past, length-set, get_or_append_left, length-replicate, drop_more}
use Rattle.std.proofs.lemmas.List.Elements.{Contains-push, Contains-push_cases, Contains-append_left}
use Rattle.std.proofs.lemmas.List.Folds.{list_any-append, list_any_at}
use Rattle.std.proofs.lemmas.Map.Keys.{IsDistinct-push}
use Rattle.std.proofs.Math.Seq.{get_or-append_seam}
use Rattle.std.proofs.lemmas.Map.Steps.{length-le_from_distinct_below}
use Rattle.std.proofs.lemmas.Bool.{cases_eq, cases_lt, cases_Bool, or_cases, eqb-true, false≢true, true≢false, false_from_ne_true}
use Rattle.std.specs.List.{Contains, list_any, IsDistinct}
use Rattle.std.proofs.lemmas.Cmp.{nat_eq_equiv}
use Rattle.plan_core.specs.Graph.{callees, Walk, one, more, IsGraph}
use Rattle.plan_core.specs.Order.{is_placed, waiters, Keeps, StandsFrom, Settled}
use Rattle.plan_core.proofs.Rows.{get_or_any}

-- where the callees of f have their places, so has every function that f reaches by a walk
pub walk_placed : (rows : List (List ℕ)) (placed : List Bool)
    → ((f g : ℕ) → is_placed placed f ≡ true → Contains (callees rows f) g → is_placed placed g ≡ true)
    → (f g : ℕ) → Walk rows f g → ((h : ℕ) → Contains (callees rows f) h → is_placed placed h ≡ true)
    → is_placed placed g ≡ true
walk_placed rows placed closed _ _ (one f g has) first = first g has
walk_placed rows placed closed _ _ (more f g h walk has) first = closed g h (walk_placed rows placed closed f g walk first) has

pub placed_after : (placed : List Bool) (f g : ℕ) → f < length placed → is_placed placed g ≡ true → is_placed (set placed f true) g ≡ true
placed_after placed f g inside was =
    ⊎_elim
    (λ same. ap (is_placed (set placed f true)) same ∙ get_or-set_same placed f true false inside)
    (λ other. get_or-set_other placed f g true false other ∙ was)
    (cases_eq g f)

placed_before : (placed : List Bool) (f g : ℕ) → is_placed (set placed f true) g ≡ true → (g ≡ f) ⊎ (is_placed placed g ≡ true)
placed_before placed f g is =
    ⊎_elim (λ same. inl same) (λ other. inr (sym (get_or-set_other placed f g true false other) ∙ is)) (cases_eq g f)

pub place_kept : (rows : List (List ℕ)) (placed : List Bool) (met : List ℕ) (waiting : List (List ℕ)) (order : List ℕ) (f : ℕ)
    → Keeps rows placed met waiting order → f < length placed → is_placed placed f ≡ false
    → ((g : ℕ) → Contains (callees rows f) g → is_placed placed g ≡ true)
    → Keeps rows (set placed f true) met waiting (order ++ f ∷ [])
place_kept rows placed met waiting order f kept inside new ready =
    record {
      placed_many = length-set placed f true ∙ kept.placed_many;
      met_many = kept.met_many;
      waiting_many = kept.waiting_many;
      closed =
          λ h g is has.
          placed_after placed f g inside
          (⊎_elim
          (λ same. ready g (subst (λ i. Contains (callees rows i) g) same has))
          (λ was. kept.closed h g was has)
          (placed_before placed f h is));
      acyclic =
          λ h is walk.
          ⊎_elim
          (λ same.
          let back : Walk rows f f = subst (λ i. Walk rows i i) same walk in
          false≢true (sym new ∙ walk_placed rows placed kept.closed f f back ready))
          (λ was. kept.acyclic h was walk)
          (placed_before placed f h is);
      met_placed = λ h k low. placed_after placed f (get_or (callees rows h) k 0) inside (kept.met_placed h k low);
      met_few = kept.met_few;
      listed =
          λ h has.
          ⊎_elim
          (λ was. placed_after placed f h inside (kept.listed h was))
          (λ last.
          ⊎_elim
          (λ same. ap (is_placed (set placed f true)) (eqb-true h f same) ∙ get_or-set_same placed f true false inside)
          (λ none. absurd (false≢true none))
          (or_cases (eqb h f) false last))
          (or_cases (list_any (eqb h) order) (list_any (eqb h) (f ∷ [])) (sym (list_any-append (eqb h) order (f ∷ [])) ∙ has));
      distinct =
          IsDistinct-push nat_eq_equiv order f kept.distinct
          (false_from_ne_true (list_any (eqb f) order) (λ is. false≢true (sym new ∙ kept.listed f is)));
      inside = kept.inside;
    }

pub meet_kept : (rows : List (List ℕ)) (placed : List Bool) (met : List ℕ) (waiting : List (List ℕ)) (order : List ℕ) (f m : ℕ)
    → Keeps rows placed met waiting order → f < length met → m ≤ length (callees rows f)
    → ((k : ℕ) → k < m → is_placed placed (get_or (callees rows f) k 0) ≡ true)
    → Keeps rows placed (set met f m) waiting order
meet_kept rows placed met waiting order f m kept inside few ready =
    record {
      placed_many = kept.placed_many;
      met_many = length-set met f m ∙ kept.met_many;
      waiting_many = kept.waiting_many;
      closed = kept.closed;
      acyclic = kept.acyclic;
      met_placed =
          λ h k low.
          ⊎_elim
          (λ same.
          let at : get_or (set met f m) h 0 ≡ m = ap (λ i. get_or (set met f m) i 0) same ∙ get_or-set_same met f m 0 inside in
          subst (λ i. is_placed placed (get_or (callees rows i) k 0) ≡ true) (sym same) (ready k (subst (λ n. k < n) at low)))
          (λ other. kept.met_placed h k (subst (λ n. k < n) (get_or-set_other met f h m 0 other) low))
          (cases_eq h f);
      met_few =
          λ h. ⊎_elim
          (λ same.
          let at : get_or (set met f m) h 0 ≡ m = ap (λ i. get_or (set met f m) i 0) same ∙ get_or-set_same met f m 0 inside in
          subst (λ n. n ≤ length (callees rows h)) (sym at) (subst (λ i. m ≤ length (callees rows i)) (sym same) few))
          (λ other. subst (λ n. n ≤ length (callees rows h)) (sym (get_or-set_other met f h m 0 other)) (kept.met_few h))
          (cases_eq h f);
      listed = kept.listed;
      distinct = kept.distinct;
      inside = kept.inside;
    }

-- another list of those that wait for g
waiters_kept : (rows : List (List ℕ)) (placed : List Bool) (met : List ℕ) (waiting : List (List ℕ)) (order : List ℕ) (g : ℕ) (fs : List ℕ)
    → Keeps rows placed met waiting order → g < length waiting → ((f : ℕ) → Contains fs f → f < length rows)
    → Keeps rows placed met (set waiting g fs) order
waiters_kept rows placed met waiting order g fs kept inside below =
    record {
      placed_many = kept.placed_many;
      met_many = kept.met_many;
      waiting_many = length-set waiting g fs ∙ kept.waiting_many;
      closed = kept.closed;
      acyclic = kept.acyclic;
      met_placed = kept.met_placed;
      met_few = kept.met_few;
      listed = kept.listed;
      distinct = kept.distinct;
      inside =
          λ h f has.
          ⊎_elim
          (λ same.
          let at : waiters (set waiting g fs) h ≡ fs = ap (waiters (set waiting g fs)) same ∙ get_or-set_same waiting g fs [] inside in
          below f (subst (λ is. Contains is f) at has))
          (λ other. kept.inside h f (subst (λ is. Contains is f) (get_or-set_other waiting g h fs [] other) has))
          (cases_eq h g);
    }

pub wait_kept : (rows : List (List ℕ)) (placed : List Bool) (met : List ℕ) (waiting : List (List ℕ)) (order : List ℕ) (g f : ℕ)
    → Keeps rows placed met waiting order → g < length waiting → f < length rows
    → Keeps rows placed met (set waiting g (waiters waiting g ++ f ∷ [])) order
wait_kept rows placed met waiting order g f kept inside low =
    waiters_kept rows placed met waiting order g (waiters waiting g ++ f ∷ []) kept inside
    (λ h has. ⊎_elim
    (λ was. kept.inside g h was)
    (λ same. subst (λ i. i < length rows) same low)
    (Contains-push_cases (waiters waiting g) f h has))

pub wake_kept : (rows : List (List ℕ)) (placed : List Bool) (met : List ℕ) (waiting : List (List ℕ)) (order : List ℕ) (g : ℕ)
    → Keeps rows placed met waiting order → g < length waiting → Keeps rows placed met (set waiting g []) order
wake_kept rows placed met waiting order g kept inside =
    waiters_kept rows placed met waiting order g [] kept inside (λ f has. absurd (omega (arith, has.1)))

pub settled_place : (rows : List (List ℕ)) (placed : List Bool) (waiting : List (List ℕ)) (order : List ℕ) (turn f h : ℕ)
    → f < length placed → turn ≤ length order → Settled rows placed waiting order turn h
    → Settled rows (set placed f true) waiting (order ++ f ∷ []) turn h
settled_place rows placed waiting order turn f h inside low settled =
    ⊎_elim
    (λ is. inl (placed_after placed f h inside is))
    (λ (g, has, waits, cause).
    ⊎_elim
    (λ none.
    ⊎_elim
    (λ same. inr (g, has, waits, inr (length order, low, omega (arith, length-append order (f ∷ [])), get_or-append_seam order f [] 0 ∙ sym same)))
    (λ other. inr (g, has, waits, inl (get_or-set_other placed f g true false other ∙ none)))
    (cases_eq g f))
    (λ (j, from, within, is).
    inr (g, has, waits, inr (j, from, omega (arith, within, length-append order (f ∷ [])), get_or_append_left order (f ∷ []) 0 j within ∙ is)))
    cause)
    settled

pub settled_wait : (rows : List (List ℕ)) (placed : List Bool) (waiting : List (List ℕ)) (order : List ℕ) (turn g f h : ℕ)
    → g < length waiting → Settled rows placed waiting order turn h
    → Settled rows placed (set waiting g (waiters waiting g ++ f ∷ [])) order turn h
settled_wait rows placed waiting order turn g f h inside settled =
    ⊎_elim
    (λ is. inl is)
    (λ (i, has, waits, cause).
    inr (
      i,
      has,
      ⊎_elim
          (λ same.
          let at : waiters (set waiting g (waiters waiting g ++ f ∷ [])) i ≡ waiters waiting g ++ f ∷ [] =
          ap (waiters (set waiting g (waiters waiting g ++ f ∷ []))) same ∙ get_or-set_same waiting g (waiters waiting g ++ f ∷ []) [] inside in
          subst (λ fs. Contains fs h) (sym at)
          (Contains-append_left (waiters waiting g) (f ∷ []) h (subst (λ j. Contains (waiters waiting j) h) same waits)))
          (λ other. subst (λ fs. Contains fs h) (sym (get_or-set_other waiting g i (waiters waiting g ++ f ∷ []) [] other)) waits)
          (cases_eq i g),
      cause,
    ))
    settled

-- the function that waits is settled
pub waits_settled : (rows : List (List ℕ)) (placed : List Bool) (waiting : List (List ℕ)) (order : List ℕ) (turn g f : ℕ)
    → g < length waiting → Contains (callees rows f) g → is_placed placed g ≡ false
    → Settled rows placed (set waiting g (waiters waiting g ++ f ∷ [])) order turn f
waits_settled rows placed waiting order turn g f inside has bare =
    inr (
      g,
      has,
      subst (λ fs. Contains fs f) (sym (get_or-set_same waiting g (waiters waiting g ++ f ∷ []) [] inside)) (Contains-push (waiters waiting g) f),
      inl bare,
    )

-- once those that wait for the function at this turn are taken out, each function is settled for the next turn, or one of them
pub settled_wake : (rows : List (List ℕ)) (placed : List Bool) (waiting : List (List ℕ)) (order : List ℕ) (turn g h : ℕ)
    → get_or order turn 0 ≡ g → Settled rows placed waiting order turn h
    → Settled rows placed (set waiting g []) order (turn + 1) h ⊎ Contains (waiters waiting g) h
settled_wake rows placed waiting order turn g h at settled =
    ⊎_elim
    (λ is. inl (inl is))
    (λ (i, has, waits, cause).
    ⊎_elim
    (λ same. inr (subst (λ j. Contains (waiters waiting j) h) same waits))
    (λ other.
    inl (inr (
      i,
      has,
      subst (λ fs. Contains fs h) (sym (get_or-set_other waiting g i [] [] other)) waits,
      ⊎_elim
          (λ none. inl none)
          (λ (j, from, within, is).
          ⊎_elim
          (λ later. inr (j, omega (arith, later), within, is))
          (λ here.
          let same : j ≡ turn = omega (arith, here, from) in
          absurd (other (sym is ∙ ap (λ k. get_or order k 0) same ∙ at)))
          (cases_lt turn j))
          cause,
    )))
    (cases_eq i g))
    settled

-- where none is left to wake, a function with no place has a callee with none
pub settled_end : (rows : List (List ℕ)) (placed : List Bool) (waiting : List (List ℕ)) (order : List ℕ) (turn f : ℕ)
    → length order ≤ turn → Settled rows placed waiting order turn f → is_placed placed f ≡ false
    → (g : ℕ) × Contains (callees rows f) g × (is_placed placed g ≡ false)
settled_end rows placed waiting order turn f few settled bare =
    ⊎_elim
    (λ is. absurd (false≢true (sym bare ∙ is)))
    (λ (g, has, waits, cause).
    ⊎_elim (λ none. (g, has, none)) (λ (j, from, within, is). absurd (omega (arith, few, from, within))) cause)
    settled

-- nothing is placed yet
pub start_kept : (rows : List (List ℕ)) (n n' n'' : ℕ) (placed : List Bool) (met : List ℕ) (waiting : List (List ℕ)) (order : List ℕ)
    → n ≡ length rows → n' ≡ length rows → n'' ≡ length rows
    → placed ≡ replicate n false → met ≡ replicate n' 0 → waiting ≡ replicate n'' [] → order ≡ []
    → Keeps rows placed met waiting order
unfolding IsDistinct
start_kept rows n n' n'' placed met waiting order many many' many'' p m w o =
    let none : (f : ℕ) → is_placed placed f ≡ false =
    λ f. ap (λ l. is_placed l f) p ∙ same_everywhere n false f in
    let zero' : (f : ℕ) → get_or met f 0 ≡ 0 = λ f. ap (λ l. get_or l f 0) m ∙ same_everywhere n' 0 f in
    record {
      placed_many = ap length p ∙ (length-replicate n false ∙ many);
      met_many = ap length m ∙ (length-replicate n' 0 ∙ many');
      waiting_many = ap length w ∙ (length-replicate {A = List ℕ} n'' [] ∙ many'');
      closed = λ f g is has. absurd (false≢true (sym (none f) ∙ is));
      acyclic = λ f is walk. false≢true (sym (none f) ∙ is);
      met_placed = λ f k low. absurd (omega (arith, low, zero' f));
      met_few = λ f. omega (arith, zero' f);
      listed = λ f has. absurd (false≢true (subst (λ l. list_any (eqb f) l ≡ true) o has));
      distinct = subst (IsDistinct eqb) (sym o) tt;
      inside =
          λ g f has.
          let empty : waiters waiting g ≡ [] = ap (λ l. waiters l g) w ∙ same_everywhere n'' [] g in
          let none' = subst (λ l. Contains l f) empty has in absurd (omega (arith, none'.1));
    }
  where
    same_everywhere : {A : Type 0} (k : ℕ) (a : A) (i : ℕ) → get_or (replicate k a) i a ≡ a
    same_everywhere zero a i = refl
    same_everywhere (suc k) a zero = refl
    same_everywhere (suc k) a (suc i) = same_everywhere k a i

inside_from_placed : (placed : List Bool) (f : ℕ) → is_placed placed f ≡ true → f < length placed
inside_from_placed placed f is =
    ⊎_elim (λ inside. inside) (λ past. absurd (false≢true (sym (get_or_past placed f false past) ∙ is))) (cases_lt f (length placed))

module _ (rows : List (List ℕ)) (placed : List Bool) (met : List ℕ) (waiting : List (List ℕ)) (order : List ℕ) where
  -- a function of the order is one of the plan's
  pub order_inside : Keeps rows placed met waiting order → (turn : ℕ) → turn < length order → get_or order turn 0 < length rows
  order_inside kept turn low =
      let f : ℕ = get_or order turn 0 in
      let inside = inside_from_placed placed f (kept.listed f (list_any_at (eqb f) order turn 0 low (eq-eqb f f refl))) in
      subst (λ n. f < n) kept.placed_many inside

  -- the order is no longer than the plan
  pub order_few : Keeps rows placed met waiting order → length order ≤ length rows
  order_few kept =
      length-le_from_distinct_below order (length rows) kept.distinct
      (λ q has. subst (λ n. q < n) kept.placed_many (inside_from_placed placed q (kept.listed q has)))

  pub settled_past : (turn f : ℕ) → length order ≤ turn → Settled rows placed waiting order turn f → Settled rows placed waiting order (turn + 1) f
  settled_past turn f few settled =
      ⊎_elim
      (λ is. inl is)
      (λ (g, has, waits, cause).
      inr (g, has, waits, ⊎_elim (λ none. inl none) (λ (j, from, within, is). absurd (omega (arith, few, from, within))) cause))
      settled

pub settled_same : (rows : List (List ℕ)) (placed placed' : List Bool) (waiting waiting' : List (List ℕ)) (order order' : List ℕ) (turn f : ℕ)
    → placed' ≡ placed → waiting' ≡ waiting → order' ≡ order → Settled rows placed waiting order turn f → Settled rows placed' waiting' order' turn f
settled_same rows placed placed' waiting waiting' order order' turn f p w o settled =
    subst (λ l. Settled rows l waiting' order' turn f) (sym p)
    (subst (λ l. Settled rows placed l order' turn f) (sym w) (subst (λ l. Settled rows placed waiting l turn f) (sym o) settled))

-- the k-th callee of f, as the code reads it
pub callee_inside : (rows : List (List ℕ)) (xs : List ℕ) (f k : ℕ) → IsGraph rows → xs ≡ callees rows f → k < length xs
    → Contains (callees rows f) (get_or xs k 0) × (get_or xs k 0 < length rows)
callee_inside rows xs f k graph same low =
    let has : Contains (callees rows f) (get_or xs k 0) =
    subst (λ l. Contains l (get_or xs k 0)) same (k, low, get_or_any xs k (get_or xs k 0) 0 low) in
    (has, graph.inside f (get_or xs k 0) has)

pub all_placed : (placed : List Bool) (xs : List ℕ) (m : ℕ) → length xs ≤ m
    → ((k : ℕ) → k < m → is_placed placed (get_or xs k 0) ≡ true) → (g : ℕ) → Contains xs g → is_placed placed g ≡ true
all_placed placed xs m few all g has =
    let same : get_or xs has.0 0 ≡ g = get_or_any xs has.0 0 g has.1 ∙ has.2 in
    subst (λ i. is_placed placed i ≡ true) same (all has.0 (omega (arith, few, has.1)))

pub read_row : (l : List (List ℕ)) (i : ℕ) (a : List ℕ) → i < length l → a ≡ get_or l i a → a ≡ get_or l i []
read_row [] i a low e = absurd (omega (arith, low))
read_row (x ∷ xs) zero a low e = e
read_row (x ∷ xs) (suc i) a low e = read_row xs i a (omega (arith, low)) e

pub drop_cases : (xs : List ℕ) (i f : ℕ) → i < length xs → Contains (drop i xs) f → (get_or xs i 0 ≡ f) ⊎ Contains (drop (i + 1) xs) f
drop_cases xs i f low has =
    cons_cases (get_or xs i 0) (drop (i + 1) xs) (subst (λ l. Contains l f) (drop_more xs i 0 low) has)
  where
    cons_cases : (y : ℕ) (ys : List ℕ) → Contains (y ∷ ys) f → (y ≡ f) ⊎ Contains ys f
    cons_cases y ys (zero, inside, is) = inl is
    cons_cases y ys (suc k, inside, is) = inr (k, omega (arith, inside), is)

pub drop_none : (xs : List ℕ) (i f : ℕ) → length xs ≤ i → Contains (drop i xs) f → ⊥
drop_none xs i f past has = omega (arith, has.1, length-drop i xs, past)
