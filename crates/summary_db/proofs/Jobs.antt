-- What a job's slots give when it is asked, skips, is filled or is emptied.
use Rattle.std.proofs.Common.{◌≡◌, ◌≢◌, ℕ, zero, suc, ◌+◌, ◌-◌, Bool, false, ◌||◌, eqb, eq-eqb, append-nil, ◌<◌, ◌≤◌, true, List, [], ◌∷◌, ◌++◌, length, get_or, refl, sym, ap, ◌∙◌, subst, arith, length-append}
use mathlib.Core.Option.{some, none, some-injective, some-ne-none}
use lib.ListN.{get_elem?}
use Rattle.atomic_table.specs.Table.{rest, turned}
use Rattle.atomic_table.proofs.Lists.{at_longer}
use Rattle.plan_core.specs.Graph.{callees}
use Rattle.summary_db.specs.declared.place.Place.{Place}
use Rattle.summary_db.specs.declared.knows.Knows.{Knows}
use Rattle.summary_db.specs.Views.{member, less, looked, opens, starts, ends, Looks}
use Rattle.summary_db.proofs.Sets.{member_append}
use Rattle.std.proofs.lemmas.Bool.{cond_both, cond-true, or_left, or_right}
use Rattle.summary_db.specs.Places.{edge, IsPlace, IsLaidOut, Holds, Given, Fills, Spent, Anything, Rolled, takes_of, gives_of, slots_of}
use Rattle.summary_db.proofs.Edges.{no_loop, nth_take, at_from_inside, taken_place, given_place, member_at, length_takes, get_or_from_at}
use Rattle.summary_db.proofs.Rolls.{roll, rolled_map, rolled_end}

pub at_behind : (xs ys : List ℕ) (k i : ℕ) → get_elem? ys k ≡ some i → get_elem? (xs ++ ys) (length xs + k) ≡ some i
at_behind [] ys k i at = let e : 0 + k ≡ k = omega arith in subst (λ (j : ℕ). get_elem? ys j ≡ some i) (sym e) at
at_behind (x ∷ xs) ys k i at = let e : suc (length xs) + k ≡ suc (length xs + k) = omega arith in subst (λ (j : ℕ). get_elem? (x ∷ (xs ++ ys)) j ≡ some i) (sym e) (at_behind xs ys k i at)

module _ {S : Type 0} where
  value_or : S → List (ℕ × S) → S
  value_or d [] = d
  value_or d (x ∷ xs) = x.1

  pub same_value : (l r r' : List (ℕ × S)) (i j : ℕ) (a b : S) → l ≡ (i, a) ∷ r → l ≡ (j, b) ∷ r' → a ≡ b
  unfolding value_or
  same_value l r r' i j a b e e' = sym (ap (value_or a) e) ∙ ap (value_or a) e'

  module _ (rows : List (List ℕ)) (laid : IsLaidOut rows) (empty : S) (good : ℕ → S → Type 0) (f : ℕ) (inside : f < length rows) where
    taker_not_giver : (k i : ℕ) → get_elem? (takes_of rows f) k ≡ some i → (p : Place) → IsPlace rows i p → p.giver ≢ f
    taker_not_giver k i at p is same =
        let t = taken_place rows f i (member_at (takes_of rows f) k i at) in
        let e : t.0 ≡ p = some-injective t.0 p (sym t.1 ∙ is) in
        no_loop rows laid i p is (sym (ap (λ (q : Place). q.taker) e) ∙ t.2 ∙ sym same)

    pub record IsAsked (k i : ℕ) (l : List (ℕ × S)) : Type 0 where
      pub value : S
      pub first : l ≡ (i, value) ∷ rest l
      pub output : good (get_or (callees rows f) k 0) value
      pub on : Rolled (Given rows good f) (Spent rows empty f) (slots_of rows f) (k + 1) (turned ((i, empty) ∷ rest l))

    pub asked : (k i : ℕ) (l : List (ℕ × S)) → get_elem? (takes_of rows f) k ≡ some i
        → Rolled (Given rows good f) (Spent rows empty f) (slots_of rows f) k l → IsAsked k i l
    asked k i l at r =
        let n = roll (Given rows good f) (Spent rows empty f) (slots_of rows f) k i l (at_longer (takes_of rows f) (gives_of rows f) k i at) r in
        record {
          value = n.value;
          first = n.first;
          output = n.is (edge f (get_or (callees rows f) k 0)) (nth_take rows f k i inside at) refl;
          on = n.on empty (refl, taker_not_giver k i at);
        }

    -- the job's slots, as a publication begins, and as an abandonment does
    pub to_fill : (k : ℕ) (l : List (ℕ × S)) → Rolled (Given rows good f) (Spent rows empty f) (slots_of rows f) k l
        → Rolled Anything (Fills rows good f) (slots_of rows f) k l
    to_fill k l r = rolled_map (Given rows good f) (Spent rows empty f) Anything (Fills rows good f) (slots_of rows f) k l (λ _ _ _. tt) (λ i y s p at same. absurd (s.1 p at same)) r

    pub to_clear : (k : ℕ) (l : List (ℕ × S)) → Rolled (Given rows good f) (Spent rows empty f) (slots_of rows f) k l
        → Rolled Anything (λ i y. y ≡ empty) (slots_of rows f) k l
    to_clear k l r = rolled_map (Given rows good f) (Spent rows empty f) Anything (λ i y. y ≡ empty) (slots_of rows f) k l (λ _ _ _. tt) (λ i y s. s.0) r

    pub skipped : (k : ℕ) (l : List (ℕ × S)) → k < length (takes_of rows f) → Rolled Anything (Fills rows good f) (slots_of rows f) k l
        → Rolled Anything (Fills rows good f) (slots_of rows f) (k + 1) (turned l)
    skipped k l low r =
        let t = at_from_inside (takes_of rows f) k low in
        let n = roll Anything (Fills rows good f) (slots_of rows f) k t.0 l (at_longer (takes_of rows f) (gives_of rows f) k t.0 t.1) r in
        subst (λ xs. Rolled Anything (Fills rows good f) (slots_of rows f) (k + 1) (turned xs)) (sym n.first) (n.on n.value (λ p is same. absurd (taker_not_giver k t.0 t.1 p is same)))

pub at_read : (xs ys : List ℕ) (k : ℕ) → ys ≡ xs → k < length xs → get_elem? xs k ≡ some (get_or ys k 0)
at_read xs ys k e low =
    subst (λ (l : List ℕ). get_elem? xs k ≡ some (get_or l k 0)) (sym e) (let t = at_from_inside xs k low in t.1 ∙ ap some (sym (get_or_from_at xs k t.0 0 t.1)))

pub at_read_behind : (xs ys zs ws : List ℕ) (k : ℕ) → ws ≡ xs → zs ≡ ys → length ws ≤ k → k < length (xs ++ ys) → get_elem? (xs ++ ys) k ≡ some (get_or zs (k - length ws) 0)
at_read_behind xs ys zs ws k e e' high low =
    let m = length-append xs ys in
    let n = ap length e in
    let s : length xs + (k - length ws) ≡ k = omega arith in
    subst (λ (j : ℕ). get_elem? (xs ++ ys) j ≡ some (get_or zs (k - length ws) 0)) s
    (at_behind xs ys (k - length ws) (get_or zs (k - length ws) 0) (at_read ys zs (k - length ws) e' (omega arith)))

pub looks_again : {T : Type 0} (v w x : Knows T) → Looks v w → Looks w x → Looks v x
looks_again v w x a b =
    let f = a.finds in let h = b.finds in
    record {
      rows = b.rows ∙ a.rows;
      work = b.work ∙ a.work;
      jobs = b.jobs ∙ a.jobs;
      claims = b.claims ∙ a.claims;
      gone = b.gone ∙ a.gone;
      done = b.done ∙ a.done;
      stopped = b.stopped ∙ a.stopped;
      seen = λ g has. b.seen g (a.seen g has);
      finds = omega arith;
    }

pub looked_looks : {T : Type 0} (f x : ℕ) (v : Knows T) → Looks v (looked f x v)
looked_looks f x v =
    record {
      rows = refl;
      work = refl;
      jobs = refl;
      claims = refl;
      gone = refl;
      done = refl;
      stopped = refl;
      seen = λ g has. cond_both (eqb x 2) (f ∷ v.seen) v.seen (λ l. member g l ≡ true) (λ _. or_right (eqb g f) (member g v.seen) has) (λ _. has);
      finds = omega arith;
    }

-- a pass and its job whose exchange did not apply
pub missed_looks : {T : Type 0} (f x : ℕ) (v : Knows T) → v.place ≡ f → Looks v (ends (opens v) (looked f x (starts v)))
missed_looks f x v same =
    record {
      rows = refl;
      work = refl;
      jobs = cond-true (eqb f v.place) v.jobs (v.place ∷ less f v.jobs) (eq-eqb f v.place (sym same));
      claims = append-nil v.claims;
      gone = append-nil v.gone;
      done = append-nil v.done;
      stopped = or_nothing v.stopped;
      seen = λ g has. member_append g v.seen (looked f x (starts v)).seen ∙ or_left (member g v.seen) (member g (looked f x (starts v)).seen) has;
      finds = omega arith;
    }
  where
    or_nothing : (b : Bool) → (b || false) ≡ b
    or_nothing true = refl
    or_nothing false = refl
