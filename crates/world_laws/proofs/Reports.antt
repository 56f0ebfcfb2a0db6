-- What the runs of reports are shown for.
use Rattle.std.proofs.Common.{◌≡◌, ℕ, Bool, true, false, cond, List, [], ◌∷◌, ◌++◌, map, filter, eqb, refl, sym, ap, ◌∙◌}
use Rattle.std.proofs.lemmas.Bool.{true≢false, and_parts, and_from, eq-eqb, eqb-true}
use Rattle.std.specs.Prelude.{Option, Some, None, bytes_eq, if◌then◌else◌}
use Rattle.std.specs.List.{AllByRecursion, flat_map, list_all, list_any}
use Rattle.sc_base.specs.declared.pos.Pos.{Pos}
use Rattle.sum_rows.specs.declared.report.Report.TheVariants as report
use Rattle.sc_world.specs.Source.{Source}
use Rattle.sc_world.specs.Paths.{Texts, text_at}
use Rattle.sc_world.specs.Shows.{Query, Locks, EndsAt, Errs, Leaks, is_it, ends_inner, text_is}
use Rattle.sc_world.specs.Verdict.{shows, shown_by, run_over, machine_states, error_row, answers, first_run, is_there, givens, touched, numbers, first_of, errs_from_all, double, double_for, Pair, pairs, first_row, second_row, both_stand, ambiguous, ambiguous_for, with_text, texts_from, inner, leak, places_of_calls, reports}
use Rattle.world_laws.specs.Shown.{IsShownFor, AreShownFor, IsRightReport}
use Rattle.world_laws.proofs.Among.{FirstIsLeast, FirstIsThere, some_from, some_to}

each_append : {X : Type 0} (P : X → Type 0) (xs ys : List X) → AllByRecursion P xs → AllByRecursion P ys → AllByRecursion P (xs ++ ys)
each_append P [] ys all more = more
each_append P (x ∷ xs) ys (h, hs) more = (h, each_append P xs ys hs more)

each_flat : {X Y : Type 0} (P : Y → Type 0) (f : X → List Y) → ((x : X) → AllByRecursion P (f x)) → (xs : List X)
    → AllByRecursion P (flat_map f xs)
each_flat P f so [] = tt
each_flat P f so (x ∷ xs) = each_append P (f x) (flat_map f xs) (so x) (each_flat P f so xs)

each_flat_of : {X Y : Type 0} (Q : X → Type 0) (P : Y → Type 0) (f : X → List Y) → ((x : X) → Q x → AllByRecursion P (f x)) → (xs : List X)
    → AllByRecursion Q xs → AllByRecursion P (flat_map f xs)
each_flat_of Q P f so [] all = tt
each_flat_of Q P f so (x ∷ xs) (h, hs) = each_append P (f x) (flat_map f xs) (so x h) (each_flat_of Q P f so xs hs)

-- the first of a list
abbrev pub first_head : {X : Type 0} → List X → Option X
first_head [] = None
first_head (x ∷ xs) = Some x

-- the first element that passes passes
passes_if : {X : Type 0} (p : X → Bool) (y x : X) (rest : Option X) (b : Bool) → p y ≡ b → cond b (Some y) rest ≡ Some x
    → (rest ≡ Some x → p x ≡ true) → p x ≡ true
passes_if p y x rest true is e so = let same : y ≡ x = cc in ap p (sym same) ∙ is
passes_if p y x rest false is e so = so e

first_if : {X : Type 0} (b : Bool) (y : X) (ys : List X) → first_head (cond b (y ∷ ys) ys) ≡ cond b (Some y) (first_head ys)
first_if true y ys = refl
first_if false y ys = refl

pub first_passes : {X : Type 0} (p : X → Bool) (x : X) (xs : List X) → first_head (filter p xs) ≡ Some x → p x ≡ true
first_passes p x [] e = absurd (cc)
first_passes p x (y ∷ ys) e =
    passes_if p y x (first_head (filter p ys)) (p y) refl (sym (first_if (p y) y (filter p ys)) ∙ e) (first_passes p x ys)

pub same_bytes : (t : List ℕ) → bytes_eq t t ≡ true
same_bytes [] = refl
same_bytes (c ∷ cs) = and_from (eqb c c) (bytes_eq cs cs) (eq-eqb c c refl) (same_bytes cs)

module _ (least : FirstIsLeast) (some : FirstIsThere) (s : Source) (x : Texts) where
  shown_at : (q : Query) (o : Option (List Bool)) → first_run s x q ≡ o → is_there o ≡ true → IsShownFor s x q (shown_by s x o)
  shown_at q None e h = absurd (true≢false (sym h))
  shown_at q (Some c) e h = record { least = least x.layout.bits (shows s x q) c e; run = refl }

  -- the run that is shown for what some run answers
  pub shown_right : (q : Query) → (answers s x).some q ≡ true → IsShownFor s x q ((answers s x).shown q)
  shown_right q h = shown_at q (first_run s x q) refl h

  all_shown : {A : Type 0} (query : A → Query) (as' : List A) → list_all (λ a. (answers s x).some (query a)) as' ≡ true
      → AreShownFor s x (map query as') (map (λ a. (answers s x).shown (query a)) as')
  all_shown query [] h = tt
  all_shown query (a ∷ as') h =
      let parts = and_parts ((answers s x).some (query a)) (list_all (λ a. (answers s x).some (query a)) as') h in
      (shown_right (query a) parts.0, all_shown query as' parts.1)

  right_double : (at : ℕ) (o : Option ℕ) → ((c : ℕ) → o ≡ Some c → errs_from_all s x (answers s x) at c ≡ true)
      → AllByRecursion (IsRightReport s x) (double_for s x (answers s x) at o)
  right_double at None so = tt
  right_double at (Some c) so =
      ((at, c, refl, all_shown (λ b. Locks at (error_row s x (answers s x) c b)) (machine_states s) (so c refl)), tt)

  right_ambiguous : (at : ℕ) (o : Option (Pair s x (answers s x)))
      → ((p : Pair s x (answers s x)) → o ≡ Some p → both_stand s x (answers s x) at p ≡ true)
      → AllByRecursion (IsRightReport s x) (ambiguous_for s x (answers s x) at o)
  right_ambiguous at None so = tt
  right_ambiguous at (Some p) so =
      let parts =
      and_parts ((answers s x).some (Locks at (first_row s x (answers s x) p)))
      ((answers s x).some (Locks at (second_row s x (answers s x) p))) (so p refl) in (
        (
          at,
          p.given,
          p.before,
          p.result,
          p.one,
          p.other,
          refl,
          shown_right (Locks at (first_row s x (answers s x) p)) parts.0,
          shown_right (Locks at (second_row s x (answers s x) p)) parts.1,
        ),
        tt,
      )

  -- a run that ends at a location ends at one of its text
  ends_text : (at : ℕ) (o : Option ℕ) → is_it at o ≡ true → text_is x (text_at x at) o ≡ true
  ends_text at None h = absurd (true≢false (sym h))
  ends_text at (Some n) h =
      let e : at ≡ n = eqb-true at n h in
      ap (λ m. bytes_eq (text_at x m) (text_at x at)) (sym e) ∙ same_bytes (text_at x at)

  pub ended_there : (at : ℕ) → (answers s x).some (EndsAt at) ≡ true → (answers s x).some (Errs (text_at x at)) ≡ true
  ended_there at h =
      let run = some_from least s x (EndsAt at) h in
      some_to some s x (Errs (text_at x at))
      (run.0, run.1, ends_text at (ends_inner (run_over s x.layout run.0).ended) run.2)

  abbrev Ends : List ℕ → Type 0
  Ends t = (answers s x).some (Errs t) ≡ true

  with_one : (t : List ℕ) (ts : List (List ℕ)) (b : Bool) → Ends t → AllByRecursion Ends ts → AllByRecursion Ends (if b then ts else ts ++ t ∷ [])
  with_one t ts true h hs = hs
  with_one t ts false h hs = each_append Ends ts (t ∷ []) hs (h, tt)

  texts_step : (b : Bool) (at : ℕ) (ts : List (List ℕ)) → (answers s x).some (EndsAt at) ≡ b → AllByRecursion Ends ts
      → AllByRecursion Ends (if b then with_text s x (answers s x) (text_at x at) ts else ts)
  texts_step true at ts is hs = with_one (text_at x at) ts (list_any (bytes_eq (text_at x at)) ts) (ended_there at is) hs
  texts_step false at ts is hs = hs

  texts_end : (ats : List ℕ) (ts : List (List ℕ)) → AllByRecursion Ends ts → AllByRecursion Ends (texts_from s x (answers s x) ts ats)
  texts_end [] ts hs = hs
  texts_end (at ∷ ats) ts hs =
      texts_end ats (if (answers s x).some (EndsAt at) then with_text s x (answers s x) (text_at x at) ts else ts)
      (texts_step ((answers s x).some (EndsAt at)) at ts refl hs)

  right_leak : (p : Pos) (b : Bool) → (answers s x).some (Leaks p) ≡ b
      → AllByRecursion (IsRightReport s x) (if b then report.Leak p ((answers s x).shown (Leaks p)) ∷ [] else [])
  right_leak p true is = (shown_right (Leaks p) is, tt)
  right_leak p false is = tt

  pub same_first : {A : Type 0} (as' : List A) → first_head as' ≡ first_of s x (answers s x) as'
  same_first [] = refl
  same_first (a ∷ as') = refl

  pub all_right : AllByRecursion (IsRightReport s x) (reports s x (answers s x))
  all_right =
      each_append (IsRightReport s x) (flat_map (double s x (answers s x)) (touched s x (answers s x))) _
      (each_flat (IsRightReport s x) (double s x (answers s x))
      (λ at. right_double at (first_of s x (answers s x) (filter (errs_from_all s x (answers s x) at) (givens s)))
      (λ c e. first_passes (errs_from_all s x (answers s x) at) c (givens s) (same_first (filter (errs_from_all s x (answers s x) at) (givens s)) ∙ e)))
      (touched s x (answers s x)))
      (each_append (IsRightReport s x) (flat_map (ambiguous s x (answers s x)) (touched s x (answers s x))) _
      (each_flat (IsRightReport s x) (ambiguous s x (answers s x))
      (λ at. right_ambiguous at (first_of s x (answers s x) (filter (both_stand s x (answers s x) at) (pairs s x (answers s x))))
      (λ p e. first_passes (both_stand s x (answers s x) at) p (pairs s x (answers s x)) (same_first (filter (both_stand s x (answers s x) at) (pairs s x (answers s x))) ∙ e)))
      (touched s x (answers s x)))
      (each_append (IsRightReport s x) (flat_map (inner s x (answers s x)) (texts_from s x (answers s x) [] (numbers s x (answers s x)))) _
      (each_flat_of Ends (IsRightReport s x) (inner s x (answers s x)) (λ t h. ((t, shown_right (Errs t) h), tt))
      (texts_from s x (answers s x) [] (numbers s x (answers s x))) (texts_end (numbers s x (answers s x)) [] tt))
      (each_flat (IsRightReport s x) (leak s x (answers s x)) (λ p. right_leak p ((answers s x).some (Leaks p)) refl)
      (places_of_calls s x (answers s x) [] x.layout.sites))))
