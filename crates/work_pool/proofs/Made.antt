-- Outputs that were made, and the marks of the functions.

use Rattle.std.proofs.Common.{◌≡◌, ℕ, zero, suc, ◌+◌, ◌<◌, Bool, true, false, cond, List, [], ◌∷◌, ◌++◌, length, map, take, set, get_or, replicate, refl, sym, subst, ap, ◌∙◌, ⊎_elim, get_or-set_same, get_or-set_other, arith, Option, Some, None, eq-eqb}
use Rattle.std.proofs.lemmas.Bool.{cases_eq, cases_lt, and_parts, cond-true, true≢false, false≢true, true_from_ne_false}
use Rattle.std.proofs.lemmas.List.{get_or_past, length-map, length-set, set-set, map_more, take_more, get_or-replicate, length-replicate}
use Rattle.std.proofs.lemmas.List.Sums.{sum_by-set}
use Rattle.std.proofs.lemmas.List.Folds.{list_all_at}
use Rattle.std.specs.List.{Contains, All, list_all, range_with_len, sum_by}
use Rattle.std.specs.Option.{IsSome, IfSome, IsSomeAnd}
use Rattle.std.specs.declared.alloc.Global.{Global}
use Rattle.std.specs.declared.sync.Arc.{Arc}
use Rattle.std.specs.Arc.{arc_value}
use Rattle.plan_core.specs.declared.mark.Mark.{Mark}
use Rattle.plan_core.specs.declared.mark.Mark.TheVariants.{Free, Claimed, Published}
use Rattle.plan_core.specs.Graph.{callees, IsPlan}
use Rattle.plan_core.specs.Core.{mark_of, is_free, is_claimed, is_published, is_claimed_by, all_published, may_claim, after, Claim, Publish, NoneIsClaimed, SomeIsFree}
use Rattle.work_pool.specs.Outputs.{outputs_of, made_at, IsMade, ArePublishedMade}

module _ {A : Type 0} where
  pub some_from_and : (o : Option A) (P : A → Type 0) → IsSomeAnd o P → IsSome o
  some_from_and None P h = absurd h
  some_from_and (Some x) P h = search refl

  pub value_from : {B : Type 0} (h : A → B) (o : Option A) (x y : B) → IfSome o (λ a. x ≡ h a) → IsSomeAnd o (λ a. h a ≡ y) → x ≡ y
  value_from h None x y shared made = absurd made
  value_from h (Some a) x y shared made = shared ∙ made

pub map_agree : {A B : Type 0} (h k : A → B) → ((a : A) → h a ≡ k a) → (xs : List A) → map h xs ≡ map k xs
map_agree h k same [] = refl
map_agree h k same (x ∷ xs) = λ i. same x i ∷ map_agree h k same xs i

-- one more element
pub map_push : {A B C : Type 0} (h : A → C) (k : B → C) (xs : List A) (ys : List B) (x : A) (i : ℕ) (d : B)
    → i < length ys → map h xs ≡ map k (take i ys) → h x ≡ k (get_or ys i d) → map h (xs ++ x ∷ []) ≡ map k (take (i + 1) ys)
map_push {A} {B} {C} h k xs ys x i d low before here =
    map_snoc xs ∙ ((λ j. before j ++ here j ∷ []) ∙ sym (map_more k ys i d low))
  where
    map_snoc : (zs : List A) → map h (zs ++ x ∷ []) ≡ map h zs ++ h x ∷ []
    map_snoc [] = refl
    map_snoc (z ∷ zs) = ap (λ l. h z ∷ l) (map_snoc zs)

module _ {O : Type 0} where
  outputs_from : (defined : ℕ → O) (a : ℕ) (xs : List (Arc O Global))
      → ((f : ℕ) → f < length xs → IsSomeAnd (get_or (map Some xs) f None) (λ v. arc_value v ≡ defined (a + f)))
      → map arc_value xs ≡ map defined (range_with_len a (length xs))
  outputs_from defined a [] all = refl
  outputs_from defined a (x ∷ xs) all =
      let first : arc_value x ≡ defined a = all 0 (omega arith) ∙ ap defined (let e : a + 0 ≡ a = omega arith in e) in
      let rest = outputs_from defined (a + 1) xs
      (λ f low.
      let e : a + suc f ≡ a + 1 + f = omega arith in
      subst (λ (n : ℕ). IsSomeAnd (get_or (map Some xs) f None) (λ v. arc_value v ≡ defined n)) e (all (suc f) (omega (arith, low)))) in
      λ i. first i ∷ rest i

  -- all outputs, from what was made of each function
  pub outputs_moved : (defined : ℕ → O) (xs : List (Arc O Global)) (made : List (Option (Arc O Global))) (n : ℕ)
      → map Some xs ≡ made → length made ≡ n → ((f : ℕ) → f < n → IsMade defined made f)
      → map arc_value xs ≡ outputs_of defined n
  outputs_moved defined xs made n moved many all =
      let size : length xs ≡ n = sym (length-map xs Some) ∙ (ap length moved ∙ many) in
      outputs_from defined 0 xs
      (λ f low.
      let e : f ≡ 0 + f = omega arith in
      subst (λ (k : ℕ). IsSomeAnd (get_or (map Some xs) f None) (λ v. arc_value v ≡ defined k)) e
      (subst (λ os. IsSomeAnd (get_or os f None) (λ v. arc_value v ≡ defined f)) (sym moved) (all f (omega (arith, low, size)))))
      ∙ ap (λ (k : ℕ). map defined (range_with_len 0 k)) size

-- one more output, moved out of its place
pub moved_push : {A : Type 0} (xs : List A) (ys : List (Option A)) (x : A) (i : ℕ)
    → i < length ys → map Some xs ≡ take i ys → Some x ≡ get_or ys i None → map Some (xs ++ x ∷ []) ≡ take (i + 1) ys
moved_push {A} xs ys x i low before here =
    map_snoc xs ∙ ((λ j. before j ++ here j ∷ []) ∙ sym (take_more ys i None low))
  where
    map_snoc : (zs : List A) → map Some (zs ++ x ∷ []) ≡ map Some zs ++ Some x ∷ []
    map_snoc [] = refl
    map_snoc (z ∷ zs) = ap (λ l. Some z ∷ l) (map_snoc zs)

pub get_any : {A : Type 0} (xs : List A) (i : ℕ) (a b : A) → i < length xs → get_or xs i a ≡ get_or xs i b
get_any [] i a b low = absurd (omega (arith, low))
get_any (x ∷ xs) zero a b low = refl
get_any (x ∷ xs) (suc i) a b low = get_any xs i a b (omega (arith, low))

-- what all functions of a list pass, each passes
pub passes_each : (test : ℕ → Bool) (fs : List ℕ) (f : ℕ) → list_all test fs ≡ true → Contains fs f → test f ≡ true
passes_each test fs f all has =
    true_from_ne_false (test f) (λ fails. false≢true (sym (list_all_at test fs has.0 f has.1 (ap test has.2 ∙ fails)) ∙ all))

module _ {O : Type 0} (defined : ℕ → O) where
  -- the outputs of the callees of a function that may be claimed were made
  pub callees_made : (rows : List (List ℕ)) (marks : List Mark) (made : List (Option (Arc O Global))) (f : ℕ)
      → IsPlan rows → length marks ≡ length rows → ArePublishedMade defined marks made → may_claim rows marks f ≡ true
      → All (IsMade defined made) (callees rows f)
  callees_made rows marks made f plan many is_made may k d low =
      let g : ℕ = get_or (callees rows f) k d in
      let has : Contains (callees rows f) g = (k, low, get_any (callees rows f) k g d low) in
      let parts = and_parts (is_free (mark_of marks f)) (all_published marks (callees rows f)) may in
      let inside = plan.inside f g has in
      is_made g (omega (arith, inside, many)) (passes_each (λ h. is_published (mark_of marks h)) (callees rows f) g parts.1 has)

  -- so they can be shared
  pub callees_shared : (rows : List (List ℕ)) (marks : List Mark) (made : List (Option (Arc O Global))) (f : ℕ)
      → IsPlan rows → length marks ≡ length rows → length made ≡ length marks
      → ArePublishedMade defined marks made → may_claim rows marks f ≡ true
      → All (λ h. (h < length made) × IsSome (made_at made h)) (callees rows f)
  callees_shared rows marks made f plan many many' is_made may k d low =
      let g : ℕ = get_or (callees rows f) k d in
      let inside = plan.inside f g (k, low, get_any (callees rows f) k g d low) in
      (omega arith, some_from_and (made_at made g) (λ a. arc_value a ≡ defined g) (callees_made rows marks made f plan many is_made may k d low))

  pub made_more : (marks : List Mark) (made : List (Option (Arc O Global))) (f : ℕ) (output : Arc O Global)
      → f < length made → arc_value output ≡ defined f → ArePublishedMade defined marks made
      → ArePublishedMade defined (set marks f Published) (set made f (Some output))
  made_more marks made f output inside is was h low published =
      ⊎_elim
      (λ same.
      subst (λ o. IsSomeAnd o (λ a. arc_value a ≡ defined h)) (sym (ap (made_at (set made f (Some output))) same ∙ get_or-set_same made f (Some output) None inside))
      (is ∙ ap defined (sym same)))
      (λ other.
      subst (λ o. IsSomeAnd o (λ a. arc_value a ≡ defined h)) (sym (get_or-set_other made f h (Some output) None other))
      (was h (subst (λ (n : ℕ). h < n) (length-set marks f Published) low)
      (ap is_published (sym (get_or-set_other marks f h Published Published other)) ∙ published)))
      (cases_eq h f)

-- a claim and a publication of a function that may be claimed
pub turned : (rows : List (List ℕ)) (marks : List Mark) (w f : ℕ) → f < length marks → may_claim rows marks f ≡ true
    → after rows (after rows marks (Claim w f)) (Publish w f) ≡ set marks f Published
turned rows marks w f inside may =
    let claimed : after rows marks (Claim w f) ≡ set marks f (Claimed w) = cond-true (may_claim rows marks f) (set marks f (Claimed w)) marks may in
    ap (λ ms. after rows ms (Publish w f)) claimed
    ∙ (cond-true (is_claimed_by w (mark_of (set marks f (Claimed w)) f)) (set (set marks f (Claimed w)) f Published) (set marks f (Claimed w))
    (ap (is_claimed_by w) (get_or-set_same marks f (Claimed w) Published inside) ∙ eq-eqb w w refl)
    ∙ set-set marks f (Claimed w) Published)

pub quiet_more : (marks : List Mark) (f : ℕ) → f < length marks → NoneIsClaimed marks → NoneIsClaimed (set marks f Published)
quiet_more marks f inside quiet h =
    ⊎_elim
    (λ same. ap (λ (i : ℕ). is_claimed (mark_of (set marks f Published) i)) same ∙ ap is_claimed (get_or-set_same marks f Published Published inside))
    (λ other. ap is_claimed (get_or-set_other marks f h Published Published other) ∙ quiet h)
    (cases_eq h f)

-- 1 for a free function
abbrev pub weight : Mark → ℕ
weight m = cond (is_free m) 1 0

-- one free function less
pub fewer_free : (marks : List Mark) (f : ℕ) → f < length marks → is_free (mark_of marks f) ≡ true
    → sum_by weight (set marks f Published) < sum_by weight marks
fewer_free marks f inside free =
    let one : weight (mark_of marks f) ≡ 1 = cond-true (is_free (mark_of marks f)) 1 0 free in
    let both = sum_by-set weight marks f Published Published inside in omega (arith, one, both)

pub free_from_may : (rows : List (List ℕ)) (marks : List Mark) (f : ℕ) → may_claim rows marks f ≡ true → is_free (mark_of marks f) ≡ true
free_from_may rows marks f may = (and_parts (is_free (mark_of marks f)) (all_published marks (callees rows f)) may).0

published_from : (m : Mark) → is_claimed m ≡ false → (is_free m ≡ true → ⊥) → is_published m ≡ true
published_from Free quiet busy = absurd (busy refl)
published_from (Claimed w) quiet busy = absurd (true≢false quiet)
published_from Published quiet busy = refl

-- where no function is free or claimed, each is published
pub all_published_at_end : (marks : List Mark) → NoneIsClaimed marks → (SomeIsFree marks → ⊥) → (f : ℕ) → is_published (mark_of marks f) ≡ true
all_published_at_end marks quiet none f = published_from (mark_of marks f) (quiet f) (λ free. none (f, free))

mark_at_start : (n : ℕ) (marks : List Mark) (f : ℕ) → marks ≡ replicate n Free → f < length marks → mark_of marks f ≡ Free
mark_at_start n marks f is low =
    let many : length marks ≡ n = ap length is ∙ length-replicate n Free in
    ap (λ ms. mark_of ms f) is ∙ get_or-replicate n f Free Published (omega arith)

pub quiet_at_start : (n : ℕ) (marks : List Mark) → marks ≡ replicate n Free → NoneIsClaimed marks
quiet_at_start n marks is f =
    ⊎_elim
    (λ inside. ap is_claimed (mark_at_start n marks f is inside))
    (λ past. ap is_claimed (get_or_past marks f Published past))
    (cases_lt f (length marks))

pub made_at_start : {O : Type 0} (defined : ℕ → O) (n : ℕ) (marks : List Mark) (made : List (Option (Arc O Global)))
    → marks ≡ replicate n Free → ArePublishedMade defined marks made
made_at_start defined n marks made is f low published =
    absurd (true≢false (sym published ∙ ap is_published (mark_at_start n marks f is low)))

pub all_made_at_end : {O : Type 0} (defined : ℕ → O) (marks : List Mark) (made : List (Option (Arc O Global)))
    → NoneIsClaimed marks → (SomeIsFree marks → ⊥) → ArePublishedMade defined marks made → length made ≡ length marks
    → (f : ℕ) → f < length made → IsMade defined made f
all_made_at_end defined marks made quiet none is_made many f low =
    is_made f (omega arith) (all_published_at_end marks quiet none f)
