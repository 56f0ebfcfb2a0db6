-- Clauses that are taken out one after the other.

use Rattle.std.proofs.Common.{◌≡◌, ◌⊎◌, inl, inr, ℕ, zero, suc, List, [], ◌∷◌, ◌++◌, slice_get, Option, None, Some, refl, sym, subst, ap, ◌∙◌, arith}
use Rattle.std.specs.List.{Contains}
use Rattle.std.proofs.lemmas.List.Elements.{Contains-append_left, Contains-append_right, Contains-append_cases, Contains-push, Contains-push_cases}
use Rattle.sat_base.specs.declared.literal.Lit.{Lit}
use Rattle.sat_base.specs.Certificates.{HasSameLits, TakesOut}
use Rattle.sat_clauses.specs.Learnt.{Thins, AddsAt, IsFree}
use Rattle.sat_clauses.specs.Certified.{present, Loses, Covers}

-- ---- lists

pub empty_has : {X : Type 0} {A : Type 0} (x : X) → Contains [] x → A
empty_has x h = let low = h.1 in absurd (omega (arith, low))

pub head_in : {X : Type 0} (x : X) (xs : List X) → Contains (x ∷ xs) x
head_in x xs = Contains-append_left (x ∷ []) xs x (Contains-push [] x)

pub tail_in : {X : Type 0} (x : X) (xs : List X) (y : X) → Contains xs y → Contains (x ∷ xs) y
tail_in x xs y h = Contains-append_right (x ∷ []) xs y h

pub head_or_tail : {X : Type 0} (x : X) (xs : List X) (y : X) → Contains (x ∷ xs) y → (x ≡ y) ⊎ Contains xs y
head_or_tail x xs y h =
    elim (Contains-append_cases (x ∷ []) xs y h) [
      | inl first ↦
          elim (Contains-push_cases [] x y first) [
            | inl none ↦ empty_has y none
            | inr same ↦ inl same
          ]
      | inr later ↦ inr later
    ]

abbrev pub Sub : List (List Lit) → List (List Lit) → Type 0
Sub A B = (c : List Lit) → Contains A c → Contains B c

pub some_same : {X : Type 0} (x y : X) → Some x ≡ Some y → x ≡ y
some_same x y e = cc e

-- ---- one clause

loses_sub : (c : List Lit) (whole left : List (List Lit)) → Loses c whole left → Sub left whole
loses_sub c [] left h x there = absurd h
loses_sub c (d ∷ ds) left h x there =
    elim h [
      | inl here ↦ tail_in d ds x (subst (λ cs. Contains cs x) here.1 there)
      | inr w ↦
          elim (head_or_tail d w.0 x (subst (λ cs. Contains cs x) w.1 there)) [
            | inl same ↦ subst (Contains (d ∷ ds)) same (head_in d ds)
            | inr past ↦ tail_in d ds x (loses_sub c ds w.0 w.2 x past)
          ]
    ]

loses_has : (c : List Lit) (whole left : List (List Lit)) → Loses c whole left → Contains whole c
loses_has c [] left h = absurd h
loses_has c (d ∷ ds) left h =
    elim h [
      | inl here ↦ subst (Contains (d ∷ ds)) here.0 (head_in d ds)
      | inr w ↦ tail_in d ds c (loses_has c ds w.0 w.2)
    ]

pub loses_last : (now : List (List Lit)) (c : List Lit) → Loses c (now ++ c ∷ []) now
loses_last [] c = inl (refl, refl)
loses_last (d ∷ ds) c = inr (ds, refl, loses_last ds c)

same_lits : (c d : List Lit) → c ≡ d → HasSameLits c d
same_lits c d e = record { forth = λ l h. subst (λ x. Contains x l) e h; back = λ l h. subst (λ x. Contains x l) (sym e) h }

pub takes_out : (c : List Lit) (all left : List (List Lit)) → Loses c all left → TakesOut all c left
takes_out c [] left h = absurd h
takes_out c (d ∷ ds) left h =
    elim h [
      | inl here ↦ record { before = []; after = ds; out = d; whole = refl; same = same_lits d c here.0; rest = here.1 }
      | inr w ↦
          let t = takes_out c ds w.0 w.2 in
          record {
            before = d ∷ t.before;
            after = t.after;
            out = t.out;
            whole = ap (λ cs. d ∷ cs) t.whole;
            same = t.same;
            rest = w.1 ∙ ap (λ cs. d ∷ cs) t.rest;
          }
    ]

-- two clauses are taken out in either order
swapped : (x c : List Lit) (now mid left : List (List Lit)) → Loses x now mid → Loses c mid left
    → (other : List (List Lit)) × Loses c now other × Loses x other left
swapped x c [] mid left h k = absurd h
swapped x c (d ∷ ds) mid left h k =
    elim h [
      | inl here ↦ (d ∷ left, inr (left, refl, subst (λ cs. Loses c cs left) here.1 k), inl (here.0, refl))
      | inr w ↦
          elim (subst (λ cs. Loses c cs left) w.1 k) [
            | inl here ↦ (ds, inl (here.0, refl), subst (Loses x ds) (sym here.1) w.2)
            | inr v ↦ let t = swapped x c ds w.0 v.0 w.2 v.2 in (d ∷ t.0, inr (t.0, refl, t.1), inr (v.0, v.1, t.2))
          ]
    ]

-- ---- all learnt clauses

pub covers_others : (others : List (List Lit)) (learnt : List (Option (List Lit))) (now : List (List Lit)) → Covers others learnt now → Sub others now
covers_others others [] now h = h
covers_others others (None ∷ ls) now h = covers_others others ls now h
covers_others others (Some c ∷ ls) now h = λ x there. loses_sub c now h.0 h.1 x (covers_others others ls h.0 h.2 x there)

pub covers_present : (others : List (List Lit)) (learnt : List (Option (List Lit))) (now : List (List Lit)) → Covers others learnt now → Sub (present learnt) now
covers_present others [] now h = λ x there. empty_has x there
covers_present others (None ∷ ls) now h = covers_present others ls now h
covers_present others (Some c ∷ ls) now h =
    λ x there.
    elim (head_or_tail c (present ls) x there) [
      | inl same ↦ subst (Contains now) same (loses_has c now h.0 h.1)
      | inr past ↦ loses_sub c now h.0 h.1 x (covers_present others ls h.0 h.2 x past)
    ]

-- one clause more does no harm
covers_wider : (others : List (List Lit)) (learnt : List (Option (List Lit))) (d : List Lit) (wide now : List (List Lit)) → Loses d wide now → Covers others learnt now
    → Covers others learnt wide
covers_wider others [] d wide now k h = λ x there. loses_sub d wide now k x (h x there)
covers_wider others (None ∷ ls) d wide now k h = covers_wider others ls d wide now k h
covers_wider others (Some c ∷ ls) d wide now k h =
    let t = swapped d c wide now h.0 k h.1 in (t.0, t.1, covers_wider others ls d t.0 h.0 t.2 h.2)

-- the entries after the first
rest_of : List (Option (List Lit)) → List (Option (List Lit))
rest_of [] = []
rest_of (o ∷ os) = os

rest_at : (old : List (Option (List Lit))) (j : ℕ) → slice_get (rest_of old) j ≡ slice_get old (suc j)
unfolding rest_of
rest_at [] j = refl
rest_at (o ∷ os) j = refl

covers_rest : (others : List (List Lit)) (old : List (Option (List Lit))) (now : List (List Lit)) → Covers others old now → Covers others (rest_of old) now
unfolding rest_of
covers_rest others [] now h = h
covers_rest others (None ∷ os) now h = h
covers_rest others (Some c ∷ os) now h = covers_wider others os c now h.0 h.1 h.2

covers_first : (others : List (List Lit)) (old : List (Option (List Lit))) (d : List Lit) (now : List (List Lit)) → slice_get old zero ≡ Some (Some d) → Covers others old now
    → (left : List (List Lit)) × Loses d now left × Covers others (rest_of old) left
unfolding rest_of
covers_first others [] d now at h = absurd (cc at)
covers_first others (None ∷ os) d now at h = absurd (cc at)
covers_first others (Some c ∷ os) d now at h = let e : c ≡ d = cc at in (h.0, subst (λ x. Loses x now h.0) e h.1, h.2)

thins_rest : (old : List (Option (List Lit))) (n : Option (List Lit)) (ns : List (Option (List Lit))) → Thins old (n ∷ ns) → Thins (rest_of old) ns
thins_rest old n ns t = λ j c h. rest_at old j ∙ t (suc j) c h

-- some of them are deleted
pub covers_thins : (others : List (List Lit)) (old new : List (Option (List Lit))) (now : List (List Lit)) → Thins old new → Covers others old now → Covers others new now
covers_thins others old [] now t h = covers_others others old now h
covers_thins others old (None ∷ ns) now t h = covers_thins others (rest_of old) ns now (thins_rest old None ns t) (covers_rest others old now h)
covers_thins others old (Some c ∷ ns) now t h =
    let f = covers_first others old c now (t zero c refl) h in
    (f.0, f.1, covers_thins others (rest_of old) ns f.0 (thins_rest old (Some c) ns t) f.2)

-- the clause of this number is deleted
pub covers_lost : (others : List (List Lit)) (i : ℕ) (old new : List (Option (List Lit))) (c : List Lit) (now : List (List Lit)) → Thins old new
    → slice_get old i ≡ Some (Some c) → IsFree new i → Covers others old now → (left : List (List Lit)) × Loses c now left × Covers others new left
covers_lost others zero old [] c now t at free h =
    let f = covers_first others old c now at h in (f.0, f.1, covers_others others (rest_of old) f.0 f.2)
covers_lost others zero old (None ∷ ns) c now t at free h =
    let f = covers_first others old c now at h in (f.0, f.1, covers_thins others (rest_of old) ns f.0 (thins_rest old None ns t) f.2)
covers_lost others zero old (Some d ∷ ns) c now t at free h = absurd (free d refl)
covers_lost others (suc i) [] new c now t at free h = absurd (cc at)
covers_lost others (suc i) (None ∷ os) [] c now t at free h = covers_lost others i os [] c now (λ j x k. absurd (cc k)) at (λ x k. absurd (cc k)) h
covers_lost others (suc i) (None ∷ os) (None ∷ ns) c now t at free h = covers_lost others i os ns c now (λ j x k. t (suc j) x k) at free h
covers_lost others (suc i) (None ∷ os) (Some d ∷ ns) c now t at free h = let e = t zero d refl in absurd (cc e)
covers_lost others (suc i) (Some e ∷ os) [] c now t at free h =
    let r = covers_lost others i os [] c h.0 (λ j x k. absurd (cc k)) at (λ x k. absurd (cc k)) h.2 in
    let s = swapped e c now h.0 r.0 h.1 r.1 in
    (s.0, s.1, covers_wider others [] e s.0 r.0 s.2 r.2)
covers_lost others (suc i) (Some e ∷ os) (None ∷ ns) c now t at free h =
    let r = covers_lost others i os ns c h.0 (λ j x k. t (suc j) x k) at free h.2 in
    let s = swapped e c now h.0 r.0 h.1 r.1 in
    (s.0, s.1, covers_wider others ns e s.0 r.0 s.2 r.2)
covers_lost others (suc i) (Some e ∷ os) (Some d ∷ ns) c now t at free h =
    let same : e ≡ d = cc (t zero d refl) in
    let r = covers_lost others i os ns c h.0 (λ j x k. t (suc j) x k) at free h.2 in
    let s = swapped e c now h.0 r.0 h.1 r.1 in
    (s.0, s.1, (r.0, subst (λ x. Loses x s.0 r.0) same s.2, r.2))

-- ---- a clause more

not_zero : {A : Type 0} (j : ℕ) → suc j ≡ zero → A
not_zero j e = absurd (omega (arith, e))

adds_past : (old : List (Option (List Lit))) (n : Option (List Lit)) (ns : List (Option (List Lit))) (c : List Lit) → AddsAt old (n ∷ ns) c zero → Thins (rest_of old) ns
adds_past old n ns c a = λ j d h.
    elim (a (suc j) d h) [
      | inl new ↦ not_zero j new.0
      | inr was ↦ rest_at old j ∙ was
    ]

adds_rest : (old : List (Option (List Lit))) (n : Option (List Lit)) (ns : List (Option (List Lit))) (c : List Lit) (i : ℕ) → AddsAt old (n ∷ ns) c (suc i)
    → AddsAt (rest_of old) ns c i
adds_rest old n ns c i a = λ j d h.
    elim (a (suc j) d h) [
      | inl new ↦ let e = new.0 in inl (omega (arith, e), new.1)
      | inr was ↦ inr (rest_at old j ∙ was)
    ]

pub covers_adds : (others : List (List Lit)) (i : ℕ) (old new : List (Option (List Lit))) (c : List Lit) (wide now : List (List Lit)) → AddsAt old new c i
    → Loses c wide now → Covers others old now → Covers others new wide
covers_adds others i old [] c wide now a k h = covers_wider others [] c wide now k (covers_others others old now h)
covers_adds others zero old (None ∷ ns) c wide now a k h =
    covers_wider others ns c wide now k (covers_thins others (rest_of old) ns now (adds_past old None ns c a) (covers_rest others old now h))
covers_adds others zero old (Some d ∷ ns) c wide now a k h =
    elim (a zero d refl) [
      | inl new ↦ (
        now,
        subst (λ x. Loses x wide now) (sym new.1) k,
        covers_thins others (rest_of old) ns now (adds_past old (Some d) ns c a) (covers_rest others old now h),
      )
      | inr was ↦
          let f = covers_first others old d now was h in
          let s = swapped c d wide now f.0 k f.1 in
          (s.0, s.1, covers_wider others ns c s.0 f.0 s.2 (covers_thins others (rest_of old) ns f.0 (adds_past old (Some d) ns c a) f.2))
    ]
covers_adds others (suc i) old (None ∷ ns) c wide now a k h =
    covers_adds others i (rest_of old) ns c wide now (adds_rest old None ns c i a) k (covers_rest others old now h)
covers_adds others (suc i) old (Some d ∷ ns) c wide now a k h =
    elim (a zero d refl) [
      | inl new ↦ not_zero i (sym new.0)
      | inr was ↦
          let f = covers_first others old d now was h in
          let s = swapped c d wide now f.0 k f.1 in
          (s.0, s.1, covers_adds others i (rest_of old) ns c s.0 f.0 (adds_rest old (Some d) ns c i a) s.2 f.2)
    ]
