-- What one change does to the marks, and that claims and publications keep them sound.

use Rattle.std.proofs.Common.{◌≡◌, ℕ, ◌<◌, Bool, true, false, List, length, slice_set, get_or-set_same, get_or-set_other, refl, sym, subst, ap, ◌∙◌, ⊎_elim}
use Rattle.std.proofs.lemmas.List.{get_or_past}
use Rattle.std.proofs.lemmas.Bool.{cases_eq, cases_lt, and_parts, true_from_ne_false, false≢true}
use Rattle.std.proofs.lemmas.List.Folds.{list_all_at}
use Rattle.std.specs.List.{list_all, Contains}
use Rattle.plan_core.specs.declared.mark.Mark.{Mark}
use Rattle.plan_core.specs.declared.mark.Mark.TheVariants.{Free, Claimed, Published}
use Rattle.plan_core.specs.Graph.{callees}
use Rattle.plan_core.specs.Core.{mark_of, is_free, is_published, is_claimed_by, all_published, may_claim, IsSound}

-- a function that is free is one of the plan's
pub inside_from_free : (marks : List Mark) (f : ℕ) → is_free (mark_of marks f) ≡ true → f < length marks
inside_from_free marks f free =
    ⊎_elim
    (λ inside. inside)
    (λ past. absurd (false≢true (ap is_free (sym (get_or_past marks f Published past)) ∙ free)))
    (cases_lt f (length marks))

-- so is one that is claimed
pub inside_from_claimed : (marks : List Mark) (w f : ℕ) → is_claimed_by w (mark_of marks f) ≡ true → f < length marks
inside_from_claimed marks w f claimed =
    ⊎_elim
    (λ inside. inside)
    (λ past. absurd (false≢true (ap (is_claimed_by w) (sym (get_or_past marks f Published past)) ∙ claimed)))
    (cases_lt f (length marks))

pub is_published-free : (m : Mark) → is_free m ≡ true → is_published m ≡ false
is_published-free Free free = refl
is_published-free (Claimed w) free = absurd (false≢true free)
is_published-free Published free = absurd (false≢true free)

pub is_free-claimed_by : (w : ℕ) (m : Mark) → is_claimed_by w m ≡ true → is_free m ≡ false
is_free-claimed_by w Free claimed = absurd (false≢true claimed)
is_free-claimed_by w (Claimed v) claimed = refl
is_free-claimed_by w Published claimed = refl

-- what holds of all functions of a list holds of each
pub list_all-contains : (test : ℕ → Bool) (xs : List ℕ) (x : ℕ) → list_all test xs ≡ true → Contains xs x → test x ≡ true
list_all-contains test xs x all has =
    true_from_ne_false (test x) (λ fails. false≢true (sym (list_all_at test xs has.0 x has.1 (ap test has.2 ∙ fails)) ∙ all))

-- a claim of a free function takes no publication back
pub published_after_claim : (marks : List Mark) (w f g : ℕ)
    → is_free (mark_of marks f) ≡ true → is_published (mark_of marks g) ≡ true
    → is_published (mark_of (slice_set marks f (Claimed w)) g) ≡ true
published_after_claim marks w f g free published =
    ⊎_elim
    (λ same. absurd (false≢true (sym (is_published-free (mark_of marks f) free) ∙ ap (λ h. is_published (mark_of marks h)) (sym same) ∙ published)))
    (λ other. ap is_published (get_or-set_other marks f g (Claimed w) Published other) ∙ published)
    (cases_eq g f)

-- nor does a publication
pub published_after_publish : (marks : List Mark) (w f g : ℕ)
    → f < length marks → is_published (mark_of marks g) ≡ true
    → is_published (mark_of (slice_set marks f Published) g) ≡ true
published_after_publish marks w f g inside published =
    ⊎_elim
    (λ same. ap (λ h. is_published (mark_of (slice_set marks f Published) h)) same ∙ ap is_published (get_or-set_same marks f Published Published inside))
    (λ other. ap is_published (get_or-set_other marks f g Published Published other) ∙ published)
    (cases_eq g f)

pub claim_sound : (rows : List (List ℕ)) (marks : List Mark) (w f : ℕ)
    → may_claim rows marks f ≡ true → IsSound rows (mark_of marks) → IsSound rows (mark_of (slice_set marks f (Claimed w)))
claim_sound rows marks w f may sound h g busy calls_g =
    let parts = and_parts (is_free (mark_of marks f)) (all_published marks (callees rows f)) may in
    published_after_claim marks w f g parts.0
    (⊎_elim
    (λ same. list_all-contains (λ i. is_published (mark_of marks i)) (callees rows f) g parts.1 (subst (λ i. Contains (callees rows i) g) same calls_g))
    (λ other. sound h g (sym (ap is_free (get_or-set_other marks f h (Claimed w) Published other)) ∙ busy) calls_g)
    (cases_eq h f))

pub publish_sound : (rows : List (List ℕ)) (marks : List Mark) (w f : ℕ)
    → is_claimed_by w (mark_of marks f) ≡ true → IsSound rows (mark_of marks) → IsSound rows (mark_of (slice_set marks f Published))
publish_sound rows marks w f claimed sound h g busy calls_g =
    published_after_publish marks w f g (inside_from_claimed marks w f claimed)
    (⊎_elim
    (λ same. sound f g (is_free-claimed_by w (mark_of marks f) claimed) (subst (λ i. Contains (callees rows i) g) same calls_g))
    (λ other. sound h g (sym (ap is_free (get_or-set_other marks f h Published Published other)) ∙ busy) calls_g)
    (cases_eq h f))
