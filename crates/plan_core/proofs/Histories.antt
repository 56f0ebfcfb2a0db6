-- The events that applied, seen at one function: they are what its mark says.

use Rattle.std.proofs.Common.{◌≡◌, ℕ, ◌<◌, ◌≤◌, true, false, cond, List, [], ◌∷◌, ◌++◌, length, slice_set, get_or-set_same, get_or-set_other, append-nil, length-set, refl, sym, subst, ap, ◌∙◌, ⊎_elim, ◌⊎◌, inl, inr, arith}
use Rattle.std.proofs.lemmas.List.{get_or_past, get_or-replicate, length-replicate}
use Rattle.std.proofs.lemmas.List.Elements.{filter-append}
use Rattle.std.proofs.lemmas.Bool.{cases_eq, cases_lt, eqb-true, eq-eqb, ne_eqb, and_parts, false≢true}
use Rattle.plan_core.specs.declared.mark.Mark.{Mark}
use Rattle.plan_core.specs.declared.mark.Mark.TheVariants.{Free, Claimed, Published}
use Rattle.plan_core.specs.Graph.{callees}
use Rattle.plan_core.specs.Core.{mark_of, is_free, is_published, is_claimed_by, all_published, may_claim, start, Event, Claim, Publish, applies, changed, is_at, events_at, IsDone, IsOnce}
use Rattle.plan_core.proofs.Marks.{inside_from_free, inside_from_claimed}

-- what the mark of f says of the events at f, in a plan of n functions
pub Tells : (n f : ℕ) → Mark → List Event → Type 0
Tells n f Free es = es ≡ []
Tells n f (Claimed w) es = es ≡ Claim w f ∷ []
Tells n f Published es = ((n ≤ f) × (es ≡ [])) ⊎ ((w : ℕ) × (es ≡ Claim w f ∷ Publish w f ∷ []))

-- one event more
events_at_push : (f : ℕ) (past : List Event) (e : Event)
    → events_at f (past ++ e ∷ []) ≡ events_at f past ++ cond (is_at f e) (e ∷ []) []
events_at_push f past e = filter-append (is_at f) past (e ∷ [])

events_at_here : (f : ℕ) (past : List Event) (e : Event) → is_at f e ≡ true → events_at f (past ++ e ∷ []) ≡ events_at f past ++ e ∷ []
events_at_here f past e here = events_at_push f past e ∙ ap (λ b. events_at f past ++ cond b (e ∷ []) []) here

events_at_elsewhere : (f : ℕ) (past : List Event) (e : Event) → is_at f e ≡ false → events_at f (past ++ e ∷ []) ≡ events_at f past
events_at_elsewhere f past e elsewhere =
    events_at_push f past e ∙ ap (λ b. events_at f past ++ cond b (e ∷ []) []) elsewhere ∙ append-nil (events_at f past)

-- the facts that every event keeps
pub record IsTold (rows : List (List ℕ)) (marks : List Mark) (past : List Event) : Type 0 where
  pub as_many : length marks ≡ length rows
  pub told : (f : ℕ) → Tells (length rows) f (mark_of marks f) (events_at f past)

-- free before, claimed now
claimed_tells : (n f w : ℕ) (m : Mark) (past : List Event) → is_free m ≡ true → Tells n f m (events_at f past)
    → Tells n f (Claimed w) (events_at f (past ++ Claim w f ∷ []))
unfolding Tells
claimed_tells n f w Free past free none =
    events_at_here f past (Claim w f) (eq-eqb f f refl) ∙ ap (λ es. es ++ Claim w f ∷ []) none
claimed_tells n f w (Claimed v) past free told = absurd (false≢true free)
claimed_tells n f w Published past free told = absurd (false≢true free)

-- claimed by w before, published now
published_tells : (n f w : ℕ) (m : Mark) (past : List Event) → is_claimed_by w m ≡ true → Tells n f m (events_at f past)
    → Tells n f Published (events_at f (past ++ Publish w f ∷ []))
unfolding Tells
published_tells n f w Free past claimed told = absurd (false≢true claimed)
published_tells n f w (Claimed v) past claimed told =
    inr (
      w,
      events_at_here f past (Publish w f) (eq-eqb f f refl)
          ∙ ap (λ es. es ++ Publish w f ∷ []) told
          ∙ ap (λ u. Claim u f ∷ Publish w f ∷ []) (eqb-true v w claimed),
    )
published_tells n f w Published past claimed told = absurd (false≢true claimed)

told_after_claim : (rows : List (List ℕ)) (marks : List Mark) (past : List Event) (w f : ℕ)
    → may_claim rows marks f ≡ true → IsTold rows marks past
    → IsTold rows (slice_set marks f (Claimed w)) (past ++ Claim w f ∷ [])
told_after_claim rows marks past w f may told =
    let parts = and_parts (is_free (mark_of marks f)) (all_published marks (callees rows f)) may in
    record {
      as_many = length-set marks f (Claimed w) ∙ told.as_many;
      told =
          λ h. ⊎_elim
          (λ same.
          subst (λ i. Tells (length rows) i (mark_of (slice_set marks f (Claimed w)) i) (events_at i (past ++ Claim w f ∷ []))) (sym same)
          (subst (λ m. Tells (length rows) f m (events_at f (past ++ Claim w f ∷ [])))
          (sym (get_or-set_same marks f (Claimed w) Published (inside_from_free marks f parts.0)))
          (claimed_tells (length rows) f w (mark_of marks f) past parts.0 (told.told f))))
          (λ other.
          subst (λ m. Tells (length rows) h m (events_at h (past ++ Claim w f ∷ [])))
          (sym (get_or-set_other marks f h (Claimed w) Published other))
          (subst (Tells (length rows) h (mark_of marks h))
          (sym (events_at_elsewhere h past (Claim w f) (ne_eqb f h (λ e. other (sym e)))))
          (told.told h)))
          (cases_eq h f);
    }

told_after_publish : (rows : List (List ℕ)) (marks : List Mark) (past : List Event) (w f : ℕ)
    → is_claimed_by w (mark_of marks f) ≡ true → IsTold rows marks past
    → IsTold rows (slice_set marks f Published) (past ++ Publish w f ∷ [])
told_after_publish rows marks past w f owned told =
    record {
      as_many = length-set marks f Published ∙ told.as_many;
      told =
          λ h. ⊎_elim
          (λ same.
          subst (λ i. Tells (length rows) i (mark_of (slice_set marks f Published) i) (events_at i (past ++ Publish w f ∷ []))) (sym same)
          (subst (λ m. Tells (length rows) f m (events_at f (past ++ Publish w f ∷ [])))
          (sym (get_or-set_same marks f Published Published (inside_from_claimed marks w f owned)))
          (published_tells (length rows) f w (mark_of marks f) past owned (told.told f))))
          (λ other.
          subst (λ m. Tells (length rows) h m (events_at h (past ++ Publish w f ∷ [])))
          (sym (get_or-set_other marks f h Published Published other))
          (subst (Tells (length rows) h (mark_of marks h))
          (sym (events_at_elsewhere h past (Publish w f) (ne_eqb f h (λ e. other (sym e)))))
          (told.told h)))
          (cases_eq h f);
    }

pub told_after : (rows : List (List ℕ)) (marks : List Mark) (past : List Event) (e : Event)
    → applies rows marks e ≡ true → IsTold rows marks past → IsTold rows (changed marks e) (past ++ e ∷ [])
told_after rows marks past (Claim w f) yes' told = told_after_claim rows marks past w f yes' told
told_after rows marks past (Publish w f) yes' told = told_after_publish rows marks past w f yes' told

pub told_start : (rows : List (List ℕ)) → IsTold rows (start rows) []
unfolding Tells
told_start rows =
    record {
      as_many = length-replicate (length rows) Free;
      told =
          λ f. ⊎_elim
          (λ inside. subst (λ m. Tells (length rows) f m []) (sym (get_or-replicate (length rows) f Free Published inside)) refl)
          (λ past.
          subst (λ m. Tells (length rows) f m [])
          (sym (get_or_past (start rows) f Published (subst (λ n. n ≤ f) (sym (length-replicate (length rows) Free)) past)))
          (inl (past, refl)))
          (cases_lt f (length rows));
    }

pub once_from : (n f : ℕ) (m : Mark) (log : List Event) → Tells n f m (events_at f log) → IsOnce f log
unfolding Tells
once_from n f Free log told = inl told
once_from n f (Claimed w) log told = inr (inl (w, told))
once_from n f Published log told = ⊎_elim (λ outside. inl outside.1) (λ done. inr (inr done)) told

-- a published function of the plan was claimed and published
pub done_from : (n f : ℕ) (m : Mark) (log : List Event) → f < n → is_published m ≡ true → Tells n f m (events_at f log) → IsDone f log
unfolding Tells
done_from n f Free log inside published told = absurd (false≢true published)
done_from n f (Claimed w) log inside published told = absurd (false≢true published)
done_from n f Published log inside published told = ⊎_elim (λ outside. absurd (omega (arith, outside.0, inside))) (λ done. done) told
