-- What holds after every list of events, by recursion on the list.

use Rattle.std.proofs.Common.{◌≡◌, ℕ, true, false, cond, List, [], ◌∷◌, ◌++◌, length, append-nil, append_assoc, refl, sym, subst, ap, ◌∙◌, ⊎_elim, arith}
use Rattle.std.proofs.lemmas.List.{get_or_past, get_or-replicate}
use Rattle.std.proofs.lemmas.Bool.{cases_lt, and_parts, cond_both, true≢false}
use Rattle.std.specs.List.{Contains}
use Rattle.plan_core.specs.declared.mark.Mark.{Mark}
use Rattle.plan_core.specs.declared.mark.Mark.TheVariants.{Free, Published}
use Rattle.plan_core.specs.Graph.{callees, IsPlan}
use Rattle.plan_core.specs.Core.{mark_of, is_free, is_published, all_published, start, Event, Claim, Publish, applies, changed, after, run, applied, IsSound, IsDone, IsOnce, CalleesFirst}
use Rattle.plan_core.proofs.Marks.{claim_sound, publish_sound, list_all-contains}
use Rattle.plan_core.proofs.Histories.{IsTold, told_after, told_start, once_from, done_from}

sound_changed : (rows : List (List ℕ)) (marks : List Mark) (e : Event)
    → applies rows marks e ≡ true → IsSound rows (mark_of marks) → IsSound rows (mark_of (changed marks e))
sound_changed rows marks (Claim w f) may sound = claim_sound rows marks w f may sound
sound_changed rows marks (Publish w f) owned sound = publish_sound rows marks w f owned sound

sound_run : (rows : List (List ℕ)) (marks : List Mark) (events : List Event)
    → IsSound rows (mark_of marks) → IsSound rows (mark_of (run rows marks events))
sound_run rows marks [] sound = sound
sound_run rows marks (e ∷ es) sound =
    sound_run rows (after rows marks e) es
    (cond_both (applies rows marks e) (changed marks e) marks (λ ms. IsSound rows (mark_of ms))
    (λ does. sound_changed rows marks e does sound) (λ _. sound))

sound_start : (rows : List (List ℕ)) → IsSound rows (mark_of (start rows))
sound_start rows f g busy calls_g =
    ⊎_elim
    (λ inside. absurd (true≢false (ap is_free (sym (get_or-replicate (length rows) f Free Published inside)) ∙ busy)))
    (λ past. let none = subst (λ gs. Contains gs g) (get_or_past rows f [] past) calls_g in absurd (omega (arith, none.1)))
    (cases_lt f (length rows))

pub sound_always : (rows : List (List ℕ)) (events : List Event) → IsSound rows (mark_of (run rows (start rows) events))
sound_always rows events = sound_run rows (start rows) events (sound_start rows)

once_applied : (rows : List (List ℕ)) (events : List Event) (marks : List Mark) (past : List Event)
    → IsTold rows marks past → (f : ℕ) → IsOnce f (past ++ applied rows marks events)
once_applied rows [] marks past told f =
    subst (IsOnce f) (sym (append-nil past)) (once_from (length rows) f (mark_of marks f) past (told.told f))
once_applied rows (e ∷ es) marks past told f =
    (elim (applies rows marks e) as
    (λ b. applies rows marks e ≡ b
    → IsOnce f (past ++ cond b (e ∷ applied rows (cond b (changed marks e) marks) es) (applied rows (cond b (changed marks e) marks) es))) [
      | true ↦
          λ does.
          subst (IsOnce f) (append_assoc past (e ∷ []) (applied rows (changed marks e) es))
          (once_applied rows es (changed marks e) (past ++ e ∷ []) (told_after rows marks past e does told) f)
      | false ↦ λ _. once_applied rows es marks past told f
    ])
    refl

pub once_always : (rows : List (List ℕ)) (events : List Event) (f : ℕ) → IsOnce f (applied rows (start rows) events)
once_always rows events f = once_applied rows events (start rows) [] (told_start rows) f

-- the callees of a function that is claimed by this event are done
Prepared : List (List ℕ) → List Event → Event → Type 0
Prepared rows past (Claim w f) = (g : ℕ) → Contains (callees rows f) g → IsDone g past
Prepared rows past (Publish w f) = Unit {0}

-- this holds at each event of the log, where these stand before
Ordered : List (List ℕ) → List Event → List Event → Type 0
Ordered rows past [] = Unit {0}
Ordered rows past (e ∷ es) = Prepared rows past e × Ordered rows (past ++ e ∷ []) es

prepared_from : (rows : List (List ℕ)) (marks : List Mark) (past : List Event) (e : Event)
    → IsPlan rows → applies rows marks e ≡ true → IsTold rows marks past → Prepared rows past e
unfolding Prepared
prepared_from rows marks past (Claim w f) plan may told =
    λ g calls_g.
    let parts = and_parts (is_free (mark_of marks f)) (all_published marks (callees rows f)) may in
    done_from (length rows) g (mark_of marks g) past (plan.inside f g calls_g)
    (list_all-contains (λ i. is_published (mark_of marks i)) (callees rows f) g parts.1 calls_g)
    (told.told g)
prepared_from rows marks past (Publish w f) plan owned told = tt

ordered_applied : (rows : List (List ℕ)) → IsPlan rows → (events : List Event) (marks : List Mark) (past : List Event)
    → IsTold rows marks past → Ordered rows past (applied rows marks events)
unfolding Ordered
ordered_applied rows plan [] marks past told = tt
ordered_applied rows plan (e ∷ es) marks past told =
    (elim (applies rows marks e) as
    (λ b. applies rows marks e ≡ b
    → Ordered rows past (cond b (e ∷ applied rows (cond b (changed marks e) marks) es) (applied rows (cond b (changed marks e) marks) es))) [
      | true ↦
          λ does. (
            prepared_from rows marks past e plan does told,
            ordered_applied rows plan es (changed marks e) (past ++ e ∷ []) (told_after rows marks past e does told),
          )
      | false ↦ λ _. ordered_applied rows plan es marks past told
    ])
    refl

done_before : (rows : List (List ℕ)) (before log past rest : List Event) (w f g : ℕ)
    → Ordered rows before log → log ≡ past ++ Claim w f ∷ rest → Contains (callees rows f) g → IsDone g (before ++ past)
unfolding Ordered Prepared
done_before rows before [] [] rest w f g ordered split calls_g = cc
done_before rows before [] (x ∷ past) rest w f g ordered split calls_g = cc
done_before rows before (e ∷ es) [] rest w f g ordered split calls_g =
    let here : e ≡ Claim w f = cc in
    let prepared : Prepared rows before (Claim w f) = subst (Prepared rows before) here ordered.0 in
    subst (IsDone g) (sym (append-nil before)) (prepared g calls_g)
done_before rows before (e ∷ es) (x ∷ past) rest w f g ordered split calls_g =
    let here : e ≡ x = cc in
    let later : es ≡ past ++ Claim w f ∷ rest = cc in
    subst (λ y. IsDone g (before ++ y ∷ past)) here
    (subst (IsDone g) (append_assoc before (e ∷ []) past)
    (done_before rows (before ++ e ∷ []) es past rest w f g ordered.1 later calls_g))

pub callees_first_always : (rows : List (List ℕ)) (events : List Event) → IsPlan rows → CalleesFirst rows (applied rows (start rows) events)
callees_first_always rows events plan past rest w f g split calls_g =
    done_before rows [] (applied rows (start rows) events) past rest w f g
    (ordered_applied rows plan events (start rows) [] (told_start rows)) split calls_g
