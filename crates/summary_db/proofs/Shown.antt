-- The rule of the database shows a sound state of the core.
use Rattle.std.proofs.Common.{◌≡◌, ◌≢◌, ℕ, zero, suc, ◌+◌, ◌<◌, ◌≤◌, Bool, true, false, ◌&&◌, eqb, List, [], ◌∷◌, length, get_or, refl, sym, ap, ◌∙◌, subst, ⊎_elim, arith}
use Rattle.std.proofs.lemmas.Bool.{cases_lt, and_parts, eqb-true, false≢true, true≢false}
use Rattle.std.proofs.lemmas.List.{get_or_past}
use mathlib.Core.Option.{some}
use lib.ListN.{get_elem?}
use Rattle.std.specs.List.{Contains}
use Rattle.atomic_table.specs.Table.{State}
use Rattle.plan_core.specs.Graph.{callees, IsPlan}
use Rattle.plan_core.specs.Core.{is_free, is_published}
use Rattle.summary_db.specs.declared.knows.Knows.{Knows}
use Rattle.summary_db.specs.Views.{member}
use Rattle.summary_db.specs.Places.{edge, takes_of, IsPlace, IsLaidOut}
use Rattle.summary_db.specs.Rule.{Stage, Free, Held, Lost, Done, word_of, is_held, is_lost, is_done, is_with, IsRuled}
use Rattle.summary_db.specs.Shown.{mark_of_word, ShowsCore}
use Rattle.summary_db.proofs.Edges.{at_from_inside, length_takes, nth_take}

get_or_any : (xs : List ℕ) (i a b : ℕ) → i < length xs → get_or xs i a ≡ get_or xs i b
get_or_any [] i a b low = absurd (omega arith)
get_or_any (x ∷ xs) zero a b low = refl
get_or_any (x ∷ xs) (suc i) a b low = get_or_any xs i a b (omega arith)

-- a kept callee has a place in the list of places
edge_place : (rows : List (List ℕ)) (f g : ℕ) → f < length rows → Contains (callees rows f) g → (i : ℕ) × IsPlace rows i (edge f g)
edge_place rows f g low has =
    let many = length_takes rows f low in let inside = has.1 in
    let t = at_from_inside (takes_of rows f) has.0 (omega arith) in
    let same : get_or (callees rows f) has.0 0 ≡ g = get_or_any (callees rows f) has.0 0 g has.1 ∙ has.2 in
    (t.0, subst (λ (h : ℕ). IsPlace rows t.0 (edge f h)) same (nth_take rows f has.0 t.0 low t.1))

caller_inside : (rows : List (List ℕ)) (f g : ℕ) → Contains (callees rows f) g → f < length rows
caller_inside rows f g has =
    ⊎_elim
    (λ inside. inside)
    (λ past. let none = subst (λ l. Contains l g) (get_or_past rows f [] past) has in let low = none.1 in absurd (omega arith))
    (cases_lt f (length rows))

held_from : (st : Stage) → is_held st ≡ true → st ≡ Held
held_from Free is = absurd (false≢true is)
held_from Held is = refl
held_from Lost is = absurd (false≢true is)
held_from Done is = absurd (false≢true is)

lost_from : (st : Stage) → is_lost st ≡ true → st ≡ Lost
lost_from Free is = absurd (false≢true is)
lost_from Held is = absurd (false≢true is)
lost_from Lost is = refl
lost_from Done is = absurd (false≢true is)

done_from : (st : Stage) → is_done st ≡ true → st ≡ Done
done_from Free is = absurd (false≢true is)
done_from Held is = absurd (false≢true is)
done_from Lost is = absurd (false≢true is)
done_from Done is = refl

module _ {S T : Type 0} (rows : List (List ℕ)) (empty : S) (good : ℕ → S → Type 0) (s : State S (Knows T)) (r : IsRuled rows empty good s) where
  -- a function that is not free is one of the plan's, and its word is what its stage says
  word_at : (f : ℕ) (st : Stage) → r.stage f ≡ st → st ≢ Free → get_or s.words f 0 ≡ word_of st
  word_at f st is busy =
      ⊎_elim
      (λ low. r.shown f low ∙ ap word_of is)
      (λ past. absurd (busy (sym is ∙ r.outside f past)))
      (cases_lt f (length rows))

  owned : (test : Stage → Bool) (st : Stage) → ((x : Stage) → test x ≡ true → x ≡ st) → st ≢ Free
      → (seat f : ℕ) (has : Bool) → has ≡ is_with test r.stage r.owner seat f → has ≡ true → (get_or s.words f 0 ≡ word_of st) × (r.owner f ≡ seat)
  owned test st from busy seat f has is yes' =
      let parts = and_parts (test (r.stage f)) (eqb (r.owner f) seat) (sym is ∙ yes') in
      (word_at f st (from (r.stage f) parts.0) busy, eqb-true (r.owner f) seat parts.1)

  pub shows_core : IsPlan rows → ShowsCore rows s
  shows_core plan =
      record {
        owner = r.owner;
        sound =
            λ f g busy has.
            let low = caller_inside rows f g has in
            let place = edge_place rows f g low has in
            let done : r.stage g ≡ Done =
            r.sound place.0 (edge f g) place.1
            (λ free.
            true≢false (sym (ap (λ (x : ℕ). is_free (mark_of_word x (r.owner f))) (r.shown f low ∙ ap word_of free)) ∙ busy)) in
            ap (λ (x : ℕ). is_published (mark_of_word x (r.owner g))) (r.shown g (plan.inside f g has) ∙ ap word_of done);
        claims = λ seat v f at has. owned is_held Held held_from (λ e. cc) seat f (member f v.claims) ((r.fits seat v at).claims f) has;
        gone = λ seat v f at has. owned is_lost Lost lost_from (λ e. cc) seat f (member f v.gone) ((r.fits seat v at).gone f) has;
        done = λ seat v f at has. owned is_done Done done_from (λ e. cc) seat f (member f v.done) ((r.fits seat v at).done f) has;
        seen = λ seat v f at has. word_at f Done ((r.fits seat v at).seen f has) (λ e. cc);
      }
