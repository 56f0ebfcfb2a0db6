-- Each kind of step keeps the rule.
use Rattle.std.proofs.Common.{◌≡◌, ◌≢◌, ℕ, zero, suc, ◌+◌, ◌<◌, ◌≤◌, ◌^◌, Bool, true, false, cond, ◌&&◌, ◌||◌, eqb, List, [], ◌∷◌, ◌++◌, length, map, get_or, set, refl, sym, ap, ◌∙◌, subst, ⊎_elim, ◌⊎◌, inl, inr, arith, eq-eqb, ne_eqb, length-set, length-append, replicate, get_or-set_same, get_or-set_other}
use mathlib.Core.Option.{Option, some, none, some-injective, some-ne-none}
use lib.ListN.{get_elem?}
use Rattle.std.proofs.Common.{Option as Option', Some, None, Global}
use Rattle.std.specs.declared.sync.Arc.{Arc}
use Rattle.summary_db.specs.Told.{IsOutput}
use Rattle.summary_db.specs.Told as Told
use lib.Seq.{set-get_or}
use prog.Atomic.{either}
use Rattle.std.proofs.lemmas.Bool.{cases_eq, cases_lt, cases_Bool, cond_both, or_left, or_right, or_cases, and_left, and_right, and_parts, eqb-true, false≢true, true≢false}
use Rattle.atomic_table.specs.Table.{State, Me, Step, step, Act, keeps, stepped, Allows, Splits, Joins, opening, carried_after, homes_after}
use Rattle.atomic_table.proofs.Lists.{at_set, set_here, exchanged, at_snoc}
use Rattle.plan_core.specs.Graph.{callees}
use Rattle.summary_db.specs.declared.knows.Knows.{Knows}
use Rattle.summary_db.specs.declared.place.Place.{Place}
use Rattle.summary_db.specs.Views.{member, without, looked, took, put, left, heard, fresh, both}
use Rattle.std.proofs.lemmas.List.{get_or-replicate, length-replicate, length-map}
use Rattle.summary_db.specs.Places.{edge, IsPlace, IsLaidOut, Holds, Given, Fills, slots_of, places_of}
use Rattle.summary_db.specs.Rule.{Stage, Free, Held, Lost, Done, word_of, is_held, is_lost, is_done, Content, content, Has, is_with, Fits, IsRuled}
use Rattle.summary_db.proofs.Sets.{upd, upd_at, upd_else, upd_here, upd_all, keeps_set, adds_set, drops_set, member_append}
use Rattle.summary_db.proofs.Numbers.{Distinct}
use Rattle.summary_db.proofs.Edges.{no_loop, giver_inside, callee_from_place, slot_place, slot_from_taker, slot_from_giver, not_slot, slots_distinct, slot_inside, inside_from_get}
use Rattle.summary_db.proofs.Acts.{IsTaken, take_all, IsGiven, give_all}

-- stages are told apart by the tests
pub free_from_word : (st : Stage) → word_of st ≡ 0 → st ≡ Free
free_from_word Free e = refl
free_from_word Held e = absurd (omega arith)
free_from_word Lost e = absurd (omega arith)
free_from_word Done e = absurd (omega arith)

pub done_from_word : (st : Stage) → word_of st ≡ 2 → st ≡ Done
done_from_word Free e = absurd (omega arith)
done_from_word Held e = absurd (omega arith)
done_from_word Lost e = absurd (omega arith)
done_from_word Done e = refl

held_from_test : (st : Stage) → is_held st ≡ true → st ≡ Held
held_from_test Free e = absurd (false≢true e)
held_from_test Held e = refl
held_from_test Lost e = absurd (false≢true e)
held_from_test Done e = absurd (false≢true e)

abbrev is_free : Stage → Bool
is_free Free = true
is_free Held = false
is_free Lost = false
is_free Done = false

pub held_not_free : Held ≢ Free
held_not_free e = true≢false (ap is_held e)

pub free_not_done : Free ≢ Done
free_not_done e = true≢false (ap is_free e)

pub held_not_done : Held ≢ Done
held_not_done e = true≢false (ap is_held e)

pub lost_not_free : Lost ≢ Free
lost_not_free e = true≢false (ap is_lost e)

pub done_not_free : Done ≢ Free
done_not_free e = true≢false (ap is_done e)

pub done_not_lost : Done ≢ Lost
done_not_lost e = true≢false (ap is_done e)

pub held_not_lost : Held ≢ Lost
held_not_lost e = true≢false (ap is_held e)

zero_word : (n f : ℕ) → f < n → get_or {A = ℕ} (replicate n 0) f 0 ≡ 0
zero_word n f low = get_or-replicate n f 0 0 low

zero_not_one : (x : ℕ) → x ≡ 0 → x ≡ 1 → ⊥
zero_not_one x a b = omega arith

pub word_small : (st : Stage) → word_of st < 3
word_small Free = omega arith
word_small Held = omega arith
word_small Lost = omega arith
word_small Done = omega arith

cases_free : (st : Stage) → (st ≡ Free) ⊎ (st ≢ Free)
cases_free Free = inl refl
cases_free Held = inr held_not_free
cases_free Lost = inr lost_not_free
cases_free Done = inr done_not_free

module _ {S : Type 0} (T : Type 0) (rows : List (List ℕ)) (empty : S) (good : ℕ → S → Type 0) where
  abbrev St : Type 0
  St = State S (Knows T)

  abbrev M : Type 0
  M = Me S (Knows T)

  abbrev Rule : St → Type 0
  Rule = IsRuled {S = S} {T = T} rows empty good

  abbrev Lies : Stage → Stage → ℕ → Option (Option S) → Type 0
  Lies giver taker g home = Has empty (good g) (content giver taker) home

  lies_at : (a b a' b' : Stage) (g : ℕ) (home : Option (Option S)) → a' ≡ a → b' ≡ b → Lies a b g home → Lies a' b' g home
  lies_at a b a' b' g home ea eb lies = subst (λ (x : Stage × Stage). Lies x.0 x.1 g home) (λ i. (sym ea i, sym eb i)) lies

  -- the facts that tell what f was, to another seat and to the places
  pub record IsMoved (s : St) (r : Rule s) (f : ℕ) (st : Stage) (id : ℕ) (words : List ℕ) (homes : List (Option S)) (v : Knows T) : Type 0 where
    pub inside : f < length rows
    pub seat : id < length s.views
    pub was : r.stage f ≢ Done
    pub began : st ≢ Free
    pub not_lost : r.stage f ≢ Lost
    pub quiet : (r.stage f ≡ Free) ⊎ (r.owner f ≡ id)
    pub callees_done : (i : ℕ) (p : Place) → IsPlace rows i p → p.taker ≡ f → r.stage p.giver ≡ Done
    pub many : length words ≡ length rows + 1
    pub shown : (g : ℕ) → g < length rows → get_or words g 0 ≡ word_of (upd r.stage f st g)
    pub stop_low : get_or words (length rows) 0 < 2
    pub stop_kept : get_or s.words (length rows) 0 ≡ 1 → get_or words (length rows) 0 ≡ 1
    pub stop_cause : get_or words (length rows) 0 ≡ 1 → (g : ℕ) × (upd r.stage f st g ≡ Lost)
    pub stop_here : st ≡ Lost → get_or words (length rows) 0 ≡ 1
    pub room : length homes ≡ length (places_of rows)
    pub others : (i : ℕ) → member i (slots_of rows f) ≡ false → get_elem? homes i ≡ get_elem? s.homes i
    pub giver : (i : ℕ) (p : Place) → IsPlace rows i p → p.giver ≡ f → r.stage p.taker ≡ Free → Lies st Free f (get_elem? homes i)
    pub taker : (i : ℕ) (p : Place) → IsPlace rows i p → p.taker ≡ f → Lies Done st p.giver (get_elem? homes i)
    pub mine : Fits (upd r.stage f st) (upd r.owner f id) (get_or words (length rows) 0) id v

  other_with : (test : Stage → Bool) → test Free ≡ false → (stage : ℕ → Stage) (owner : ℕ → ℕ) (f id seat : ℕ) → seat ≢ id
      → (stage f ≡ Free) ⊎ (owner f ≡ id) → is_with test stage owner seat f ≡ false
  other_with test not_free stage owner f id seat apart quiet =
      ⊎_elim
      (λ free. and_left (test (stage f)) (eqb (owner f) seat) (ap test free ∙ not_free))
      (λ mine. and_right (test (stage f)) (eqb (owner f) seat) (ne_eqb (owner f) seat (λ e. apart (sym e ∙ mine))))
      quiet

  other_fits : (stage : ℕ → Stage) (owner : ℕ → ℕ) (f : ℕ) (st : Stage) (id seat stop stop' : ℕ) (v : Knows T) → seat ≢ id
      → (stage f ≡ Free) ⊎ (owner f ≡ id) → stage f ≢ Done → (stop ≡ 1 → stop' ≡ 1) → Fits stage owner stop seat v
      → Fits (upd stage f st) (upd owner f id) stop' seat v
  other_fits stage owner f st id seat stop stop' v apart quiet was kept fits =
      let now : (test : Stage → Bool) → (test st && eqb id seat) ≡ false = λ test. and_right (test st) (eqb id seat) (ne_eqb id seat (λ e. apart (sym e))) in
      record {
        claims = keeps_set is_held stage owner f st id seat v.claims fits.claims (other_with is_held refl stage owner f id seat apart quiet) (now is_held);
        gone = keeps_set is_lost stage owner f st id seat v.gone fits.gone (other_with is_lost refl stage owner f id seat apart quiet) (now is_lost);
        done = keeps_set is_done stage owner f st id seat v.done fits.done (other_with is_done refl stage owner f id seat apart quiet) (now is_done);
        seen = λ g has. let d = fits.seen g has in upd_else stage f st g (λ e. was (ap stage (sym e) ∙ d)) ∙ d;
        stopped = λ t. kept (fits.stopped t);
      }

  moved : (s : St) (r : Rule s) (laid : IsLaidOut rows) (f : ℕ) (st : Stage) (id : ℕ) (words : List ℕ) (homes : List (Option S)) (v : Knows T)
      → IsMoved s r f st id words homes v → Rule record { words = words; homes = homes; views = set s.views id v }
  moved s r laid f st id words homes v m =
      let giver_free : (i : ℕ) (p : Place) → IsPlace rows i p → p.giver ≡ f → r.stage p.taker ≡ Free =
      (λ i p at same. ⊎_elim (λ free. free) (λ begun. absurd (m.was (ap r.stage (sym same) ∙ r.sound i p at begun))) (cases_free (r.stage p.taker))) in
      let apart : (i : ℕ) (p : Place) → IsPlace rows i p → p.taker ≢ p.giver = no_loop rows laid in
      record {
        stage = upd r.stage f st;
        owner = upd r.owner f id;
        many = m.many;
        shown = m.shown;
        outside = λ g past. let i = m.inside in upd_else r.stage f st g (λ e. omega arith) ∙ r.outside g past;
        seated =
            λ g begun. let n = length-set s.views id v in let low = m.seat in ⊎_elim
            (λ same. subst (λ (k : ℕ). k < length (set s.views id v)) (sym (upd_at r.owner f id g same)) (omega arith))
            (λ other. subst (λ (k : ℕ). k < length (set s.views id v)) (sym (upd_else r.owner f id g other))
            (let k = r.seated g (λ free. begun (upd_else r.stage f st g other ∙ free)) in omega arith))
            (cases_eq g f);
        sound =
            λ i p at begun. ⊎_elim
            (λ same. absurd (begun (upd_else r.stage f st p.taker (λ e. apart i p at (e ∙ sym same)) ∙ giver_free i p at same)))
            (λ other. upd_else r.stage f st p.giver other
            ∙ ⊎_elim (λ same. m.callees_done i p at same)
            (λ else. r.sound i p at (λ free. begun (upd_else r.stage f st p.taker else ∙ free)))
            (cases_eq p.taker f))
            (cases_eq p.giver f);
        stop_low = m.stop_low;
        stop_cause = m.stop_cause;
        stop_set =
            λ g lost. ⊎_elim
            (λ same. m.stop_here (sym (upd_at r.stage f st g same) ∙ lost))
            (λ other. m.stop_kept (r.stop_set g (sym (upd_else r.stage f st g other) ∙ lost)))
            (cases_eq g f);
        room = m.room;
        filled =
            λ i p at. ⊎_elim
            (λ same.
            subst (λ (g : ℕ). Lies (upd r.stage f st p.giver) (upd r.stage f st p.taker) g (get_elem? homes i)) (sym same)
            (lies_at st Free (upd r.stage f st p.giver) (upd r.stage f st p.taker) f (get_elem? homes i) (upd_at r.stage f st p.giver same)
            (upd_else r.stage f st p.taker (λ e. apart i p at (e ∙ sym same)) ∙ giver_free i p at same) (m.giver i p at same (giver_free i p at same))))
            (λ other. ⊎_elim
            (λ same.
            lies_at Done st (upd r.stage f st p.giver) (upd r.stage f st p.taker) p.giver (get_elem? homes i)
            (upd_else r.stage f st p.giver other ∙ m.callees_done i p at same) (upd_at r.stage f st p.taker same) (m.taker i p at same))
            (λ else.
            lies_at (r.stage p.giver) (r.stage p.taker) (upd r.stage f st p.giver) (upd r.stage f st p.taker) p.giver (get_elem? homes i)
            (upd_else r.stage f st p.giver other) (upd_else r.stage f st p.taker else)
            (subst (Lies (r.stage p.giver) (r.stage p.taker) p.giver) (sym (m.others i (not_slot rows f i p at else other))) (r.filled i p at)))
            (cases_eq p.taker f))
            (cases_eq p.giver f);
        fits =
            λ seat w at. ⊎_elim
            (λ t. subst (λ (x : ℕ × Knows T). Fits (upd r.stage f st) (upd r.owner f id) (get_or words (length rows) 0) x.0 x.1) (λ i. (sym t.0 i, t.1 i)) m.mine)
            (λ t. other_fits r.stage r.owner f st id seat (get_or s.words (length rows) 0) (get_or words (length rows) 0) w t.0 m.quiet m.was m.stop_kept (r.fits seat w t.1))
            (at_set s.views id seat v w at);
      }

  -- a step that changes nothing but the view of its seat
  viewed : (s : St) (r : Rule s) (id : ℕ) (v : Knows T) → Fits r.stage r.owner (get_or s.words (length rows) 0) id v
      → Rule record { words = s.words; homes = s.homes; views = set s.views id v }
  viewed s r id v mine =
      record {
        stage = r.stage;
        owner = r.owner;
        many = r.many;
        shown = r.shown;
        outside = r.outside;
        seated = λ g begun. let n = length-set s.views id v in let k = r.seated g begun in omega arith;
        sound = r.sound;
        stop_low = r.stop_low;
        stop_cause = r.stop_cause;
        stop_set = r.stop_set;
        room = r.room;
        filled = r.filled;
        fits =
            λ seat w at. ⊎_elim
            (λ t. subst (λ (x : ℕ × Knows T). Fits r.stage r.owner (get_or s.words (length rows) 0) x.0 x.1) (λ i. (sym t.0 i, t.1 i)) mine)
            (λ t. r.fits seat w t.1)
            (at_set s.views id seat v w at);
      }

  same_words : (s : St) (i : ℕ) → set s.words i (get_or s.words i 0) ≡ s.words
  same_words s i = set-get_or s.words i 0

  looked_fits : (s : St) (r : Rule s) (id f : ℕ) (v : Knows T) → f < length rows → get_elem? s.views id ≡ some v
      → Fits r.stage r.owner (get_or s.words (length rows) 0) id (looked f (get_or s.words f 0) v)
  looked_fits s r id f v inside at =
      let fits = r.fits id v at in
      record {
        claims = fits.claims;
        gone = fits.gone;
        done = fits.done;
        seen =
            cond_both (eqb (get_or s.words f 0) 2) (f ∷ v.seen) v.seen (λ l. (g : ℕ) → member g l ≡ true → r.stage g ≡ Done)
            (λ two g has. ⊎_elim
            (λ same. ap r.stage (eqb-true g f same) ∙ done_from_word (r.stage f) (sym (r.shown f inside) ∙ eqb-true (get_or s.words f 0) 2 two))
            (fits.seen g)
            (or_cases (eqb g f) (member g v.seen) has))
            (λ _. fits.seen);
        stopped = fits.stopped;
      }

  heard_fits : (s : St) (r : Rule s) (id : ℕ) (v : Knows T) → get_elem? s.views id ≡ some v
      → Fits r.stage r.owner (get_or s.words (length rows) 0) id (heard (length rows) (get_or s.words (length rows) 0) v)
  heard_fits s r id v at =
      let fits = r.fits id v at in
      record {
        claims = fits.claims;
        gone = fits.gone;
        done = fits.done;
        seen = fits.seen;
        stopped =
            λ t. ⊎_elim fits.stopped (eqb-true (get_or s.words (length rows) 0) 1)
            (or_cases v.stopped (eqb (get_or s.words (length rows) 0) 1) t);
      }

  word_low : (s : St) (r : Rule s) (f : ℕ) → f < length rows → get_or s.words f 0 < 3
  word_low s r f inside = subst (λ (x : ℕ). x < 3) (sym (r.shown f inside)) (word_small (r.stage f))

  pub look_allowed : (slots id : ℕ) (me : M) (f : ℕ) → f < length rows
      → Allows {S = S} {V = Knows T} Rule slots id me f (λ n. n) (λ x after. (after ≡ (looked f x me.0, me.1)) × (x < 3))
  look_allowed slots id me f inside s r len at fits = (
    looked f (get_or s.words f 0) me.0,
    keeps,
    tt,
    subst (λ ws. Rule record { words = ws; homes = s.homes; views = set s.views id (looked f (get_or s.words f 0) me.0) }) (sym (same_words s f)) (viewed s r id (looked f (get_or s.words f 0) me.0) (looked_fits s r id f me.0 inside at)),
    (refl, word_low s r f inside),
  )

  pub hear_allowed : (slots id : ℕ) (me : M)
      → Allows {S = S} {V = Knows T} Rule slots id me (length rows) (λ n. n) (λ x after. (after ≡ (heard (length rows) x me.0, me.1)) × (x < 2))
  hear_allowed slots id me s r len at fits = (
    heard (length rows) (get_or s.words (length rows) 0) me.0,
    keeps,
    tt,
    subst (λ ws. Rule record { words = ws; homes = s.homes; views = set s.views id (heard (length rows) (get_or s.words (length rows) 0) me.0) }) (sym (same_words s (length rows))) (viewed s r id (heard (length rows) (get_or s.words (length rows) 0) me.0) (heard_fits s r id me.0 at)),
    (refl, r.stop_low),
  )

  pub hear_allowed_at : (slots id : ℕ) (me : M) (k : ℕ) → length rows ≡ k
      → Allows {S = S} {V = Knows T} Rule slots id me k (λ n. n) (λ x after. (after ≡ (heard k x me.0, me.1)) × (x < 2))
  hear_allowed_at slots id me k is =
      subst (λ (j : ℕ). Allows {S = S} {V = Knows T} Rule slots id me j (λ n. n) (λ x after. (after ≡ (heard j x me.0, me.1)) × (x < 2))) is (hear_allowed slots id me)

  shown_set : (s : St) (r : Rule s) (f : ℕ) (st : Stage) (x : ℕ) → f < length rows → x ≡ word_of st → (g : ℕ) → g < length rows
      → get_or (set s.words f x) g 0 ≡ word_of (upd r.stage f st g)
  shown_set s r f st x inside is g low =
      let many = r.many in
      ⊎_elim
      (λ same. ap (λ (k : ℕ). get_or (set s.words f x) k 0) same ∙ (get_or-set_same s.words f x 0 (omega arith) ∙ (is ∙ sym (ap word_of (upd_at r.stage f st g same)))))
      (λ other. get_or-set_other s.words f g x 0 other ∙ (r.shown g low ∙ sym (ap word_of (upd_else r.stage f st g other))))
      (cases_eq g f)

  stop_same : (s : St) (f x : ℕ) → f < length rows → get_or (set s.words f x) (length rows) 0 ≡ get_or s.words (length rows) 0
  stop_same s f x inside = get_or-set_other s.words f (length rows) x 0 (λ e. omega arith)

  cause_kept : (s : St) (r : Rule s) (f : ℕ) (st : Stage) (stop : ℕ) → r.stage f ≢ Lost → stop ≡ get_or s.words (length rows) 0 → stop ≡ 1
      → (g : ℕ) × (upd r.stage f st g ≡ Lost)
  cause_kept s r f st stop not_lost same one =
      let c = r.stop_cause (sym same ∙ one) in
      (c.0, upd_else r.stage f st c.0 (λ e. not_lost (ap r.stage (sym e) ∙ c.1)) ∙ c.1)

  -- what an exchange from 0 to 1 tells
  abbrev pub Claims : ℕ → ℕ → M → M → Type 0
  Claims f x me after =
      (x ≡ 0 → (held : List (ℕ × S)) × Holds (Given rows good f) (slots_of rows f) held × (after ≡ (took f me.0, held ++ me.1)))
      × (x ≢ 0 → (after ≡ (looked f x me.0, me.1)) × (x < 3))

  free_home : (s : St) (r : Rule s) (laid : IsLaidOut rows) (f : ℕ) → r.stage f ≡ Free
      → ((i : ℕ) (p : Place) → IsPlace rows i p → p.taker ≡ f → r.stage p.giver ≡ Done)
      → (k : ℕ) → member k (slots_of rows f) ≡ true → (y : S) × (get_elem? s.homes k ≡ some (some y)) × Given rows good f k y
  free_home s r laid f free callees_done k has =
      let t = slot_place rows f k has in
      let p : Place = t.0 in
      let home = r.filled k p t.1 in
      ⊎_elim
      (λ taker.
      let full : Lies Done Free p.giver (get_elem? s.homes k) =
      lies_at (r.stage p.giver) (r.stage p.taker) Done Free p.giver (get_elem? s.homes k) (sym (callees_done k p t.1 taker)) (sym (ap r.stage taker ∙ free)) home in
      (full.0, full.1, λ q at _. subst (λ (z : Place). good z.giver full.0) (some-injective p q (sym t.1 ∙ at)) full.2))
      (λ giver.
      let none_yet : Lies Free (r.stage p.taker) p.giver (get_elem? s.homes k) =
      lies_at (r.stage p.giver) (r.stage p.taker) Free (r.stage p.taker) p.giver (get_elem? s.homes k) (sym (ap r.stage giver ∙ free)) refl home in
      (empty, none_yet, λ q at taker. absurd (no_loop rows laid k q at (taker ∙ sym (ap (λ (z : Place). z.giver) (some-injective q p (sym at ∙ t.1)) ∙ giver)))))
      t.2

  claim_moved : (s : St) (r : Rule s) (laid : IsLaidOut rows) (id : ℕ) (me : M) (f : ℕ) → f < length rows → r.stage f ≡ Free
      → get_elem? s.views id ≡ some me.0
      → (done : (i : ℕ) (p : Place) → IsPlace rows i p → p.taker ≡ f → r.stage p.giver ≡ Done)
      → (taken : IsTaken (Given rows good f) (slots_of rows f) s.homes me.1)
      → IsMoved s r f Held id (set s.words f 1) (homes_after s.homes me.1 taken.act) (took f me.0)
  claim_moved s r laid id me f inside free at done taken =
      let fits = r.fits id me.0 at in
      let words' : List ℕ = set s.words f 1 in
      let not_lost : r.stage f ≢ Lost = λ e. lost_not_free (sym e ∙ free) in
      let none_with : (test : Stage → Bool) → test Free ≡ false → is_with test r.stage r.owner id f ≡ false = λ test not_free. and_left (test (r.stage f)) (eqb (r.owner f) id) (ap test free ∙ not_free) in
      record {
        inside = inside;
        seat = inside_from_get s.views id me.0 at;
        was = λ e. free_not_done (sym free ∙ e);
        began = held_not_free;
        not_lost = not_lost;
        quiet = inl free;
        callees_done = done;
        many = length-set s.words f 1 ∙ r.many;
        shown = shown_set s r f Held 1 inside refl;
        stop_low = let low = r.stop_low in let same = stop_same s f 1 inside in omega arith;
        stop_kept = λ e. stop_same s f 1 inside ∙ e;
        stop_cause = cause_kept s r f Held (get_or words' (length rows) 0) not_lost (stop_same s f 1 inside);
        stop_here = λ e. absurd (held_not_lost e);
        room = taken.as_many ∙ r.room;
        others = taken.others;
        giver = λ i p is same _. taken.out i (slot_from_giver rows f i p is same);
        taker = λ i p is same. taken.out i (slot_from_taker rows f i p is same);
        mine =
            record {
              claims = adds_set is_held r.stage r.owner f Held id id me.0.claims fits.claims (eq-eqb id id refl);
              gone = keeps_set is_lost r.stage r.owner f Held id id me.0.gone fits.gone (none_with is_lost refl) refl;
              done = keeps_set is_done r.stage r.owner f Held id id me.0.done fits.done (none_with is_done refl) refl;
              seen = λ g has. let d = fits.seen g has in upd_else r.stage f Held g (λ e. free_not_done (sym free ∙ (ap r.stage (sym e) ∙ d))) ∙ d;
              stopped = λ t. stop_same s f 1 inside ∙ fits.stopped t;
            };
      }

  pub claim_allowed : IsLaidOut rows → (slots id : ℕ) (me : M) (f : ℕ) → f < length rows
      → ((g : ℕ) → member g (callees rows f) ≡ true → member g me.0.seen ≡ true)
      → Allows {S = S} {V = Knows T} Rule slots id me f (λ n. either (eqb n 0) 1 n) (λ x after. Claims f x me after)
  claim_allowed laid slots id me f inside saw s r len at small =
      exchanged (get_or s.words f 0) 0 1 (λ m. (w : Knows T) × (a : Act S) × Rattle.atomic_table.specs.Table.Valid s.homes me.1 a × Rule (stepped s f m id me.1 w a) × Claims f (get_or s.words f 0) me (w, carried_after me.1 a))
      (λ zero'.
      let free : r.stage f ≡ Free = free_from_word (r.stage f) (sym (r.shown f inside) ∙ zero') in
      let fits = r.fits id me.0 at in
      let done : (i : ℕ) (p : Place) → IsPlace rows i p → p.taker ≡ f → r.stage p.giver ≡ Done = λ i p is same. fits.seen p.giver (saw p.giver (callee_from_place rows i p f inside is same)) in
      let taken : IsTaken (Given rows good f) (slots_of rows f) s.homes me.1 = take_all (Given rows good f) (slots_of rows f) s.homes me.1 (slots_distinct rows laid f) (free_home s r laid f free done) in (
        took f me.0,
        taken.act,
        taken.valid,
        moved s r laid f Held id (set s.words f 1) (homes_after s.homes me.1 taken.act) (took f me.0) (claim_moved s r laid id me f inside free at done taken),
        ((λ _. (taken.held, taken.holds, ap (λ l. (took f me.0, l)) taken.carried)), λ other. absurd (other zero')),
      ))
      (λ other. (
        looked f (get_or s.words f 0) me.0,
        keeps,
        tt,
        subst (λ ws. Rule record { words = ws; homes = s.homes; views = set s.views id (looked f (get_or s.words f 0) me.0) }) (sym (same_words s f)) (viewed s r id (looked f (get_or s.words f 0) me.0) (looked_fits s r id f me.0 inside at)),
        ((λ zero'. absurd (other zero')), λ _. (refl, word_low s r f inside)),
      ))

  -- what a claim of this seat says of the function
  record IsMine (s : St) (r : Rule s) (id f : ℕ) : Type 0 where
    pub held : r.stage f ≡ Held
    pub owned : r.owner f ≡ id
    pub inside : f < length rows
    pub callees_done : (i : ℕ) (p : Place) → IsPlace rows i p → p.taker ≡ f → r.stage p.giver ≡ Done

  mine_from_claim : (s : St) (r : Rule s) (id : ℕ) (v : Knows T) (f : ℕ) → get_elem? s.views id ≡ some v → member f v.claims ≡ true → IsMine s r id f
  mine_from_claim s r id v f at has =
      let fits = r.fits id v at in
      let t = and_parts (is_held (r.stage f)) (eqb (r.owner f) id) (sym (fits.claims f) ∙ has) in
      let held = held_from_test (r.stage f) t.0 in
      record {
        held = held;
        owned = eqb-true (r.owner f) id t.1;
        inside = ⊎_elim (λ low. low) (λ past. absurd (held_not_free (sym held ∙ r.outside f past))) (cases_lt f (length rows));
        callees_done = λ i p is same. r.sound i p is (λ free. held_not_free (sym held ∙ (ap r.stage (sym same) ∙ free)));
      }

  put_moved : (s : St) (r : Rule s) (laid : IsLaidOut rows) (id : ℕ) (me : M) (f : ℕ) → (m : IsMine s r id f)
      → get_elem? s.views id ≡ some me.0
      → (given : IsGiven (Fills rows good f) (slots_of rows f) s.homes me.1)
      → IsMoved s r f Done id (set s.words f 2) (homes_after s.homes me.1 given.act) (put f me.0)
  put_moved s r laid id me f m at given =
      let fits = r.fits id me.0 at in
      let words' : List ℕ = set s.words f 2 in
      let not_lost : r.stage f ≢ Lost = λ e. held_not_lost (sym m.held ∙ e) in
      record {
        inside = m.inside;
        seat = inside_from_get s.views id me.0 at;
        was = λ e. held_not_done (sym m.held ∙ e);
        began = done_not_free;
        not_lost = not_lost;
        quiet = inr m.owned;
        callees_done = m.callees_done;
        many = length-set s.words f 2 ∙ r.many;
        shown = shown_set s r f Done 2 m.inside refl;
        stop_low = let low = r.stop_low in let same = stop_same s f 2 m.inside in omega arith;
        stop_kept = λ e. stop_same s f 2 m.inside ∙ e;
        stop_cause = cause_kept s r f Done (get_or words' (length rows) 0) not_lost (stop_same s f 2 m.inside);
        stop_here = λ e. absurd (done_not_lost e);
        room = given.as_many ∙ r.room;
        others = given.others;
        giver = λ i p is same _. let h = given.home i (slot_from_giver rows f i p is same) in (h.0, h.1, h.2 p is same);
        taker = λ i p is same. let h = given.home i (slot_from_taker rows f i p is same) in (h.0, h.1);
        mine =
            record {
              claims = drops_set is_held r.stage r.owner f Done id id me.0.claims fits.claims refl;
              gone = keeps_set is_lost r.stage r.owner f Done id id me.0.gone fits.gone (and_left (is_lost (r.stage f)) (eqb (r.owner f) id) (ap is_lost m.held)) refl;
              done = adds_set is_done r.stage r.owner f Done id id me.0.done fits.done (eq-eqb id id refl);
              seen =
                  λ g has. ⊎_elim
                  (λ same. upd_at r.stage f Done g (eqb-true g f same))
                  (λ rest. let d = fits.seen g rest in upd_else r.stage f Done g (λ e. held_not_done (sym m.held ∙ (ap r.stage (sym e) ∙ d))) ∙ d)
                  (or_cases (eqb g f) (member g me.0.seen) has);
              stopped = λ t. stop_same s f 2 m.inside ∙ fits.stopped t;
            };
      }

  -- what an exchange from 1 to 2 tells
  abbrev pub Puts : ℕ → ℕ → M → M → Type 0
  Puts f x me after = (x ≡ 1) × (after ≡ (put f me.0, []))

  pub put_allowed : IsLaidOut rows → (slots id : ℕ) (me : M) (f : ℕ) → member f me.0.claims ≡ true
      → Holds (Fills rows good f) (slots_of rows f) me.1
      → Allows {S = S} {V = Knows T} Rule slots id me f (λ n. either (eqb n 1) 2 n) (λ x after. Puts f x me after)
  put_allowed laid slots id me f has full s r len at small =
      let m = mine_from_claim s r id me.0 f at has in
      let one : get_or s.words f 0 ≡ 1 = r.shown f m.inside ∙ ap word_of m.held in
      exchanged (get_or s.words f 0) 1 2 (λ x. (w : Knows T) × (a : Act S) × Rattle.atomic_table.specs.Table.Valid s.homes me.1 a × Rule (stepped s f x id me.1 w a) × Puts f (get_or s.words f 0) me (w, carried_after me.1 a))
      (λ _.
      let given : IsGiven (Fills rows good f) (slots_of rows f) s.homes me.1 = give_all (Fills rows good f) (slots_of rows f) s.homes me.1 full (slots_distinct rows laid f) (λ k in'. let low = slot_inside rows f k in' in let room = r.room in omega arith) in (
        put f me.0,
        given.act,
        given.valid,
        moved s r laid f Done id (set s.words f 2) (homes_after s.homes me.1 given.act) (put f me.0) (put_moved s r laid id me f m at given),
        (one, ap (λ l. (put f me.0, l)) given.carried),
      ))
      (λ other. absurd (other one))

  leave_moved : (s : St) (r : Rule s) (laid : IsLaidOut rows) (id : ℕ) (me : M) (f : ℕ) → (m : IsMine s r id f)
      → get_elem? s.views id ≡ some me.0
      → (given : IsGiven (λ i y. y ≡ empty) (slots_of rows f) s.homes me.1)
      → IsMoved s r f Lost id (set s.words (length rows) 1) (homes_after s.homes me.1 given.act) (left f me.0)
  leave_moved s r laid id me f m at given =
      let fits = r.fits id me.0 at in
      let n : ℕ = length rows in
      let many = r.many in
      let inside = m.inside in
      let now : get_or (set s.words n 1) n 0 ≡ 1 = get_or-set_same s.words n 1 0 (omega arith) in
      let home : (i : ℕ) → member i (slots_of rows f) ≡ true → get_elem? (homes_after s.homes me.1 given.act) i ≡ some (some empty) =
      λ i has. let h = given.home i has in h.1 ∙ ap (λ (y : S). some (some y)) h.2 in
      record {
        inside = m.inside;
        seat = inside_from_get s.views id me.0 at;
        was = λ e. held_not_done (sym m.held ∙ e);
        began = lost_not_free;
        not_lost = λ e. held_not_lost (sym m.held ∙ e);
        quiet = inr m.owned;
        callees_done = m.callees_done;
        many = length-set s.words n 1 ∙ r.many;
        shown =
            λ g low. get_or-set_other s.words n g 1 0 (λ e. omega arith) ∙ ⊎_elim
            (λ same. ap (λ (k : ℕ). get_or s.words k 0) same ∙ (r.shown f m.inside ∙ (ap word_of m.held ∙ sym (ap word_of (upd_at r.stage f Lost g same)))))
            (λ other. r.shown g low ∙ sym (ap word_of (upd_else r.stage f Lost g other)))
            (cases_eq g f);
        stop_low = omega arith;
        stop_kept = λ _. now;
        stop_cause = λ _. (f, upd_here r.stage f Lost);
        stop_here = λ _. now;
        room = given.as_many ∙ r.room;
        others = given.others;
        giver = λ i p is same _. home i (slot_from_giver rows f i p is same);
        taker = λ i p is same. home i (slot_from_taker rows f i p is same);
        mine =
            record {
              claims = drops_set is_held r.stage r.owner f Lost id id me.0.claims fits.claims refl;
              gone = adds_set is_lost r.stage r.owner f Lost id id me.0.gone fits.gone (eq-eqb id id refl);
              done = keeps_set is_done r.stage r.owner f Lost id id me.0.done fits.done (and_left (is_done (r.stage f)) (eqb (r.owner f) id) (ap is_done m.held)) refl;
              seen = λ g has. let d = fits.seen g has in upd_else r.stage f Lost g (λ e. held_not_done (sym m.held ∙ (ap r.stage (sym e) ∙ d))) ∙ d;
              stopped = λ _. now;
            };
      }

  pub leave_allowed : IsLaidOut rows → (slots id : ℕ) (me : M) (f : ℕ) → member f me.0.claims ≡ true
      → Holds (λ i y. y ≡ empty) (slots_of rows f) me.1
      → Allows {S = S} {V = Knows T} Rule slots id me (length rows) (λ _. 1) (λ _ after. after ≡ (left f me.0, []))
  leave_allowed laid slots id me f has full s r len at small =
      let m = mine_from_claim s r id me.0 f at has in
      let given : IsGiven (λ i y. y ≡ empty) (slots_of rows f) s.homes me.1 = give_all (λ i y. y ≡ empty) (slots_of rows f) s.homes me.1 full (slots_distinct rows laid f) (λ k in'. let low = slot_inside rows f k in' in let room = r.room in omega arith) in (
        left f me.0,
        given.act,
        given.valid,
        moved s r laid f Lost id (set s.words (length rows) 1) (homes_after s.homes me.1 given.act) (left f me.0) (leave_moved s r laid id me f m at given),
        ap (λ l. (left f me.0, l)) given.carried,
      )

  pub leave_allowed_at : IsLaidOut rows → (slots id : ℕ) (me : M) (f k : ℕ) → length rows ≡ k → member f me.0.claims ≡ true
      → Holds (λ i y. y ≡ empty) (slots_of rows f) me.1
      → Allows {S = S} {V = Knows T} Rule slots id me k (λ _. 1) (λ _ after. after ≡ (left f me.0, []))
  leave_allowed_at laid slots id me f k is has full =
      subst (λ (j : ℕ). Allows {S = S} {V = Knows T} Rule slots id me j (λ _. 1) (λ _ after. after ≡ (left f me.0, []))) is (leave_allowed laid slots id me f has full)

  -- a seat that owns nothing
  none_owned : (test : Stage → Bool) → test Free ≡ false → (stage : ℕ → Stage) (owner : ℕ → ℕ) (seat g : ℕ) → (stage g ≢ Free → owner g ≢ seat)
      → is_with test stage owner seat g ≡ false
  none_owned test not_free stage owner seat g apart =
      ⊎_elim
      (λ free. and_left (test (stage g)) (eqb (owner g) seat) (ap test free ∙ not_free))
      (λ begun. and_right (test (stage g)) (eqb (owner g) seat) (ne_eqb (owner g) seat (apart begun)))
      (cases_free (stage g))

  -- a new seat that has no claim, and has seen no more than the other
  pub record IsNew (v w : Knows T) : Type 0 where
    pub claims : w.claims ≡ []
    pub gone : w.gone ≡ []
    pub done : w.done ≡ []
    pub seen : (g : ℕ) → member g w.seen ≡ true → member g v.seen ≡ true
    pub stopped : w.stopped ≡ false

  at_end : {A : Type 0} (l : List A) (a b : A) (j : ℕ) → get_elem? (l ++ a ∷ []) j ≡ some b → (get_elem? l j ≡ some b) ⊎ ((j ≡ length l) × (a ≡ b))
  at_end [] a b zero e = inr (refl, some-injective a b e)
  at_end [] a b (suc j) e = absurd (some-ne-none b (sym e))
  at_end (x ∷ xs) a b zero e = inl e
  at_end (x ∷ xs) a b (suc j) e = ⊎_elim (λ t. inl t) (λ t. inr (ap suc t.0, t.1)) (at_end xs a b j e)

  new_fits : (s : St) (r : Rule s) (id : ℕ) (v w : Knows T) → get_elem? s.views id ≡ some v → IsNew v w
      → Fits r.stage r.owner (get_or s.words (length rows) 0) (length s.views) w
  new_fits s r id v w at n =
      let apart : (g : ℕ) → r.stage g ≢ Free → r.owner g ≢ length s.views = λ g begun e. let low = r.seated g begun in omega arith in
      record {
        claims = λ g. ap (λ l. member g l) n.claims ∙ sym (none_owned is_held refl r.stage r.owner (length s.views) g (apart g));
        gone = λ g. ap (λ l. member g l) n.gone ∙ sym (none_owned is_lost refl r.stage r.owner (length s.views) g (apart g));
        done = λ g. ap (λ l. member g l) n.done ∙ sym (none_owned is_done refl r.stage r.owner (length s.views) g (apart g));
        seen = λ g has. (r.fits id v at).seen g (n.seen g has);
        stopped = λ t. absurd (false≢true (sym n.stopped ∙ t));
      }

  pub split_allowed : (id : ℕ) (v u w : Knows T) → ((s : St) (r : Rule s) → get_elem? s.views id ≡ some v → Fits r.stage r.owner (get_or s.words (length rows) 0) id u)
      → IsNew v w → Splits {S = S} {V = Knows T} Rule id v u w
  unfolding viewed
  split_allowed id v u w kept n s r at =
      let r' : Rule record { words = s.words; homes = s.homes; views = set s.views id u } = viewed s r id u (kept s r at) in
      let many = length-append (set s.views id u) (w ∷ []) in
      let many' = length-set s.views id u in
      record {
        stage = r.stage;
        owner = r.owner;
        many = r.many;
        shown = r.shown;
        outside = r.outside;
        seated = λ g begun. let k = r.seated g begun in omega arith;
        sound = r.sound;
        stop_low = r.stop_low;
        stop_cause = r.stop_cause;
        stop_set = r.stop_set;
        room = r.room;
        filled = r.filled;
        fits =
            λ seat x is. ⊎_elim
            (λ t. r'.fits seat x t)
            (λ t.
            subst (λ (y : ℕ × Knows T). Fits r.stage r.owner (get_or s.words (length rows) 0) y.0 y.1) (λ i. (sym (t.0 ∙ many') i, t.1 i)) (new_fits s r id v w at n))
            (at_end (set s.views id u) w x seat is);
      }

  -- the view u stands for what v and w stand for
  pub record IsBoth (v w u : Knows T) : Type 0 where
    pub claims : u.claims ≡ v.claims ++ w.claims
    pub gone : u.gone ≡ v.gone ++ w.gone
    pub done : u.done ≡ v.done ++ w.done
    pub seen : u.seen ≡ v.seen ++ w.seen
    pub stopped : u.stopped ≡ (v.stopped || w.stopped)

  -- the owners once the seat `other` was taken in by the seat id
  abbrev sent : ℕ → ℕ → (ℕ → ℕ) → ℕ → ℕ
  sent id other owner g = cond (eqb (owner g) other) id (owner g)

  both_set : (test : Stage → Bool) (stage : ℕ → Stage) (owner : ℕ → ℕ) (id other : ℕ) → other ≢ id → (xs ys zs : List ℕ) → zs ≡ xs ++ ys
      → ((g : ℕ) → member g xs ≡ is_with test stage owner id g) → ((g : ℕ) → member g ys ≡ is_with test stage owner other g)
      → (g : ℕ) → member g zs ≡ is_with test stage (sent id other owner) id g
  both_set test stage owner id other apart xs ys zs is mine theirs g =
      ap (λ l. member g l) is ∙ (member_append g xs ys ∙ ((λ i. mine g i || theirs g i) ∙ joined (test (stage g)) (owner g)))
    where
      joined : (b : Bool) (o : ℕ) → ((b && eqb o id) || (b && eqb o other)) ≡ (b && eqb (cond (eqb o other) id o) id)
      joined false o = refl
      joined true o =
          ⊎_elim
          (λ same. or_right (eqb o id) (eqb o other) (eq-eqb o other same) ∙ sym (eq-eqb (cond (eqb o other) id o) id (Rattle.std.proofs.lemmas.Bool.cond-true (eqb o other) id o (eq-eqb o other same))))
          (λ else. (ap (λ (c : Bool). eqb o id || c) (ne_eqb o other else) ∙ or_false (eqb o id)) ∙ sym (ap (λ (k : ℕ). eqb k id) (Rattle.std.proofs.lemmas.Bool.cond-false (eqb o other) id o (ne_eqb o other else))))
          (cases_eq o other)
        where
          or_false : (b : Bool) → (b || false) ≡ b
          or_false true = refl
          or_false false = refl

  sent_else : (id other : ℕ) (owner : ℕ → ℕ) (seat g : ℕ) → seat ≢ id → seat ≢ other → eqb (sent id other owner g) seat ≡ eqb (owner g) seat
  sent_else id other owner seat g a b =
      ⊎_elim
      (λ same. ap (λ (k : ℕ). eqb k seat) (Rattle.std.proofs.lemmas.Bool.cond-true (eqb (owner g) other) id (owner g) (eq-eqb (owner g) other same))
      ∙ (ne_eqb id seat (λ e. a (sym e)) ∙ sym (ne_eqb (owner g) seat (λ e. b (sym e ∙ same)))))
      (λ else. ap (λ (k : ℕ). eqb k seat) (Rattle.std.proofs.lemmas.Bool.cond-false (eqb (owner g) other) id (owner g) (ne_eqb (owner g) other else)))
      (cases_eq (owner g) other)

  sent_apart : (id other : ℕ) (owner : ℕ → ℕ) (g : ℕ) → other ≢ id → sent id other owner g ≢ other
  sent_apart id other owner g apart =
      cond_both (eqb (owner g) other) id (owner g) (λ k. k ≢ other) (λ _ e. apart (sym e)) (λ else e. true≢false (sym (eq-eqb (owner g) other e) ∙ else))

  -- a spent view stands for nothing
  pub record IsSpent (w : Knows T) : Type 0 where
    pub claims : w.claims ≡ []
    pub gone : w.gone ≡ []
    pub done : w.done ≡ []
    pub seen : w.seen ≡ []
    pub stopped : w.stopped ≡ false

  pub join_allowed : (id other : ℕ) (v w u z : Knows T) → IsBoth v w u → IsSpent z → Joins {S = S} {V = Knows T} Rule id v other w u z
  join_allowed id other v w u z is spent s r at apart at' =
      let at_w : get_elem? s.views other ≡ some w = sym (Rattle.atomic_table.proofs.Lists.set_else s.views id other u apart) ∙ at' in
      let fv = r.fits id v at in
      let fw = r.fits other w at_w in
      let stop : ℕ = get_or s.words (length rows) 0 in
      let owner' : ℕ → ℕ = sent id other r.owner in
      let mine : Fits r.stage owner' stop id u =
      record {
        claims = both_set is_held r.stage r.owner id other apart v.claims w.claims u.claims is.claims fv.claims fw.claims;
        gone = both_set is_lost r.stage r.owner id other apart v.gone w.gone u.gone is.gone fv.gone fw.gone;
        done = both_set is_done r.stage r.owner id other apart v.done w.done u.done is.done fv.done fw.done;
        seen =
            λ g has. ⊎_elim (fv.seen g) (fw.seen g)
            (or_cases (member g v.seen) (member g w.seen) (sym (ap (λ l. member g l) is.seen ∙ member_append g v.seen w.seen) ∙ has));
        stopped = λ t. ⊎_elim fv.stopped fw.stopped (or_cases v.stopped w.stopped (sym is.stopped ∙ t));
      } in
      let theirs : Fits r.stage owner' stop other z =
      record {
        claims = λ g. ap (λ l. member g l) spent.claims ∙ sym (none_owned is_held refl r.stage owner' other g (λ _. sent_apart id other r.owner g apart));
        gone = λ g. ap (λ l. member g l) spent.gone ∙ sym (none_owned is_lost refl r.stage owner' other g (λ _. sent_apart id other r.owner g apart));
        done = λ g. ap (λ l. member g l) spent.done ∙ sym (none_owned is_done refl r.stage owner' other g (λ _. sent_apart id other r.owner g apart));
        seen = λ g has. absurd (false≢true (ap (λ l. member g l) (sym spent.seen) ∙ has));
        stopped = λ t. absurd (false≢true (sym spent.stopped ∙ t));
      } in
      let others : (seat : ℕ) (x : Knows T) → seat ≢ id → seat ≢ other → get_elem? s.views seat ≡ some x → Fits r.stage owner' stop seat x =
      (λ seat x a b is'.
      let f = r.fits seat x is' in
      let same : (test : Stage → Bool) (g : ℕ) → is_with test r.stage r.owner seat g ≡ is_with test r.stage owner' seat g = λ test g. ap (λ (c : Bool). test (r.stage g) && c) (sym (sent_else id other r.owner seat g a b)) in
      record {
        claims = λ g. f.claims g ∙ same is_held g;
        gone = λ g. f.gone g ∙ same is_lost g;
        done = λ g. f.done g ∙ same is_done g;
        seen = f.seen;
        stopped = f.stopped;
      }) in
      record {
        stage = r.stage;
        owner = owner';
        many = r.many;
        shown = r.shown;
        outside = r.outside;
        seated =
            λ g begun.
            let a = length-set (set s.views id u) other z in
            let b = length-set s.views id u in
            let low = inside_from_get s.views id v at in
            let k = r.seated g begun in
            cond_both (eqb (r.owner g) other) id (r.owner g) (λ o. o < length (set (set s.views id u) other z)) (λ _. omega arith) (λ _. omega arith);
        sound = r.sound;
        stop_low = r.stop_low;
        stop_cause = r.stop_cause;
        stop_set = r.stop_set;
        room = r.room;
        filled = r.filled;
        fits =
            λ seat x is'. ⊎_elim
            (λ t. subst (λ (y : ℕ × Knows T). Fits r.stage owner' stop y.0 y.1) (λ i. (sym t.0 i, t.1 i)) theirs)
            (λ t. ⊎_elim
            (λ t'. subst (λ (y : ℕ × Knows T). Fits r.stage owner' stop y.0 y.1) (λ i. (sym t'.0 i, t'.1 i)) mine)
            (λ t'. others seat x t'.0 t.0 t'.1)
            (at_set s.views id seat u x t.1))
            (at_set (set s.views id u) other seat z x is');
      }

  all_home : (n i : ℕ) → i < n → get_elem? (map some (replicate n empty)) i ≡ some (some empty)
  all_home zero i low = absurd (omega arith)
  all_home (suc n) zero low = refl
  all_home (suc n) (suc i) low = all_home n i (omega arith)

  pub opened : (n : ℕ) (v : Knows T) → n ≡ length (places_of rows) → IsSpent v
      → Rule (opening (replicate (length rows + 1) 0) (replicate n empty) v)
  opened n v is spent =
      let none_with : (test : Stage → Bool) → test Free ≡ false → (seat g : ℕ) → is_with test (λ _. Free) (λ _. 0) seat g ≡ false = λ test not_free seat g. and_left (test Free) (eqb 0 seat) not_free in
      let stop : get_or {A = ℕ} (replicate (length rows + 1) 0) (length rows) 0 ≡ 0 = zero_word (length rows + 1) (length rows) (omega arith) in
      record {
        stage = λ _. Free;
        owner = λ _. 0;
        many = length-replicate (length rows + 1) 0;
        shown = λ f low. zero_word (length rows + 1) f (omega arith);
        outside = λ _ _. refl;
        seated = λ _ begun. absurd (begun refl);
        sound = λ i p at begun. absurd (begun refl);
        stop_low = subst (λ (x : ℕ). x < 2) (sym stop) (omega arith);
        stop_cause = λ one. absurd (zero_not_one _ stop one);
        stop_set = λ f lost. absurd (lost_not_free (sym lost));
        room = length-map (replicate n empty) some ∙ (length-replicate n empty ∙ is);
        filled = λ i p at. all_home n i (let low = inside_from_get (places_of rows) i p at in omega arith);
        fits =
            λ seat w at.
            let same : v ≡ w = only v w seat at in
            subst (Fits (λ _. Free) (λ _. 0) (get_or (replicate (length rows + 1) 0) (length rows) 0) seat) same
            record {
              claims = λ g. ap (λ l. member g l) spent.claims ∙ sym (none_with is_held refl seat g);
              gone = λ g. ap (λ l. member g l) spent.gone ∙ sym (none_with is_lost refl seat g);
              done = λ g. ap (λ l. member g l) spent.done ∙ sym (none_with is_done refl seat g);
              seen = λ g has. absurd (false≢true (ap (λ l. member g l) (sym spent.seen) ∙ has));
              stopped = λ t. absurd (false≢true (sym spent.stopped ∙ t));
            };
      }
    where
      only : (v w : Knows T) (seat : ℕ) → get_elem? (v ∷ []) seat ≡ some w → v ≡ w
      only v w zero at = some-injective v w at
      only v w (suc seat) at = absurd (some-ne-none w (sym at))

  -- what a pass saw published lies at the place of its result
  pub seen_home : (s : St) → Rule s → IsLaidOut rows → (id : ℕ) (v : Knows T) (f i : ℕ) → get_elem? s.views id ≡ some v → member f v.seen ≡ true
      → IsPlace rows i (edge (length rows) f) → (y : S) × (get_elem? s.homes i ≡ some (some y)) × good f y
  seen_home s r laid id v f i at has is =
      let done : r.stage f ≡ Done = (r.fits id v at).seen f has in
      lies_at (r.stage f) (r.stage (length rows)) Done Free f (get_elem? s.homes i) (sym done) (sym (r.outside (length rows) (omega arith))) (r.filled i (edge (length rows) f) is)

-- the claim, in the words of the view
pub claim_told : {W O : Type 0} (defined : W → ℕ → O) (rows : List (List ℕ)) (w : W) → IsLaidOut rows
    → (slots id : ℕ) (me : Me (Option' (Arc O Global)) (Knows (Option' W))) (f : ℕ) → f < length rows
    → ((g : ℕ) → member g (callees rows f) ≡ true → member g me.0.seen ≡ true)
    → me.0.rows ≡ rows → me.0.work ≡ Some w
    → Allows {S = Option' (Arc O Global)} {V = Knows (Option' W)} (IsRuled rows None (IsOutput defined (Some w))) slots id me f (λ n. either (eqb n 0) 1 n) (λ x after. Told.Claims defined f x me after)
claim_told {W} {O} defined rows w laid slots id me f inside saw er ew =
    subst (λ (z : List (List ℕ) × Option' W).
    Allows {S = Option' (Arc O Global)} {V = Knows (Option' W)} (IsRuled rows None (IsOutput defined (Some w))) slots id me f (λ n. either (eqb n 0) 1 n)
    (λ x after. Claims (Option' W) z.0 None (IsOutput defined z.1) f x me after))
    (λ i. (sym er i, sym ew i))
    (claim_allowed (Option' W) rows None (IsOutput defined (Some w)) laid slots id me f inside saw)
