-- What the steps of a pass do to what it has seen.

use Rattle.std.proofs.Common.{◌≡◌, ℕ, ◌+◌, true, eqb, List, [], ◌∷◌, ◌++◌, refl, sym, subst, ap, ◌∙◌, ⊎_elim, eq-eqb, arith, Option, Some}
use Rattle.std.proofs.lemmas.Bool.{or_left, or_right, or_cases, cases_lt, cond_both, cond-true, false≢true}
use Rattle.summary_db.specs.declared.knows.Knows.{Knows}
use Rattle.std.proofs.lemmas.List.Elements.{All-pop}
use Rattle.std.specs.List.{All}
use Rattle.std.specs.Option.{IfSome, option_to_list}
use Rattle.summary_db.specs.declared.pass.Pass.{Pass}
use Rattle.summary_db.specs.Passes.{view}
use Rattle.work_pool.specs.declared.turns.Ended.{Ended}
use Rattle.work_pool.specs.declared.turns.Ended.TheVariants.{Done}
use Rattle.summary_db.specs.Views.{member, looked, heard, put, left, both, ends, less}
use Rattle.work_pool.specs.Workers.{SeesOn, SawAll, HasCause}

pub member_left : (f : ℕ) (gs hs : List ℕ) → member f gs ≡ true → member f (gs ++ hs) ≡ true
member_left f [] hs has = absurd (false≢true has)
member_left f (g ∷ gs) hs has =
    ⊎_elim
    (λ here. or_left (eqb f g) (member f (gs ++ hs)) here)
    (λ later. or_right (eqb f g) (member f (gs ++ hs)) (member_left f gs hs later))
    (or_cases (eqb f g) (member f gs) has)

pub member_right : (f : ℕ) (gs hs : List ℕ) → member f hs ≡ true → member f (gs ++ hs) ≡ true
member_right f [] hs has = has
member_right f (g ∷ gs) hs has = or_right (eqb f g) (member f (gs ++ hs)) (member_right f gs hs has)

pub member_first : (f : ℕ) (gs : List ℕ) → member f (f ∷ gs) ≡ true
member_first f gs = or_left (eqb f f) (member f gs) (eq-eqb f f refl)

-- the only job ends
pub less_only : (f : ℕ) → less f (f ∷ []) ≡ []
less_only f = cond-true (eqb f f) [] (f ∷ []) (eq-eqb f f refl)

pub looked_on : {T : Type 0} (f x : ℕ) (v : Knows T) → SeesOn v (looked f x v)
looked_on f x v g has =
    cond_both (eqb x 2) (f ∷ v.seen) v.seen (λ l. member g l ≡ true) (λ _. or_right (eqb g f) (member g v.seen) has) (λ _. has)

pub looked_two : {T : Type 0} (f x : ℕ) (v : Knows T) → x ≡ 2 → member f (looked f x v).seen ≡ true
looked_two f x v two = ap (λ l. member f l) (cond-true (eqb x 2) (f ∷ v.seen) v.seen (eq-eqb x 2 two)) ∙ member_first f v.seen

-- what a load of f's word leaves
pub looked_kept : {T : Type 0} (f x : ℕ) (v z : Knows T) → z ≡ looked f x v → SeesOn v z × (z.jobs ≡ v.jobs)
looked_kept f x v z is = (
  λ g has. subst (λ k. member g k.seen ≡ true) (sym is) (looked_on f x v g has),
  ap (λ k. k.jobs) is,
)

pub looked_seen : {T : Type 0} (f x : ℕ) (v z : Knows T) → z ≡ looked f x v → x ≡ 2 → member f z.seen ≡ true
looked_seen f x v z is two = subst (λ k. member f k.seen ≡ true) (sym is) (looked_two f x v two)

-- what a load of the stop word leaves
pub heard_kept : {T : Type 0} (n x : ℕ) (v z : Knows T) → z ≡ heard n x v → SeesOn v z × (z.jobs ≡ v.jobs)
heard_kept n x v z is = (λ g has. subst (λ k. member g k.seen ≡ true) (sym is) has, ap (λ k. k.jobs) is)

pub heard_stopped : {T : Type 0} (n x : ℕ) (v z : Knows T) → z ≡ heard n x v → x ≡ 1 → z.stopped ≡ true
heard_stopped n x v z is one = ap (λ k. k.stopped) is ∙ or_right v.stopped (eqb x 1) (eq-eqb x 1 one)

-- what is left of a pass and its only job, that of f, once f is published
pub ended_put : {T : Type 0} (f j : ℕ) (v w z : Knows T) → j ≡ f → v.jobs ≡ f ∷ [] → z ≡ ends v (put j w)
    → (z.jobs ≡ []) × SeesOn v z × (member f z.seen ≡ true)
ended_put f j v w z same only is = (
  ap (λ k. k.jobs) is ∙ ((λ i. less (same i) (only i)) ∙ less_only f),
  λ g has. subst (λ k. member g k.seen ≡ true) (sym is) (member_left g v.seen (j ∷ w.seen) has),
  subst (λ k. member f k.seen ≡ true) (sym is)
      (member_right f v.seen (j ∷ w.seen) (subst (λ (i : ℕ). member f (i ∷ w.seen) ≡ true) (sym same) (member_first f w.seen))),
)

-- and once f is abandoned
pub ended_left : {T : Type 0} (f j : ℕ) (v w z : Knows T) → w.place ≡ j → j ≡ f → v.jobs ≡ f ∷ [] → z ≡ ends v (left j w)
    → (z.jobs ≡ []) × SeesOn v z × (z.stopped ≡ true)
ended_left f j v w z place same only is = (
  ap (λ k. k.jobs) is ∙ ((λ i. less ((place ∙ same) i) (only i)) ∙ less_only f),
  λ g has. subst (λ k. member g k.seen ≡ true) (sym is) (member_left g v.seen w.seen has),
  ap (λ k. k.stopped) is ∙ or_right v.stopped true refl,
)

pub sees_again : {T : Type 0} (u v w : Knows T) → SeesOn u v → SeesOn v w → SeesOn u w
sees_again u v w first second g has = second g (first g has)

-- one function more, in a turn in which as many functions were found published as were visited
pub saw_more : {T : Type 0} (n : ℕ) (v w : Knows T) → SeesOn v w → SawAll n v → member n w.seen ≡ true → SawAll (n + 1) w
saw_more n v w on all here f low =
    ⊎_elim
    (λ before. on f (all f before))
    (λ last. let same : n ≡ f = omega arith in subst (λ (g : ℕ). member g w.seen ≡ true) same here)
    (cases_lt f n)

-- what is popped is one of the list's
pub popped : {A : Type 0} (P : A → Type 0) (xs ys : List A) (r : Option A) (x : A)
    → xs ≡ ys ++ option_to_list r → r ≡ Some x → All P xs → All P ys × P x
popped P xs ys r x items is all =
    let both = All-pop P xs ys r items all in (both.0, subst (λ o. IfSome o P) is both.1)

pub cause_done : {W O : Type 0} (n : ℕ) (pass : Pass W O) (e : Ended) → HasCause n pass e → e ≡ Done → SawAll n (view pass)
cause_done n pass e cause is = subst (HasCause n pass) is cause

-- what is left of two passes without jobs
pub both_kept : {T : Type 0} (n : ℕ) (v w z : Knows T) → v.jobs ≡ [] → w.jobs ≡ [] → SawAll n v → z ≡ both v w → (z.jobs ≡ []) × SawAll n z
both_kept n v w z none none' all is = (
  ap (λ k. k.jobs) is ∙ (λ i. none i ++ none' i),
  λ f low. subst (λ k. member f k.seen ≡ true) (sym is) (member_left f v.seen w.seen (all f low)),
)
