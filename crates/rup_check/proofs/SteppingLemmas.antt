-- Steps one after the other, and the end.

use Rattle.std.proofs.Common.{◌≡◌, ℕ, zero, suc, ◌+◌, ◌-◌, ◌<◌, ◌≤◌, Bool, true, false, List, [], ◌∷◌, ◌++◌, length, take, take_all, get_or, slice_get, if◌then◌else◌, None, Some, refl, sym, subst, ap, ◌∙◌, arith}
use Rattle.std.proofs.lemmas.List.{take_more}
use Rattle.std.proofs.lemmas.Option.{slice_get-get_or, slice_get_within}
use Rattle.sat_base.specs.declared.literal.Lit.{Lit}
use Rattle.sat_base.specs.declared.certificate.Step.{Step}
use Rattle.sat_base.specs.declared.certificate.Step.TheVariants.{Add, Drop}
use Rattle.sat_base.specs.Certificates.{IsStep, IsCertificate}
use Rattle.rup_check.specs.declared.check.Checked.{Checked}
use Rattle.rup_check.specs.declared.check.Checked.TheVariants.{Yes, No}
use Rattle.rup_check.specs.Checked.{Reaches, adds_empty, ends_empty, IsRefusal, IsChecked}
use Rattle.rup_check.specs.Stepping.{IsAdded, IsDropped, IsTaken, end_of}

pub taken_add : (clauses : List (List Lit)) (c : List Lit) (next : List (List Lit)) (b : Bool) → IsAdded clauses c next b → IsTaken clauses (Add c) next b
taken_add clauses c next true h = h
taken_add clauses c next false h = λ other s. h s.0

pub taken_drop : (clauses : List (List Lit)) (c : List Lit) (next : List (List Lit)) (b : Bool) → IsDropped clauses c next b → IsTaken clauses (Drop c) next b
taken_drop clauses c next true h = h
taken_drop clauses c next false h = h

reaches_push : (clauses : List (List Lit)) (xs : List Step) (s : Step) (now next : List (List Lit)) → Reaches clauses xs now → IsStep now s next
    → Reaches clauses (xs ++ s ∷ []) next
reaches_push clauses [] s now next r step = (next, subst (λ cs. IsStep cs s next) r step, refl)
reaches_push clauses (x ∷ xs) s now next r step = (r.0, r.1, reaches_push r.0 xs s now next r.2 step)

pub reaches_more : (clauses : List (List Lit)) (steps : List Step) (k : ℕ) (d : Step) (now next : List (List Lit)) → k < length steps
    → Reaches clauses (take k steps) now → IsStep now (get_or steps k d) next → Reaches clauses (take (k + 1) steps) next
reaches_more clauses steps k d now next inside r step =
    subst (λ xs. Reaches clauses xs next) (sym (take_more steps k d inside)) (reaches_push clauses (take k steps) (get_or steps k d) now next r step)

pub reaches_all : (clauses : List (List Lit)) (steps : List Step) (k : ℕ) (now : List (List Lit)) → length steps ≤ k → Reaches clauses (take k steps) now → Reaches clauses steps now
reaches_all clauses steps k now over r = subst (λ xs. Reaches clauses xs now) (take_all k steps over) r

-- the first step that is not allowed
pub refused_at : (clauses : List (List Lit)) (steps : List Step) (k : ℕ) (d : Step) (now : List (List Lit)) → k < length steps → Reaches clauses (take k steps) now
    → ((next : List (List Lit)) → IsStep now (get_or steps k d) next → ⊥) → IsRefusal clauses steps k
refused_at clauses steps k d now inside r bars =
    let at = slice_get-get_or steps k d inside in
    record {
      now = now;
      reached = r;
      refused = λ s is next step. let e : get_or steps k d ≡ s = cc (sym at ∙ is) in bars next (subst (λ x. IsStep now x next) (sym e) step);
      ended = λ none. absurd (cc (sym at ∙ none));
    }

certified : (clauses : List (List Lit)) (steps : List Step) (now : List (List Lit)) → Reaches clauses steps now → ends_empty steps ≡ true → IsCertificate clauses steps
certified clauses [] now r e = absurd (cc e)
certified clauses (Add [] ∷ []) now r e = r.1.0
certified clauses (Add (l ∷ ls) ∷ []) now r e = absurd (cc e)
certified clauses (Drop c ∷ []) now r e = absurd (cc e)
certified clauses (Add [] ∷ (s ∷ rest)) now r e = (r.0, r.1, certified r.0 (s ∷ rest) now r.2 e)
certified clauses (Add (l ∷ ls) ∷ (s ∷ rest)) now r e = (r.0, r.1, certified r.0 (s ∷ rest) now r.2 e)
certified clauses (Drop c ∷ (s ∷ rest)) now r e = (r.0, r.1, certified r.0 (s ∷ rest) now r.2 e)

ended_by : (clauses : List (List Lit)) (steps : List Step) (now : List (List Lit)) (b : Bool) → ends_empty steps ≡ b → Reaches clauses steps now
    → IsChecked clauses steps (if b then Yes else No (length steps))
ended_by clauses steps now true is r = certified clauses steps now r is
ended_by clauses steps now false is r = record {
  now = now;
  reached = subst (λ xs. Reaches clauses xs now) (sym (take_all (length steps) steps (omega arith))) r;
  refused = λ s at next step. let low = slice_get_within steps (length steps) s at in absurd (omega (arith, low));
  ended = λ none. (refl, is);
}

pub ended : (clauses : List (List Lit)) (steps : List Step) (now : List (List Lit)) (answer : Checked) → Reaches clauses steps now → answer ≡ end_of steps
    → IsChecked clauses steps answer
ended clauses steps now answer r is = subst (λ a. IsChecked clauses steps a) (sym is) (ended_by clauses steps now (ends_empty steps) refl r)

-- what the last step says
pub ends_none : (steps : List Step) → slice_get steps (length steps - 1) ≡ None → ends_empty steps ≡ false
ends_none [] h = refl
ends_none (s ∷ rest) h =
    let low : length (s ∷ rest) - 1 < length (s ∷ rest) = omega arith in
    absurd (cc (sym (slice_get-get_or (s ∷ rest) (length (s ∷ rest) - 1) s low) ∙ h))

at_last : (s : Step) (rest : List Step) (n : ℕ) (x : Step) → length rest ≡ n → slice_get (s ∷ rest) n ≡ Some x → ends_empty (s ∷ rest) ≡ adds_empty x
at_last s [] zero x len h = ap adds_empty (let e : s ≡ x = cc h in e)
at_last s [] (suc n) x len h = absurd (omega (arith, len))
at_last s (t ∷ rest) zero x len h = absurd (omega (arith, len))
at_last s (t ∷ rest) (suc n) x len h = at_last t rest n x (omega (arith, len)) h

pub ends_some : (steps : List Step) (x : Step) → slice_get steps (length steps - 1) ≡ Some x → ends_empty steps ≡ adds_empty x
ends_some [] x h = absurd (cc h)
ends_some (s ∷ rest) x h =
    let same : length (s ∷ rest) - 1 ≡ length rest = omega arith in
    at_last s rest (length rest) x refl (ap (slice_get (s ∷ rest)) (sym same) ∙ h)
