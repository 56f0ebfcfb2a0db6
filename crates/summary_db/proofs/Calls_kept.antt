-- What the calls of a database give, on plain data.
use Rattle.std.proofs.Common.{◌≡◌, ◌≢◌, ℕ, zero, suc, ◌+◌, ◌-◌, ◌<◌, ◌≤◌, Bool, true, false, eqb, cond, List, [], ◌∷◌, ◌++◌, length, get_or, refl, sym, ap, ◌∙◌, subst, ⊎_elim, arith, Option, Some, None, Global, eq-eqb}
use Rattle.std.proofs.lemmas.Bool.{false≢true, or_cases, or_left, cond-true, eqb-true}
use Rattle.std.specs.Option.{IsSome, IfSome, IsSomeAnd, option_to_list}
use Rattle.std.specs.declared.sync.Arc.{Arc}
use Rattle.std.specs.Arc.{arc_value}
use Rattle.plan_core.specs.Graph.{callees}
use Rattle.summary_db.specs.declared.db.Db.{Db}
use Rattle.summary_db.specs.declared.pass.Job.{Job}
use Rattle.summary_db.specs.declared.pass.Seen.{Seen}
use Rattle.summary_db.specs.declared.pass.Seen.TheVariants.{Yes, No}
use Rattle.summary_db.specs.declared.knows.Knows.{Knows}
use Rattle.summary_db.specs.Views.{member, looked}
use Rattle.summary_db.specs.Places.{Given, Spent, Rolled, slots_of, takes_of, IsLaidOut, places_of}
use Rattle.summary_db.specs.Told.{IsOutput}
use Rattle.summary_db.specs.Passes.{IsJobOf, IsSeen}
use Rattle.summary_db.proofs.Edges.{length_takes, result_place}
use Rattle.summary_db.proofs.Moves_kept.{seen_home}
use Rattle.summary_db.specs.Rule.{IsRuled}
use Rattle.atomic_table.specs.Table.{State}
use mathlib.Core.Option.{some, some-injective}
use lib.ListN.{get_elem?}
use Rattle.summary_db.proofs.Jobs.{IsAsked, asked, at_read}

module _ {A : Type 0} where
  pub some_and : (o : Option A) (P : A → Type 0) → IsSome o → IfSome o P → IsSomeAnd o P
  some_and None P s h = absurd (search (false≢true, s))
  some_and (Some x) P s h = h

  pub some_from_and : (o : Option A) (P : A → Type 0) → IsSomeAnd o P → IsSome o
  some_from_and None P h = absurd h
  some_from_and (Some x) P h = search refl

  pub and_value : (o : Option A) (x : A) (P : A → Type 0) → o ≡ Some x → IsSomeAnd o P → P x
  and_value o x P e h = subst (λ (z : Option A). IsSomeAnd z P) e h

  pub one_popped : (o : Option A) → IsSome o → length (option_to_list o) ≡ 1
  one_popped None s = absurd (search (false≢true, s))
  one_popped (Some x) s = refl

pub job_next : {W O : Type 0} (defined : W → ℕ → O) (db : Db W O) (job : Job W O) (is : IsJobOf defined db job) (k : ℕ) → k ≡ job.asked → k < length (callees db.rows job.function)
    → (ys : List ℕ) → ys ≡ takes_of db.rows job.function
    → IsAsked db.rows db.laid None (IsOutput defined (Some db.table.shared.key.work.value)) job.function is.inside k (get_or ys k 0) job.seat.me.1
job_next defined db job is k next low ys e =
    let many = length_takes db.rows job.function is.inside in
    asked db.rows db.laid None (IsOutput defined (Some db.table.shared.key.work.value)) job.function is.inside k (get_or ys k 0) job.seat.me.1
    (at_read (takes_of db.rows job.function) ys k e (omega arith))
    (subst (λ (j : ℕ). Rolled (Given db.rows (IsOutput defined (Some db.table.shared.key.work.value)) job.function) (Spent db.rows None job.function) (slots_of db.rows job.function) j job.seat.me.1) (sym next) is.slots)

pub word_from_yes : (x : ℕ) (seen : Seen) → IsSeen x seen → seen ≡ Yes → x ≡ 2
word_from_yes x seen is e = subst (IsSeen x) e is

pub word_from_no : (x found : ℕ) (seen : Seen) → IsSeen x seen → seen ≡ No found → (found ≡ x) × (x < 2)
word_from_no x found seen is e = subst (IsSeen x) e is

pub seen_now : {T : Type 0} (f x : ℕ) (v : Knows T) → x ≡ 2 → member f (looked f x v).seen ≡ true
seen_now f x v two = ap (λ l. member f l) (cond-true (eqb x 2) (f ∷ v.seen) v.seen (eq-eqb x 2 two)) ∙ or_left (eqb f f) (member f v.seen) (eq-eqb f f refl)

pub member_index : (xs : List ℕ) (g : ℕ) → member g xs ≡ true → (k : ℕ) × (k < length xs) × (get_or xs k 0 ≡ g)
member_index [] g has = absurd (false≢true has)
member_index (x ∷ xs) g has =
    ⊎_elim
    (λ same. (0, omega arith, sym (eqb-true g x same)))
    (λ rest. let r = member_index xs g rest in let low = r.1 in (suc r.0, omega arith, r.2))
    (or_cases (eqb g x) (member g xs) has)

-- what is left of a database at the place of a result
pub end_output : {S T : Type 0} (rows : List (List ℕ)) (empty : S) (good : ℕ → S → Type 0) (s : State S (Knows T)) → IsRuled rows empty good s → IsLaidOut rows
    → (id : ℕ) (v : Knows T) → get_elem? s.views id ≡ some v → (f : ℕ) → f < length rows → member f v.seen ≡ true
    → (xs : List S) → ((k : ℕ) (y : S) → get_elem? s.homes k ≡ some (some y) → get_elem? xs k ≡ some y)
    → (first : ℕ) → first + length rows ≡ length (places_of rows) → (out : S) → get_elem? xs (first + f) ≡ some out → good f out
end_output {S} {T} rows empty good s r laid id v at f low has xs home first is out here =
    let place = result_place rows f low in
    let same : (length (places_of rows) - length rows) + f ≡ first + f = omega arith in
    let h = seen_home T rows empty good s r laid id v f ((length (places_of rows) - length rows) + f) at has place in
    let there : get_elem? xs (first + f) ≡ some h.0 = subst (λ (k : ℕ). get_elem? xs k ≡ some h.0) same (home ((length (places_of rows) - length rows) + f) h.0 h.1) in
    subst (good f) (some-injective h.0 out (sym there ∙ here)) h.2
