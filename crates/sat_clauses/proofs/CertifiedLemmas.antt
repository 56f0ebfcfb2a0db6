-- Unit propagation from more clauses, what is known of those that are held, and the steps of a log.

use Rattle.std.proofs.Common.{◌≡◌, inl, inr, ℕ, zero, suc, List, [], ◌∷◌, ◌++◌, map, slice_get, Option, None, Some, IfSome, MatchOption, refl, sym, subst, ap, ◌∙◌, append_assoc}
use Rattle.std.specs.List.{Contains}
use Rattle.std.proofs.lemmas.List.Elements.{Contains-append_left, Contains-append_right, Contains-append_cases}
use Rattle.sat_base.specs.declared.literal.Lit.{Lit}
use Rattle.sat_base.specs.declared.certificate.Step.{Step}
use Rattle.sat_base.specs.declared.certificate.Step.TheVariants.{Add, Drop}
use Rattle.sat_base.specs.Logic.{negation}
use Rattle.sat_base.specs.Certificates.{Forced, by_assumption, by_clause, IsRup, IsStep, IsCertificate}
use Rattle.sat_clauses.specs.Learnt.{Thins, Adds, IsFree}
use Rattle.sat_clauses.specs.Certified.{units, HeldState, present, IsKnown, Infers, IsInferred, IsRefuted, noted, ended, Leads, Covers, IsRecorded, MayEnd}
use Rattle.sat_clauses.proofs.CoverLemmas.{empty_has, head_in, tail_in, head_or_tail, Sub, some_same, takes_out, loses_last, covers_present, covers_others, covers_thins, covers_lost, covers_adds}

-- ---- lists

pub map_has : {A B : Type 0} (f : A → B) (xs : List A) (x : A) → Contains xs x → Contains (map f xs) (f x)
map_has f [] x h = empty_has x h
map_has f (y ∷ ys) x h =
    elim (head_or_tail y ys x h) [
      | inl same ↦ subst (λ z. Contains (f y ∷ map f ys) (f z)) same (head_in (f y) (map f ys))
      | inr later ↦ tail_in (f y) (map f ys) (f x) (map_has f ys x later)
    ]

-- ---- unit propagation

forced_more : (A B : List (List Lit)) (given : List Lit) (l : Lit) → Sub A B → Forced A given l → Forced B given l
forced_more A B given _ sub (by_assumption l h) = by_assumption l h
forced_more A B given _ sub (by_clause c l one has others) = by_clause c l (sub c one) has (λ q there ne. forced_more A B given (negation q) sub (others q there ne))

pub rup_more : (A B : List (List Lit)) (c : List Lit) → Sub A B → IsRup A c → IsRup B c
rup_more A B c sub h = record {
  clause = h.clause;
  one = sub h.clause h.one;
  forced = λ q there. forced_more A B (map negation c) (negation q) sub (h.forced q there);
}

pub infers_rup : (A : List (List Lit)) (c : List Lit) → Infers A c → IsRup A c
infers_rup A c h = h (map negation c) (λ q there. by_assumption (negation q) (map_has negation c q there))

-- ---- what is known

slice_has : {X : Type 0} (xs : List X) (i : ℕ) (x : X) → slice_get xs i ≡ Some x → Contains xs x
slice_has [] i x h = absurd (cc h)
slice_has (y ∷ ys) zero x h = subst (Contains (y ∷ ys)) (some_same y x h) (head_in y ys)
slice_has (y ∷ ys) (suc i) x h = tail_in y ys x (slice_has ys i x h)

present_has : (learnt : List (Option (List Lit))) (i : ℕ) (c : List Lit) → slice_get learnt i ≡ Some (Some c) → Contains (present learnt) c
present_has [] i c h = absurd (cc h)
present_has (None ∷ rest) zero c h = absurd (cc h)
present_has (None ∷ rest) (suc i) c h = present_has rest i c h
present_has (Some d ∷ rest) zero c h = let e : d ≡ c = cc h in subst (Contains (d ∷ present rest)) e (head_in d (present rest))
present_has (Some d ∷ rest) (suc i) c h = tail_in d (present rest) c (present_has rest i c h)

-- a given clause that is found is known
pub known_at : {B : Type 0} (view : B → List Lit) (s : HeldState) (i : ℕ) (P : Type 0) (o : Option B) → MatchOption o P (λ b. slice_get s.given i ≡ Some (view b))
    → IfSome o (λ b. IsKnown s (view b))
known_at view s i P None h = tt
known_at view s i P (Some b) h = Contains-append_left s.given s.learnt (view b) (slice_has s.given i (view b) h)

-- and so is a learnt one
pub known_by : {B : Type 0} (view : B → List Lit) (s : HeldState) (learnt : List (Option (List Lit))) (i : ℕ) (o : Option B) → present learnt ≡ s.learnt
    → IfSome o (λ b. slice_get learnt i ≡ Some (Some (view b))) → IfSome o (λ b. IsKnown s (view b))
known_by view s learnt i None is found = tt
known_by view s learnt i (Some b) is found =
    Contains-append_right s.given s.learnt (view b) (subst (λ cs. Contains cs (view b)) is (present_has learnt i (view b) found))

-- ---- with clauses for the assumed literals

pub with_units : (given us logged : List (List Lit)) → Sub (given ++ logged) ((given ++ us) ++ logged)
with_units given us logged c h =
    elim (Contains-append_cases given logged c h) [
      | inl first ↦ Contains-append_left (given ++ us) logged c (Contains-append_left given us c first)
      | inr later ↦ Contains-append_right (given ++ us) logged c later
    ]

-- ---- the steps of a log

leads_push : (A now next : List (List Lit)) (steps : List Step) (s : Step) → Leads A steps now → IsStep now s next → Leads A (steps ++ s ∷ []) next
leads_push A now next [] s h step = (next, subst (λ B. IsStep B s next) h step, refl)
leads_push A now next (t ∷ rest) s h step = (h.0, h.1, leads_push h.0 now next rest s h.2 step)

certified_from : (A next : List (List Lit)) (s : Step) (rest : List Step) → IsStep A s next → IsCertificate next rest → IsCertificate A (s ∷ rest)
certified_from A next s [] step h = absurd h
certified_from A next (Add []) (r ∷ rs) step h = (next, step, h)
certified_from A next (Add (l ∷ ls)) (r ∷ rs) step h = (next, step, h)
certified_from A next (Drop c) (r ∷ rs) step h = (next, step, h)

certificate_of : (A now : List (List Lit)) (steps : List Step) → Leads A steps now → IsRup now [] → IsCertificate A (steps ++ Add [] ∷ [])
certificate_of A now [] h rup = subst (λ B. IsRup B []) h rup
certificate_of A now (s ∷ rest) h rup = certified_from A h.0 s (rest ++ Add [] ∷ []) h.1 (certificate_of h.0 now rest h.2 rup)

-- ---- the log of a solver

-- all that is held is among the clauses after the steps
all_there : (others : List (List Lit)) (learnt : List (Option (List Lit))) (now : List (List Lit)) → Covers others learnt now → Sub (others ++ present learnt) now
all_there others learnt now h c there =
    elim (Contains-append_cases others (present learnt) c there) [
      | inl one ↦ covers_others others learnt now h c one
      | inr one ↦ covers_present others learnt now h c one
    ]

held_there : (given more : List (List Lit)) (learnt : List (Option (List Lit))) (now : List (List Lit)) → Covers (given ++ more) learnt now → Sub (given ++ present learnt) now
held_there given more learnt now h c there = all_there (given ++ more) learnt now h c (with_units given more (present learnt) c there)

-- a log begins
pub recorded_begun : (given : List (List Lit)) (learnt : List (Option (List Lit))) (log : Option (List Step)) → learnt ≡ [] → log ≡ Some [] → IsRecorded given learnt log
recorded_begun given learnt log none is =
    subst (λ cs. IsRecorded given cs log) (sym none)
    (subst (IsRecorded given []) (sym is) (λ more. (given ++ more, refl, λ c there. there)))

recorded_push : (given : List (List Lit)) (learnt : List (Option (List Lit))) (c : List Lit) (log : Option (List Step)) → IsRecorded given learnt log
    → IsRecorded (given ++ c ∷ []) learnt log
recorded_push given learnt c None h = tt
recorded_push given learnt c (Some steps) h =
    λ more.
    subst (λ all. (now : List (List Lit)) × Leads all steps now × Covers all learnt now) (sym (append_assoc given (c ∷ []) more)) (h (c ∷ more))

-- a clause more is given
pub recorded_given : (old new : List (List Lit)) (learnt : List (Option (List Lit))) (c : List Lit) (log : Option (List Step)) → new ≡ old ++ c ∷ []
    → IsRecorded old learnt log → IsRecorded new learnt log
recorded_given old new learnt c log is h = subst (λ given. IsRecorded given learnt log) (sym is) (recorded_push old learnt c log h)

-- a clause is learnt
pub recorded_learnt : (given : List (List Lit)) (old new : List (Option (List Lit))) (log : Option (List Step)) (c : List Lit) → IsRecorded given old log
    → IsInferred (record { given = given; learnt = present old }) c → Adds old new c → IsRecorded given new (noted log c)
recorded_learnt given old new None c h inferred adds = tt
recorded_learnt given old new (Some steps) c h inferred adds =
    λ more.
    let t = h more in (
      t.0 ++ c ∷ [],
      leads_push (given ++ more) t.0 (t.0 ++ c ∷ []) steps (Add c) t.1
          (rup_more (given ++ present old) t.0 c (held_there given more old t.0 t.2) (infers_rup (given ++ present old) c inferred), refl),
      covers_adds (given ++ more) adds.0 old new c (t.0 ++ c ∷ []) t.0 adds.1 (loses_last t.0 c) t.2,
    )

-- clauses are deleted, and nothing is noted of it
pub recorded_thinned : (given : List (List Lit)) (old new : List (Option (List Lit))) (log : Option (List Step)) → IsRecorded given old log → Thins old new
    → IsRecorded given new log
recorded_thinned given old new None h thins = tt
recorded_thinned given old new (Some steps) h thins =
    λ more.
    let t = h more in (t.0, t.1, covers_thins (given ++ more) old new t.0 thins t.2)

-- a clause is deleted, and it is noted
recorded_ended : (given : List (List Lit)) (old new : List (Option (List Lit))) (log : Option (List Step)) (i : ℕ) (c : List Lit) → IsRecorded given old log → Thins old new
    → slice_get old i ≡ Some (Some c) → IsFree new i → IsRecorded given new (ended log c)
recorded_ended given old new None i c h thins at free = tt
recorded_ended given old new (Some steps) i c h thins at free =
    λ more.
    let t = h more in
    let r = covers_lost (given ++ more) i old new c t.0 thins at free t.2 in
    (r.0, leads_push (given ++ more) t.0 r.0 steps (Drop c) t.1 (takes_out c t.0 r.0 r.1), r.2)

pub recorded_forgot : (given : List (List Lit)) (old new : List (Option (List Lit))) (log next : Option (List Step)) (i : ℕ) (c : List Lit) → IsRecorded given old log
    → Thins old new → slice_get old i ≡ Some (Some c) → IsFree new i → MayEnd log next c → IsRecorded given new next
recorded_forgot given old new log next i c h thins at free may =
    elim may [
      | inl same ↦ subst (IsRecorded given new) (sym same) (recorded_thinned given old new log h thins)
      | inr one ↦ subst (IsRecorded given new) (sym one) (recorded_ended given old new log i c h thins at free)
    ]

-- the whole log
pub finished_log : (given : List (List Lit)) (learnt : List (Option (List Lit))) (log : Option (List Step)) (steps new : List Step) (empty assumed : List Lit)
    → log ≡ Some steps → IsRecorded given learnt log → IsRefuted (record { given = given; learnt = present learnt }) assumed → new ≡ steps ++ Add empty ∷ [] → empty ≡ []
    → IsCertificate (given ++ units assumed) new
finished_log given learnt log steps new empty assumed is recorded refuted pushed none =
    let t = subst (IsRecorded given learnt) is recorded (units assumed) in
    subst (IsCertificate (given ++ units assumed)) (sym (pushed ∙ ap (λ c. steps ++ Add c ∷ []) none))
    (certificate_of (given ++ units assumed) t.0 steps t.1
    (rup_more ((given ++ units assumed) ++ present learnt) t.0 [] (all_there (given ++ units assumed) learnt t.0 t.2) refuted))
