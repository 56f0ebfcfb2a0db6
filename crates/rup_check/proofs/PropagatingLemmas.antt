-- What propagation marks is forced, and where nothing is left to mark, all that is forced is marked.

use Rattle.std.proofs.Common.{◌≡◌, ℕ, ◌+◌, ◌<◌, ◌≤◌, Bool, true, false, List, map, length, slice_get, Option, Some, Result, Ok, Err, IfOk, refl, sym, subst, ◌∙◌, ⊎_elim, arith}
use Rattle.std.specs.List.{Contains}
use Rattle.std.proofs.lemmas.Bool.{cases_eq}
use Rattle.std.proofs.lemmas.Option.{slice_get_within}
use Rattle.sat_base.specs.declared.literal.Lit.{Lit}
use Rattle.sat_base.specs.Logic.{negation}
use Rattle.sat_base.specs.Certificates.{Forced, by_assumption, by_clause, Falsifies, IsRup}
use Rattle.rup_check.specs.declared.visit.Visited.{Visited}
use Rattle.rup_check.specs.declared.closing.Pass.{Pass}
use Rattle.rup_check.specs.Marking.{MarksState, IsMarked}
use Rattle.rup_check.specs.declared.look.OpenLits.TheVariants.{One}
use Rattle.rup_check.specs.Looking.{AllFalse, OthersFalse, AreOpen, IsClosed}
use Rattle.rup_check.specs.Stored.{present}
use Rattle.rup_check.specs.Propagating.{IsConflict, Extends, AllClosed, IsPass, IsStill, IsVisit, joined, IsClosing}
use Rattle.rup_check.proofs.StoredLemmas.{present_has, has_present}

pub extends_refl : (clauses : List (List Lit)) (m : MarksState) → Extends clauses m m
extends_refl clauses m = record { vars = refl; kept = λ l h. h; sound = λ given s. s; fewer = omega arith }

pub extends_same : (clauses : List (List Lit)) (m n : MarksState) → n ≡ m → Extends clauses m n
extends_same clauses m n e = subst (λ x. Extends clauses m x) (sym e) (extends_refl clauses m)

pub extends_trans : (clauses : List (List Lit)) (a b c : MarksState) → Extends clauses a b → Extends clauses b c → Extends clauses a c
extends_trans clauses a b c h k =
    let less = h.fewer in
    let more = k.fewer in
    record {
      vars = k.vars ∙ h.vars;
      kept = λ l x. k.kept l (h.kept l x);
      sound = λ given s. k.sound given (h.sound given s);
      fewer = omega (arith, less, more);
    }

-- a clause forces its last literal
pub extends_forced : (clauses : List (List Lit)) (old new : MarksState) (c : List Lit) (l : Lit) → Contains clauses c → Contains c l
    → OthersFalse old.lits c l → IsMarked old new l → Extends clauses old new
extends_forced clauses old new c l one has others m = record {
  vars = m.vars;
  kept = m.kept;
  sound = λ given s q h.
      ⊎_elim (λ before. s q before)
      (λ e. subst (λ x. Forced clauses given x) (sym e) (by_clause c l one has (λ p there ne. s (negation p) (others p there ne))))
      (m.only q h);
  fewer = m.fewer;
}

pub conflict_of : (clauses : List (List Lit)) (lits c : List Lit) → Contains clauses c → AllFalse lits c → IsConflict clauses lits
conflict_of clauses lits c one all given s = record { clause = c; one = one; forced = λ q there. s (negation q) (all q there) }

-- a clause without open literals, with one that is marked, or with two, under the number of a clause that is there
pub still_closed : (stored : List (Option (List Lit))) (id : ℕ) (m : MarksState) (c : List Lit) → slice_get stored id ≡ Some (Some c) → IsClosed m.lits c
    → IsStill stored id m m
still_closed stored id m c at closed = (refl, λ d is. let e : c ≡ d = cc (sym at ∙ is) in subst (λ (x : List Lit). IsClosed m.lits x) e closed)

pub still_gone : (stored : List (Option (List Lit))) (id : ℕ) (m : MarksState) → ((c : List Lit) → slice_get stored id ≡ Some (Some c) → ⊥) → IsStill stored id m m
still_gone stored id m none = (refl, λ c is. absurd (none c is))

pub visit_forced : (stored : List (Option (List Lit))) (id : ℕ) (old new : MarksState) (c : List Lit) (l : Lit) → slice_get stored id ≡ Some (Some c)
    → AreOpen old.lits c (One l) → IsMarked old new l → Extends (present stored) old new
visit_forced stored id old new c l at h m = extends_forced (present stored) old new c l (present_has stored id c at) h.0.0 h.1 m

pub visit_falsified : (stored : List (Option (List Lit))) (id : ℕ) (m : MarksState) (c : List Lit) → slice_get stored id ≡ Some (Some c)
    → AllFalse m.lits c → IsConflict (present stored) m.lits
visit_falsified stored id m c at h = conflict_of (present stored) m.lits c (present_has stored id c at) h

-- what is known after the first i clauses
abbrev pub IsSoFar : List (Option (List Lit)) → MarksState → MarksState → Pass → ℕ → Type 0
IsSoFar stored old new Pass.Conflict i = IsConflict (present stored) new.lits
IsSoFar stored old new Pass.Changed i = new.unmarked < old.unmarked
IsSoFar stored old new Pass.Unchanged i = (new ≡ old) × ((j : ℕ) (c : List Lit) → j < i → slice_get stored j ≡ Some (Some c) → IsClosed old.lits c)

pub so_far_none : (stored : List (Option (List Lit))) (m : MarksState) → IsSoFar stored m m Pass.Unchanged 0
so_far_none stored m = (refl, λ j c low h. absurd (omega (arith, low)))

so_far_still : (stored : List (Option (List Lit))) (old mid new : MarksState) (p : Pass) (i : ℕ) → IsSoFar stored old mid p i → IsStill stored i mid new
    → IsSoFar stored old new p (i + 1)
so_far_still stored old mid new Pass.Conflict i s v = subst (λ (m : MarksState). IsConflict (present stored) m.lits) (sym v.0) s
so_far_still stored old mid new Pass.Changed i s v = subst (λ (m : MarksState). m.unmarked < old.unmarked) (sym v.0) s
so_far_still stored old mid new Pass.Unchanged i s v = (
  v.0 ∙ s.0,
  λ j c low h.
      ⊎_elim
      (λ same. subst (λ (m : MarksState). IsClosed m.lits c) s.0 (v.1 c (subst (λ k. slice_get stored k ≡ Some (Some c)) same h)))
      (λ ne. s.1 j c (omega (arith, low, ne)) h)
      (cases_eq j i),
)

so_far_forced : (stored : List (Option (List Lit))) (old mid new : MarksState) (p : Pass) → mid.unmarked ≤ old.unmarked → new.unmarked < mid.unmarked → new.unmarked < old.unmarked
so_far_forced stored old mid new p before now = omega (arith, before, now)

pub so_far_more : (stored : List (Option (List Lit))) (old mid new : MarksState) (p : Pass) (v : Visited) (i : ℕ) → Extends (present stored) old mid
    → IsSoFar stored old mid p i → IsVisit stored i mid new v → IsSoFar stored old new (joined p v) (i + 1)
so_far_more stored old mid new p Visited.Gone i e s h = so_far_still stored old mid new p i s h
so_far_more stored old mid new p Visited.Falsified i e s h = h
so_far_more stored old mid new p Visited.Forced i e s h = so_far_forced stored old mid new p e.fewer h
so_far_more stored old mid new p Visited.Settled i e s h = so_far_still stored old mid new p i s h
so_far_more stored old mid new p (Visited.Open l m) i e s h = so_far_still stored old mid new p i s h

pub so_far_all : (stored : List (Option (List Lit))) (old new : MarksState) (p : Pass) (i : ℕ) → length stored ≤ i → IsSoFar stored old new p i
    → IsPass (present stored) old new p
so_far_all stored old new Pass.Conflict i over s = s
so_far_all stored old new Pass.Changed i over s = s
so_far_all stored old new Pass.Unchanged i over s =
    λ c h.
    let t = has_present stored c h in
    let low = slice_get_within stored t.0 (Some c) t.1 in
    subst (λ (m : MarksState). IsClosed m.lits c) (sym s.0) (s.1 t.0 c (omega (arith, low, over)) t.1)

pub so_far_conflict : (stored : List (Option (List Lit))) (old new : MarksState) (p : Pass) (i : ℕ) → p ≡ Pass.Conflict → IsSoFar stored old new p i
    → IsPass (present stored) old new p
so_far_conflict stored old new Pass.Conflict i is s = s
so_far_conflict stored old new Pass.Changed i is s = absurd (cc is)
so_far_conflict stored old new Pass.Unchanged i is s = absurd (cc is)

-- ---- RUP

forced_marked : (clauses : List (List Lit)) (given lits : List Lit) (l : Lit) → ((q : Lit) → Contains given q → Contains lits q) → AllClosed clauses lits
    → Forced clauses given l → Contains lits l
forced_marked clauses given lits _ sub closed (by_assumption l h) = sub l h
forced_marked clauses given lits _ sub closed (by_clause c l one has others) =
    (closed c one).forces l has (λ q there ne. forced_marked clauses given lits (negation q) sub closed (others q there ne))

nothing_falsified : (clauses : List (List Lit)) (given lits : List Lit) → ((q : Lit) → Contains given q → Contains lits q) → AllClosed clauses lits
    → Falsifies clauses given → ⊥
nothing_falsified clauses given lits sub closed h =
    (closed h.clause h.one).stands (λ q there. forced_marked clauses given lits (negation q) sub closed (h.forced q there))

-- a falsified clause shows that the clause is RUP
pub rup_found : (clauses : List (List Lit)) (c : List Lit) (old new : MarksState) → ((l : Lit) → Contains old.lits l → Contains (map negation c) l)
    → Extends clauses old new → IsConflict clauses new.lits → IsRup clauses c
rup_found clauses c old new forth e h = h (map negation c) (e.sound (map negation c) (λ l k. by_assumption l (forth l k)))

-- what the passes found says whether it is
pub rup_from : (clauses : List (List Lit)) (c : List Lit) (old new : MarksState) (b : Bool)
    → ((l : Lit) → Contains old.lits l → Contains (map negation c) l) → ((l : Lit) → Contains (map negation c) l → Contains old.lits l)
    → Extends clauses old new → IsClosing clauses new.lits b → (b ≡ true → IsRup clauses c) × (IsRup clauses c → b ≡ true)
rup_from clauses c old new true forth back e h = ((λ same. rup_found clauses c old new forth e h), (λ rup. refl))
rup_from clauses c old new false forth back e h = (
  (λ same. absurd (cc same)),
  (λ rup. absurd (nothing_falsified clauses (map negation c) new.lits (λ q k. e.kept q (back q k)) h rup)),
)

pub rup_by : {E : Type 0} (clauses : List (List Lit)) (c : List Lit) (old new : MarksState) (r : Result Bool E)
    → ((l : Lit) → Contains old.lits l → Contains (map negation c) l) → ((l : Lit) → Contains (map negation c) l → Contains old.lits l)
    → Extends clauses old new → IfOk r (IsClosing clauses new.lits) → IfOk r (λ b. (b ≡ true → IsRup clauses c) × (IsRup clauses c → b ≡ true))
rup_by clauses c old new (Ok b) forth back e h = rup_from clauses c old new b forth back e h
rup_by clauses c old new (Err x) forth back e h = tt
