-- Two clauses with the same set of literals, and what is found by them.

use Rattle.std.proofs.Common.{◌≡◌, ℕ, Bool, true, false, List, slice_get, Option, Some, Result, Ok, Err, IfOk, OnOk, sym, subst, ◌∙◌}
use Rattle.std.specs.List.{Contains}
use Rattle.std.proofs.lemmas.Bool.{false≢true}
use Rattle.sat_base.specs.declared.literal.Lit.{Lit}
use Rattle.sat_base.specs.Certificates.{HasSameLits}
use Rattle.rup_check.specs.Stored.{IsFound}

-- the second clause has a literal that the first has not
pub same_fails : (one other lits : List Lit) (b : Bool) → ((l : Lit) → (Contains lits l → Contains one l) × (Contains one l → Contains lits l))
    → (b ≡ true → (l : Lit) → Contains other l → Contains lits l) × (((l : Lit) → Contains other l → Contains lits l) → b ≡ true)
    → b ≡ false → HasSameLits one other → ⊥
same_fails one other lits b set test is h = false≢true (sym is ∙ test.1 (λ l k. (set l).1 (h.back l k)))

-- whether the first is within the second, which is within the first
pub same_holds : (one other first next : List Lit) (a b : Bool) → ((l : Lit) → (Contains first l → Contains one l) × (Contains one l → Contains first l))
    → (a ≡ true → (l : Lit) → Contains other l → Contains first l) × (((l : Lit) → Contains other l → Contains first l) → a ≡ true) → a ≡ true
    → ((l : Lit) → (Contains next l → Contains other l) × (Contains other l → Contains next l))
    → (b ≡ true → (l : Lit) → Contains one l → Contains next l) × (((l : Lit) → Contains one l → Contains next l) → b ≡ true)
    → (b ≡ true → HasSameLits one other) × (HasSameLits one other → b ≡ true)
same_holds one other first next a b set test is set2 test2 = (
  (λ yes. record { forth = λ l k. (set2 l).0 (test2.0 yes l k); back = λ l k. (set l).0 (test.0 is l k) }),
  (λ h. test2.1 (λ l k. (set2 l).1 (h.forth l k))),
)

-- the clause of this number is the one that was compared
pub found_by : {E : Type 0} (stored : List (Option (List Lit))) (clause c : List Lit) (id : ℕ) (r : Result Bool E) → slice_get stored id ≡ Some (Some c)
    → IfOk r (λ b. (b ≡ true → HasSameLits c clause) × (HasSameLits c clause → b ≡ true))
    → IfOk r (λ b. (b ≡ true → IsFound stored clause id) × (IsFound stored clause id → b ≡ true))
found_by stored clause c id (Ok b) at h = (
  (λ yes. (c, at, h.0 yes)),
  (λ f. let e : f.0 ≡ c = cc (sym f.1 ∙ at) in h.1 (subst (λ (x : List Lit). HasSameLits x clause) e f.2)),
)
found_by stored clause c id (Err e) at h = tt

pub on_ok : {A B : Type 0} (r : Result A B) (P : Type 0) → P → OnOk r P
on_ok (Ok a) P h = h
on_ok (Err b) P h = tt
