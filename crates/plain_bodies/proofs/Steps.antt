-- Steps that are put together of steps that change the fault of the walk alone.
use Rattle.std.proofs.Common.{◌≡◌, Bool, true, false, Option, Some, None, refl, sym, subst, ◌∙◌, if◌then◌else◌}
use Rattle.scopes.specs.Frames.{Frames}
use Rattle.sc_rules.specs.declared.walk.Tag.{Tag}
use Rattle.sc_rules.specs.declared.walk.Walk.{Walk}
use Rattle.sc_rules.specs.declared.walk.Fault.{Fault}
use Rattle.sc_rules.specs.Walks.{Check, then_with, ◌>>=◌, done, given, both, holds_or}
use Rattle.plain_bodies.specs.Leaves.{HasTags, FaultAlone, faultless}

module _ {T : Frames Tag} where
  pub keeps : {A : Type 0} {m : Check A} → ((w : Walk) → faultless (m w).1 ≡ faultless w) → FaultAlone T m
  keeps k = record { kept = λ w has. k w }

  pub keeps_where : {A : Type 0} {m : Check A} → ((w : Walk) → HasTags T w.tags → faultless (m w).1 ≡ faultless w) → FaultAlone T m
  keeps_where k = record { kept = k }

  -- the tags are those of before
  pub has_still : (v w : Walk) → faultless v ≡ faultless w → HasTags T w.tags → HasTags T v.tags
  has_still v w is has = subst (λ (x : Walk). HasTags T x.tags) (sym is) has

  then_left : {A B : Type 0} (r : A × Walk) (f : A → Check B) (w : Walk) → HasTags T w.tags → faultless r.1 ≡ faultless w → ((a : A) → FaultAlone T (f a)) → faultless (then_with r f).1 ≡ faultless w
  then_left (a, v) f w has is rest = (rest a).kept v (has_still v w is has) ∙ is

  pub by_then : {A B : Type 0} (m : Check A) (f : A → Check B) → FaultAlone T m → ((a : A) → FaultAlone T (f a)) → FaultAlone T (m >>= f)
  by_then m f first rest = record { kept = λ w has. then_left (m w) f w has (first.kept w has) rest }

  pub by_done : {A B : Type 0} (m : Check A) (f : A → B) → FaultAlone T m → FaultAlone T (m >>= λ a. done (f a))
  by_done m f first = record { kept = λ w has. then_left (m w) (λ a. done (f a)) w has (first.kept w has) (λ a. record { kept = λ v has. refl }) }

  pub by_if : {A : Type 0} (b : Bool) (m n : Check A) → FaultAlone T m → FaultAlone T n → FaultAlone T (if b then m else n)
  by_if true m n first second = first
  by_if false m n first second = second

  pub by_given : {A B : Type 0} (x : Option A) (f : A → Check (Option B)) → ((a : A) → FaultAlone T (f a)) → FaultAlone T (given x f)
  by_given None f rest = record { kept = λ w has. refl }
  by_given (Some a) f rest = rest a

  pub by_both : {A B C : Type 0} (x : Option A) (y : Option B) (f : A → B → Check (Option C)) → ((a : A) (b : B) → FaultAlone T (f a b)) → FaultAlone T (both x y f)
  by_both None y f rest = record { kept = λ w has. refl }
  by_both (Some a) None f rest = record { kept = λ w has. refl }
  by_both (Some a) (Some b) f rest = rest a b

  pub by_test : (test : Bool) (f : Fault) → FaultAlone T (holds_or test f)
  by_test true f = record { kept = λ w has. refl }
  by_test false f = record { kept = λ w has. refl }
