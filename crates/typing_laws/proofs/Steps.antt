-- Steps that are put together of steps that leave the globals as they are.
use Rattle.std.proofs.Common.{◌≡◌, Bool, true, false, Option, Some, None, List, refl, ◌∙◌, if◌then◌else◌}
use Rattle.sc_typed.specs.declared.program.Global.{Global}
use Rattle.sc_rules.specs.declared.walk.Walk.{Walk}
use Rattle.sc_rules.specs.declared.walk.Fault.{Fault}
use Rattle.sc_rules.specs.Walks.{Check, then_with, ◌>>=◌, done, given, both, holds_or}
use Rattle.typing_laws.specs.Kept.{KeepsGlobals}

pub keeps : {A : Type 0} {m : Check A} → ((w : Walk) → (m w).1.globals ≡ w.globals) → KeepsGlobals m
keeps k = record { kept = k }

then_left : {A B : Type 0} (r : A × Walk) (f : A → Check B) (gs : List Global) → r.1.globals ≡ gs → ((a : A) → KeepsGlobals (f a)) → (then_with r f).1.globals ≡ gs
then_left (a, v) f gs is rest = (rest a).kept v ∙ is

pub by_then : {A B : Type 0} (m : Check A) (f : A → Check B) → KeepsGlobals m → ((a : A) → KeepsGlobals (f a)) → KeepsGlobals (m >>= f)
by_then m f first rest = record { kept = λ w. then_left (m w) f w.globals (first.kept w) rest }

pub by_done : {A B : Type 0} (m : Check A) (f : A → B) → KeepsGlobals m → KeepsGlobals (m >>= λ a. done (f a))
by_done m f first = record { kept = λ w. then_left (m w) (λ a. done (f a)) w.globals (first.kept w) (λ a. record { kept = λ v. refl }) }

pub by_if : {A : Type 0} (b : Bool) (m n : Check A) → KeepsGlobals m → KeepsGlobals n → KeepsGlobals (if b then m else n)
by_if true m n first second = first
by_if false m n first second = second

pub by_given : {A B : Type 0} (x : Option A) (f : A → Check (Option B)) → ((a : A) → KeepsGlobals (f a)) → KeepsGlobals (given x f)
by_given None f rest = record { kept = λ w. refl }
by_given (Some a) f rest = rest a

pub by_both : {A B C : Type 0} (x : Option A) (y : Option B) (f : A → B → Check (Option C)) → ((a : A) (b : B) → KeepsGlobals (f a b)) → KeepsGlobals (both x y f)
by_both None y f rest = record { kept = λ w. refl }
by_both (Some a) None f rest = record { kept = λ w. refl }
by_both (Some a) (Some b) f rest = rest a b

pub by_test : (test : Bool) (f : Fault) → KeepsGlobals (holds_or test f)
by_test true f = record { kept = λ w. refl }
by_test false f = record { kept = λ w. refl }
