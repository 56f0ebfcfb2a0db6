-- What holds of everything that a step of typing gives, whatever the walk.
use Rattle.std.proofs.Common.{◌≡◌, Bool, true, false, Option, Some, None, List, refl, if◌then◌else◌}
use Rattle.sc_base.specs.declared.pos.Pos.{Pos}
use Rattle.sc_base.specs.declared.skip.Unsupported.{Unsupported}
use Rattle.sc_base.specs.declared.skip.IllTyped.{IllTyped}
use Rattle.sc_rules.specs.declared.walk.Walk.{Walk}
use Rattle.sc_rules.specs.declared.walk.Fault.{Fault}
use Rattle.sc_rules.specs.Walks.{Check, then_with, ◌>>=◌, done, given, both, fault, unsupported, ill_typed, holds_or}

abbrev pub OnSome : {A : Type 0} → (A → Type 0) → Option A → Type 0
OnSome P None = Unit {0}
OnSome P (Some x) = P x

pub record Every {A : Type 0} (P : A → Type 0) (m : Check A) : Type 0 where
  pub all : (w : Walk) → P (m w).0

-- what a step that may give nothing gives
abbrev pub Gives : {A : Type 0} → (A → Type 0) → Check (Option A) → Type 0
Gives P m = Every (OnSome P) m

pub anything : {A : Type 0} (m : Check A) → Every (λ (a : A). Unit {0}) m
anything m = record { all = λ w. tt }

then_left : {A B : Type 0} (P : A → Type 0) (Q : B → Type 0) (r : A × Walk) (f : A → Check B) → P r.0 → ((a : A) → P a → Every Q (f a)) → Q (then_with r f).0
then_left P Q (a, v) f h rest = (rest a h).all v

pub by_then : {A B : Type 0} (P : A → Type 0) (Q : B → Type 0) (m : Check A) (f : A → Check B) → Every P m → ((a : A) → P a → Every Q (f a)) → Every Q (m >>= f)
by_then P Q m f first rest = record { all = λ w. then_left P Q (m w) f (first.all w) rest }

-- what is given does not matter
pub behind : {A B : Type 0} (Q : B → Type 0) (m : Check A) (f : A → Check B) → ((a : A) → Every Q (f a)) → Every Q (m >>= f)
behind Q m f rest = by_then (λ a. Unit {0}) Q m f (anything m) (λ a h. rest a)

pub by_done : {A : Type 0} (P : A → Type 0) (a : A) → P a → Every P (done a)
by_done P a h = record { all = λ w. h }

pub by_given : {A B : Type 0} (P : A → Type 0) (Q : B → Type 0) (x : Option A) (f : A → Check (Option B)) → OnSome P x → ((a : A) → P a → Gives Q (f a)) → Gives Q (given x f)
by_given P Q None f h rest = record { all = λ w. tt }
by_given P Q (Some a) f h rest = rest a h

pub by_both : {A B C : Type 0} (P : A → Type 0) (P' : B → Type 0) (Q : C → Type 0) (x : Option A) (y : Option B) (f : A → B → Check (Option C)) → OnSome P x → OnSome P' y → ((a : A) (b : B) → P a → P' b → Gives Q (f a b)) → Gives Q (both x y f)
by_both P P' Q None y f h k rest = record { all = λ w. tt }
by_both P P' Q (Some a) None f h k rest = record { all = λ w. tt }
by_both P P' Q (Some a) (Some b) f h k rest = rest a b h k

pub by_fault : {A : Type 0} (Q : A → Type 0) (f : Fault) → Gives Q (fault f)
by_fault Q f = record { all = λ w. tt }

pub by_none : {A : Type 0} (Q : A → Type 0) → Gives Q (done None)
by_none Q = record { all = λ w. tt }

pub by_some : {A : Type 0} (Q : A → Type 0) (a : A) → Q a → Gives Q (done (Some a))
by_some Q a h = record { all = λ w. h }

pub by_if : {A : Type 0} (Q : A → Type 0) (b : Bool) (m n : Check A) → (b ≡ true → Every Q m) → (b ≡ false → Every Q n) → Every Q (if b then m else n)
by_if Q true m n k l = k refl
by_if Q false m n k l = l refl

-- where the test does not hold, a fault is noted
pub by_unless : {A : Type 0} (Q : A → Type 0) (b : Bool) (m : Check (Option A)) (f : Fault) → (b ≡ true → Gives Q m) → Gives Q (if b then m else fault f)
by_unless Q true m f k = k refl
by_unless Q false m f k = record { all = λ w. tt }
