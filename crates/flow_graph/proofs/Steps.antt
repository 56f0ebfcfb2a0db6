-- Laws of steps of a run, and of a choice between two.
use Rattle.std.proofs.Common.{◌≡◌, Bool, true, false, refl, ap, ◌∙◌, ◌&&◌, not}
use Rattle.std.proofs.lemmas.Bool.{false≢true}
use Rattle.std.specs.Prelude.{Result, Ok, Err, if◌then◌else◌}
use Rattle.sc_world.specs.World.{World, Ended, Run, ◌>>=◌, goes_on}

pub goes_ext : {A B : Type 0} (r : Result A Ended × World) (f f' : A → Run B)
    → ((a : A) (w : World) → f a w ≡ f' a w) → goes_on r f ≡ goes_on r f'
goes_ext (Ok a, w) f f' h = h a w
goes_ext (Err e, w) f f' h = refl

pub goes_cong : {A B : Type 0} (r r' : Result A Ended × World) (f f' : A → Run B)
    → r ≡ r' → ((a : A) (w : World) → f a w ≡ f' a w) → goes_on r f ≡ goes_on r' f'
goes_cong r r' f f' e h = ap (λ x. goes_on x f) e ∙ goes_ext r' f f' h

pub goes_assoc : {A B C : Type 0} (r : Result A Ended × World) (f : A → Run B) (g : B → Run C)
    → goes_on (goes_on r f) g ≡ goes_on r (λ a. f a >>= g)
goes_assoc (Ok a, w) f g = refl
goes_assoc (Err e, w) f g = refl

-- a choice between two steps
pub choose_ext : {A : Type 0} (c : Bool) (f f' g g' : Run A) (w : World)
    → f w ≡ f' w → g w ≡ g' w → (if c then f else g) w ≡ (if c then f' else g') w
choose_ext true f f' g g' w hit miss = hit
choose_ext false f f' g g' w hit miss = miss

pub and_left : (a b : Bool) → (a && b) ≡ true → a ≡ true
and_left true b h = refl
and_left false b h = absurd (false≢true h)

pub and_right : (a b : Bool) → (a && b) ≡ true → b ≡ true
and_right true b h = h
and_right false b h = absurd (false≢true h)

pub not_true : (a : Bool) → not a ≡ true → a ≡ false
not_true true h = absurd (false≢true h)
not_true false h = refl
