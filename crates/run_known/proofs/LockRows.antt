-- Answers of several rows, as a loop sees them.
use Rattle.std.proofs.Common.{◌≡◌, ℕ, Bool, true, false, ◌&&◌, List, ◌∷◌, Result, Ok, Err, refl, ap, ◌∙◌}
use Rattle.sum_rows.specs.declared.row.Gives.{Gives}
use Rattle.sc_world.specs.World.{World, Ended, Env, goes_on, done}
use Rattle.sc_world.specs.Known.{Locked, lock_stands, locks_stand}

-- what is answered, with this before
abbrev pub both : Bool → Result Bool Ended × World → Result Bool Ended × World
both a (Ok b, w) = (Ok (a && b), w)
both a (Err e, w) = (Err e, w)

pub both_true : (r : Result Bool Ended × World) → both true r ≡ r
both_true (Ok b, w) = refl
both_true (Err e, w) = refl

and_and : (a b c : Bool) → (a && (b && c)) ≡ ((a && b) && c)
and_and true b c = refl
and_and false b c = refl

both_more : (a b : Bool) (r : Result Bool Ended × World) → both a (goes_on r (λ c. done (b && c))) ≡ both (a && b) r
both_more a b (Ok c, w) = ap (λ x. (Ok x, w)) (and_and a b c)
both_more a b (Err e, w) = refl

pub locks_more : (env : Env) (given : ℕ) (result : Gives) (l : Locked) (ls : List Locked) (w : World) (a b : Bool)
    → lock_stands env given result l w ≡ (Ok b, w)
    → both a (locks_stand env given result (l ∷ ls) w) ≡ both (a && b) (locks_stand env given result ls w)
locks_more env given result l ls w a b h =
    ap (λ r. both a (goes_on r (λ x. λ w. goes_on (locks_stand env given result ls w) (λ y. done (x && y))))) h
    ∙ both_more a b (locks_stand env given result ls w)

pub ruleset lock_rows = (both_true, locks_more)
