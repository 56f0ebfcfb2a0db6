-- Errors one after the other are the first error.
use Rattle.std.proofs.Common.{◌≡◌, ℕ, ◌+◌, Bool, true, false, List, [], ◌∷◌, Result, Ok, Err, if◌then◌else◌, refl}
use Rattle.std.specs.Prelude.{Option, Some, None}
use Rattle.sc_base.specs.declared.pos.Pos.{Pos}
use Rattle.run_store.specs.declared.Flag.TheVariants as flag
use Rattle.run_store.specs.Concrete.{Cell, nth_cell}
use Rattle.sc_world.specs.declared.run.Reason.TheVariants as reason
use Rattle.sc_world.specs.Tree.{Ty}
use Rattle.sc_world.specs.World.{World, Ended, Env, Run, ◌>>=◌, bit_at, done, goes_on, mark, number_of, size, unless}
use Rattle.sc_world.specs.Known.{Acting, Locked, acts_as, acts_unless, error_stands, errs, first_error, given_by}
use Rattle.sc_world.specs.Eval.{fails}
use Rattle.gate_acts.specs.Acts.{where_held}
use Rattle.gate_fails.specs.Errors.{errs_each}

-- a run that errs is over
ended : (env : Env) (pos : Pos) (at : ℕ) (stands : Bool) (w : World) (f : Unit {0} → Run (Unit {0})) (k : Run Cell)
    → goes_on (goes_on (goes_on (goes_on (unless stands reason.NoRow w) (λ u. mark at flag.Touched >>= λ u. fails env pos at)) (λ c. done tt)) f) (λ u. k)
    ≡ goes_on (unless stands reason.NoRow w) (λ u. mark at flag.Touched >>= λ u. fails env pos at)
ended env pos at true w f k = refl
ended env pos at false w f k = refl

module _ (env : Env) (pos : Pos) (t : Ty) (a : Acting) where
  abbrev rest : Run Cell
  rest = acts_as env a (given_by env a.occurrence t)

  in_order_at : (b : Bool) (l : Locked) (ls : List Locked) (w : World)
      → goes_on (errs_each env (fails env pos) a ls w) (λ u. rest) ≡ acts_unless env (fails env pos) t a (first_error env ls) w
      → goes_on (goes_on (where_held b (errs env (fails env pos) a l >>= λ u. done tt) w) (λ u. errs_each env (fails env pos) a ls)) (λ u. rest)
      ≡ acts_unless env (fails env pos) t a (if b then Some l else first_error env ls) w
  in_order_at true l ls w h =
      ended env pos l.at (error_stands a.given (number_of (nth_cell w.places (size env + l.at))) l) w (λ u. errs_each env (fails env pos) a ls) rest
  in_order_at false l ls w h = h

  pub in_order : (ls : List Locked) (w : World)
      → goes_on (errs_each env (fails env pos) a ls w) (λ u. rest) ≡ acts_unless env (fails env pos) t a (first_error env ls) w
  in_order [] w = refl
  in_order (l ∷ ls) w = in_order_at (bit_at env.choice l.bit) l ls w (in_order ls w)
