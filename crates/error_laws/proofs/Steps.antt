-- Steps of runs that end by no errors but at locations, and what they give when they go on.
use Rattle.std.proofs.Common.{◌≡◌, ℕ, zero, suc, ◌<◌, Bool, true, false, not, List, [], ◌∷◌, length, refl, sym, true≢false, arith}
use Rattle.std.specs.Prelude.{Result, Ok, Err, slice_index_or, if◌then◌else◌}
use Rattle.run_store.specs.Concrete.{Cell}
use Rattle.run_store.specs.declared.Flag.{Flag}
use Rattle.run_store.specs.declared.Flag.TheVariants as flag
use Rattle.sc_base.specs.declared.pos.Pos.{Pos}
use Rattle.sum_rows.specs.declared.report.What.{What}
use Rattle.sc_world.specs.declared.run.Reason.{Reason}
use Rattle.sc_world.specs.declared.run.Reason.TheVariants as reason
use Rattle.sc_world.specs.Tree.{Ty}
use Rattle.sc_world.specs.Layout.{Layout, Location, location, nowhere, is_stub, is_outer, has_type}
use Rattle.sc_world.specs.World.{World, Ended, Error, Inner, Run, goes_on, ◌>>=◌, done, aside, unless, Env, target_of, load, store, mark, has_mark, root_of, event, state_of, set_state, not_freed, reach_from, reach, dereference}
use Rattle.sc_world.specs.Eval.{fails}
use Rattle.error_laws.specs.Errors.{IsErrorAt}

abbrev pub Whatever : {A : Type 0} → A → Type 0
Whatever a = Unit {0}

module _ (p : Layout) where
  abbrev pub After : {A : Type 0} → (A → Type 0) → Result A Ended × World → Type 0
  After Q (Ok a, w) = Q a
  After Q (Err e, w) = IsErrorAt p e

  -- where the step goes on, what it gives has Q
  pub record Leads {A : Type 0} (Q : A → Type 0) (m : Run A) : Type 0 where
    pub by : (w : World) → After Q (m w)

  behind : {A B : Type 0} (Q : A → Type 0) (R : B → Type 0) (r : Result A Ended × World) (f : A → Run B) → After Q r
      → ((a : A) → Q a → Leads R (f a)) → After R (goes_on r f)
  behind Q R (Ok a, w) f h k = (k a h).by w
  behind Q R (Err e, w) f h k = h

  pub chain : {A B : Type 0} {Q : A → Type 0} {R : B → Type 0} {m : Run A} {f : A → Run B} → Leads Q m
      → ((a : A) → Q a → Leads R (f a)) → Leads R (m >>= f)
  chain {Q = Q} {R = R} {m = m} {f = f} l k = record { by = λ w. behind Q R (m w) f (l.by w) k }

  pub gives : {A : Type 0} {Q : A → Type 0} {a : A} → Q a → Leads Q (done a)
  gives q = record { by = λ w. q }

  pub stops : {A : Type 0} {Q : A → Type 0} {r : Reason} → Leads Q (aside r)
  stops = record { by = λ w. tt }

  pub either : {A : Type 0} {Q : A → Type 0} {m m' : Run A} (b : Bool) → Leads Q m → Leads Q m' → Leads Q (if b then m else m')
  either true l l' = l
  either false l l' = l'

  -- either step, each where the test says so
  pub either_as : {A : Type 0} {Q : A → Type 0} {m m' : Run A} (b : Bool) → (b ≡ true → Leads Q m) → (b ≡ false → Leads Q m')
      → Leads Q (if b then m else m')
  either_as true l l' = l refl
  either_as false l l' = l' refl

  pub holds : (b : Bool) (r : Reason) → Leads (λ _. b ≡ true) (unless b r)
  holds true r = gives refl
  holds false r = stops

  pub requires : (b : Bool) (r : Reason) → Leads Whatever (unless b r)
  requires true r = gives tt
  requires false r = stops

  after_value : {A : Type 0} (Q : A → Type 0) (r : Result A Ended × World) → After Q r → After Whatever r
  after_value Q (Ok a, w) h = tt
  after_value Q (Err e, w) h = h

  pub forget : {A : Type 0} {Q : A → Type 0} {m : Run A} → Leads Q m → Leads Whatever m
  forget {Q = Q} {m = m} l = record { by = λ w. after_value Q (m w) (l.by w) }

-- Single steps, which end no run.

pub loads : (p : Layout) (at : ℕ) → Leads p Whatever (load at)
loads p at = record { by = λ w. tt }

pub stores : (p : Layout) (at : ℕ) (c : Cell) → Leads p Whatever (store at c)
stores p at c = record { by = λ w. tt }

pub marks : (p : Layout) (at : ℕ) (f : Flag) → Leads p Whatever (mark at f)
marks p at f = record { by = λ w. tt }

pub asks : (p : Layout) (at : ℕ) (f : Flag) → Leads p Whatever (has_mark at f)
asks p at f = record { by = λ w. tt }

pub tells : (p : Layout) (q : Pos) (x : What) → Leads p Whatever (event q x)
tells p q x = record { by = λ w. tt }

pub state_asked : (env : Env) (at : ℕ) → Leads env.layout Whatever (state_of env at)
state_asked env at = record { by = λ w. tt }

pub state_set : (env : Env) (at k : ℕ) → Leads env.layout Whatever (set_state env at k)
state_set env at k = record { by = λ w. tt }

-- Locations.

-- where there is something that is no stub, there is a location
pub within : (ls : List Location) (at : ℕ) → not (is_stub (slice_index_or ls at nowhere)) ≡ true → at < length ls
within [] at h = absurd (true≢false (sym h))
within (l ∷ ls) zero h = omega arith
within (l ∷ ls) (suc at) h = omega (arith, within ls at h)

not_freed_there : (env : Env) (at : ℕ) → Leads env.layout Whatever (not_freed env at)
not_freed_there env at = chain env.layout (asks env.layout (root_of env at) flag.Freed) (λ b _. requires env.layout (not b) reason.Freed)

reaches_from : (env : Env) (target : ℕ) → Leads env.layout (λ at. at < length env.layout.locations) (reach_from env target)
reaches_from env zero = stops env.layout
reaches_from env (suc at) =
    chain env.layout (holds env.layout (not (is_stub (location env.layout at))) reason.Reach)
    (λ _ h. chain env.layout (not_freed_there env at) (λ _ _. gives env.layout {a = at} (within env.layout.locations at h)))

-- a pointer leads to a location
pub reaches : (env : Env) (c : Cell) → Leads env.layout (λ at. at < length env.layout.locations) (reach env c)
reaches env c = reaches_from env (target_of c)

pub dereferences : (env : Env) (t : Ty) (c : Cell) → Leads env.layout Whatever (dereference env t c)
dereferences env t c =
    chain env.layout (reaches env c)
    (λ at _. chain env.layout (requires env.layout (has_type (location env.layout at) t) reason.Type) (λ _ _. gives env.layout {a = at} tt))

-- the error at a location
told : (p : Layout) (b : Bool) (at : ℕ) → is_outer (location p at) ≡ b → at < length p.locations → IsErrorAt p (if b then Error at else Inner at)
told p true at o h = (h, o)
told p false at o h = (h, o)

pub fails_there : (env : Env) {Q : Cell → Type 0} (q : Pos) (at : ℕ) → at < length env.layout.locations → Leads env.layout Q (fails env q at)
fails_there env q at h = record { by = λ w. told env.layout (is_outer (location env.layout at)) at refl h }
