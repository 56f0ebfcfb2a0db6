-- Steps that lead from worlds with a property to worlds with it, and what they give then.
use Rattle.std.proofs.Common.{◌≡◌, ℕ, suc, ◌+◌, ◌-◌, ◌≤◌, ◌<◌, Bool, true, false, List, [], ◌∷◌, ◌++◌, length, refl}
use Rattle.std.specs.Prelude.{Result, Ok, Err, IfOk, slice_index_or, if◌then◌else◌}
use Rattle.fsm_spec.specs.Table.{IsWhole}
use Rattle.run_store.specs.declared.Flag.{Flag}
use Rattle.run_store.specs.Concrete.{Cell, Number, Nothing, nth_cell, change, marked}
use Rattle.sum_rows.specs.declared.report.Event.{Event}
use Rattle.sc_world.specs.declared.run.Reason.{Reason}
use Rattle.sc_world.specs.Source.{Source}
use Rattle.sc_world.specs.Layout.{Layout}
use Rattle.sc_world.specs.World.{World, Ended, Run, goes_on, ◌>>=◌, done, ends, unless, target_of, state_width, states}
use Rattle.run_laws.specs.Proper.{IsClosed}

abbrev pub Whatever : {A : Type 0} → A → Type 0
Whatever a = Unit {0}

module _ (P : World → Type 0) where
  abbrev pub After : {A : Type 0} → (A → Type 0) → Result A Ended × World → Type 0
  After Q (Ok a, w) = P w × Q a
  After Q (Err e, w) = P w

  -- from a world that has P the step leads to one, and what it gives has Q
  pub record Leads {A : Type 0} (Q : A → Type 0) (m : Run A) : Type 0 where
    pub by : (w : World) → P w → After Q (m w)

  behind : {A B : Type 0} (Q : A → Type 0) (R : B → Type 0) (r : Result A Ended × World) (f : A → Run B) → After Q r
      → ((a : A) → Q a → Leads R (f a)) → After R (goes_on r f)
  behind Q R (Ok a, w) f h k = (k a h.1).by w h.0
  behind Q R (Err e, w) f h k = h

  pub chain : {A B : Type 0} {Q : A → Type 0} {R : B → Type 0} {m : Run A} {f : A → Run B} → Leads Q m
      → ((a : A) → Q a → Leads R (f a)) → Leads R (m >>= f)
  chain {Q = Q} {R = R} {m = m} {f = f} l k = record { by = λ w h. behind Q R (m w) f (l.by w h) k }

  pub gives : {A : Type 0} {Q : A → Type 0} {a : A} → Q a → Leads Q (done a)
  gives q = record { by = λ w h. (h, q) }

  pub stops : {A : Type 0} {Q : A → Type 0} {e : Ended} → Leads Q (ends e)
  stops = record { by = λ w h. h }

  pub either : {A : Type 0} {Q : A → Type 0} {m m' : Run A} (b : Bool) → Leads Q m → Leads Q m' → Leads Q (if b then m else m')
  either true l l' = l
  either false l l' = l'

  -- either step, each where the test says so
  pub either_as : {A : Type 0} {Q : A → Type 0} {m m' : Run A} (b : Bool) → (b ≡ true → Leads Q m) → (b ≡ false → Leads Q m')
      → Leads Q (if b then m else m')
  either_as true l l' = l refl
  either_as false l l' = l' refl

  -- where the run goes on the test holds
  pub holds : (b : Bool) (r : Reason) → Leads (λ _. b ≡ true) (unless b r)
  holds true r = gives refl
  holds false r = stops

  both_after : {A : Type 0} (Q R : A → Type 0) (r : Result A Ended × World) → After Q r → After R r → After (λ a. Q a × R a) r
  both_after Q R (Ok a, w) h i = (h.0, (h.1, i.1))
  both_after Q R (Err e, w) h i = h

  pub both : {A : Type 0} {Q R : A → Type 0} {m : Run A} → Leads Q m → Leads R m → Leads (λ a. Q a × R a) m
  both {Q = Q} {R = R} {m = m} l k = record { by = λ w h. both_after Q R (m w) (l.by w h) (k.by w h) }

  pub requires : (b : Bool) (r : Reason) → Leads Whatever (unless b r)
  requires true r = gives tt
  requires false r = stops

  weaker_after : {A : Type 0} (Q R : A → Type 0) → ((a : A) → Q a → R a) → (r : Result A Ended × World) → After Q r → After R r
  weaker_after Q R so (Ok a, w) h = (h.0, so a h.1)
  weaker_after Q R so (Err e, w) h = h

  pub weaker : {A : Type 0} {Q R : A → Type 0} {m : Run A} → ((a : A) → Q a → R a) → Leads Q m → Leads R m
  weaker {Q = Q} {R = R} {m = m} so l = record { by = λ w h. weaker_after Q R so (m w) (l.by w h) }

  after_world : {A : Type 0} (Q : A → Type 0) (r : Result A Ended × World) → After Q r → P r.1
  after_world Q (Ok a, w) h = h.0
  after_world Q (Err e, w) h = h

  pub world_kept : {A : Type 0} (Q : A → Type 0) (m : Run A) → Leads Q m → (w : World) → P w → P (m w).1
  world_kept Q m l w h = after_world Q (m w) (l.by w h)

module _ (P : World → Type 0) where
  value_after : {A : Type 0} (Q R : A → Type 0) → ((a : A) → Q a → R a) → (r : Result A Ended × World) → After P Q r → IfOk r.0 R
  value_after Q R so (Ok a, w) h = so a h.1
  value_after Q R so (Err e, w) h = tt

  pub value_given : {A : Type 0} (Q R : A → Type 0) → ((a : A) → Q a → R a) → (m : Run A) → Leads P Q m → (w : World) → P w
      → IfOk (m w).0 R
  value_given Q R so m l w h = value_after Q R so (m w) (l.by w h)

-- a location's number, or 0 where there is no location
abbrev pub IsPlace : Layout → ℕ → Type 0
IsPlace p at = at ≤ length p.locations - 1

-- null, a pointer to such a number, or no pointer
pub record Inside (p : Layout) (c : Cell) : Type 0 where
  pub within : target_of c ≤ suc (length p.locations - 1)

-- What a property of worlds has to be kept by.
pub record Rules (s : Source) (p : Layout) (temps : List Cell) (P : World → Type 0) : Type 0 where
  pub whole : IsWhole s.machine
  pub closed : IsClosed p
  pub temps_inside : (k : ℕ) → Inside p (slice_index_or temps k Nothing)
  pub loads : (w : World) → P w → (at : ℕ) → Inside p (nth_cell w.places at)
  pub puts : (w : World) → P w → (at : ℕ) → IsPlace p at → (c : Cell) → Inside p c → P (record w { places = change w.places at c })
  pub marks : (w : World) → P w → (at : ℕ) (f : Flag) → P (record w { places = marked w.places at f true })
  pub events : (w : World) → P w → (e : Event) → P (record w { trace = w.trace ++ e ∷ [] })
  pub sets : (w : World) → P w → (at k : ℕ) → k < states s
      → P (record w { places = change w.places (length p.locations + at) (Number state_width k) })
