-- Steps that are the same in every world, and what is known of what a step gives where the run goes on behind it.
use Rattle.std.proofs.Common.{◌≡◌, ℕ, Bool, true, false, not, List, Result, Ok, Err, refl, ap, subst}
use Rattle.gl_store.specs.declared.stores.Location.{Location}
use Rattle.gl_store.specs.Meets.{MeetsAll}
use Rattle.sc_world.specs.declared.run.Reason.{Reason}
use Rattle.sc_world.specs.World.{World, Ended, Run, unless, done}
use Rattle.gate_runs.specs.declared.ends.Ends.{Ends}
use Rattle.gate_runs.specs.Standing.{Standing, On, Over, stand, after}
use Rattle.gate_runs.specs.Stands.{Stands, Does, Any, aside_where}

-- another name of the same step

same_from : {A : Type 0} (v : ℕ → Bool) (l : List Location) (e : Ends) (m k : Run A) (Good : A → Type 0) → ((w : World) → m w ≡ k w)
    → (s : Standing (Unit {0})) → Stands v l e Good (after s (λ u. m)) → Stands v l e Good (after s (λ u. k))
same_from v l e m k Good same (On u w) h = subst (λ r. Stands v l e Good (stand r)) (same w) h
same_from v l e m k Good same (Over x w) h = h

pub does_same : {A : Type 0} (v : ℕ → Bool) (l0 l1 : List Location) (e0 e1 : Ends) (m k : Run A) (Good : A → Type 0) → ((w : World) → m w ≡ k w)
    → Does v l0 e0 m l1 e1 Good → Does v l0 e0 k l1 e1 Good
does_same v l0 l1 e0 e1 m k Good same d = record { does = λ s h. same_from v l1 e1 m k Good same s (d.does s h) }

-- another fact of what a step gives: one that holds where the run goes on behind it, and one where it does not

told_at : {A : Type 0} (v : ℕ → Bool) (l : List Location) (e : Ends) (Good Fine : A → Type 0) (r : Result A Ended × World)
    → ((a : A) (u : World) → r ≡ (Ok a, u) → Good a → Fine a) → ((a : A) → v e.live.at ≡ false → Good a → Fine a)
    → Stands v l e Good (stand r) → Stands v l e Fine (stand r)
told_at v l e Good Fine (Ok b, u) on over h =
    record {
      store = h.store;
      tells = record { live = h.tells.live; asides = h.tells.asides; bads = h.tells.bads };
      given = h.given;
      good = on h.given u (ap (λ x. (Ok x, u)) h.is) h.good;
      is = h.is;
    }
told_at v l e Good Fine (Err x, u) on over h =
    record {
      store = h.store;
      tells = record { live = h.tells.live; asides = h.tells.asides; bads = h.tells.bads };
      given = h.given;
      good = over h.given h.tells.live h.good;
      is = tt;
    }

told_from : {A : Type 0} (v : ℕ → Bool) (l0 l1 : List Location) (e0 e1 : Ends) (m : Run A) (Good Fine : A → Type 0)
    → ((w : World) → MeetsAll v l0 w.places → (a : A) (u : World) → m w ≡ (Ok a, u) → Good a → Fine a)
    → ((a : A) → v e1.live.at ≡ false → Good a → Fine a) → (s : Standing (Unit {0})) → Stands v l0 e0 (Any {A = Unit {0}}) s
    → Stands v l1 e1 Good (after s (λ u. m)) → Stands v l1 e1 Fine (after s (λ u. m))
told_from v l0 l1 e0 e1 m Good Fine on over (On x w) old new = told_at v l1 e1 Good Fine (m w) (on w old.store) over new
told_from v l0 l1 e0 e1 m Good Fine on over (Over x w) old new =
    record {
      store = new.store;
      tells = record { live = new.tells.live; asides = new.tells.asides; bads = new.tells.bads };
      given = new.given;
      good = over new.given new.tells.live new.good;
      is = tt;
    }

pub does_tell : {A : Type 0} (v : ℕ → Bool) (l0 l1 : List Location) (e0 e1 : Ends) (m : Run A) (Good Fine : A → Type 0)
    → ((w : World) → MeetsAll v l0 w.places → (a : A) (u : World) → m w ≡ (Ok a, u) → Good a → Fine a)
    → ((a : A) → v e1.live.at ≡ false → Good a → Fine a) → Does v l0 e0 m l1 e1 Good → Does v l0 e0 m l1 e1 Fine
does_tell v l0 l1 e0 e1 m Good Fine on over d =
    record { does = λ s h. told_from v l0 l1 e0 e1 m Good Fine on over s h (d.does s h) }

-- a run that goes on unless a test fails

never : (b : Bool) {P : Type 0} → b ≡ false → b ≡ true → P
never true off on = absurd (cc)
never false off on = absurd (cc)

unless_is : (b : Bool) (reason : Reason) (w : World) → aside_where (λ x. not b) reason w ≡ unless b reason w
unless_is true reason w = refl
unless_is false reason w = refl

abbrev has_passed : {A : Type 0} → Result A Ended × World → Bool
has_passed (Ok a, w) = true
has_passed (Err e, w) = false

unless_passed : (b : Bool) (reason : Reason) (w : World) (a : Unit {0}) (u : World) → unless b reason w ≡ (Ok a, u) → b ≡ true
unless_passed true reason w a u e = refl
unless_passed false reason w a u e = ap has_passed e

pub does_unless : (v : ℕ → Bool) (l : List Location) (old new : Ends) (b : Bool) (reason : Reason)
    → Does v l old (aside_where (λ w. not b) reason) l new (Any {A = Unit {0}})
    → Does v l old (unless b reason) l new (λ u. v new.live.at ≡ true → b ≡ true)
does_unless v l old new b reason d =
    does_tell v l l old new (unless b reason) (Any {A = Unit {0}}) (λ u. v new.live.at ≡ true → b ≡ true)
    (λ w met a u passed good on. unless_passed b reason w a u passed)
    (λ a off good on. never (v new.live.at) off on)
    (does_same v l l old new (aside_where (λ w. not b) reason) (unless b reason) (Any {A = Unit {0}}) (unless_is b reason) d)

-- nothing is done but to give a value, of which something is known only where the run goes on

given_from : {A : Type 0} (v : ℕ → Bool) (l : List Location) (e : Ends) (a else' : A) (Good : A → Type 0) → (v e.live.at ≡ true → Good a) → Good else'
    → (s : Standing (Unit {0})) → Stands v l e (Any {A = Unit {0}}) s → Stands v l e Good (after s (λ u. done a))
given_from v l e a else' Good on over (On u w) h =
    record {
      store = h.store;
      tells = record { live = h.tells.live; asides = h.tells.asides; bads = h.tells.bads };
      given = a;
      good = on h.tells.live;
      is = refl;
    }
given_from v l e a else' Good on over (Over x w) h =
    record {
      store = h.store;
      tells = record { live = h.tells.live; asides = h.tells.asides; bads = h.tells.bads };
      given = else';
      good = over;
      is = tt;
    }

pub does_give : {A : Type 0} (v : ℕ → Bool) (l : List Location) (e : Ends) (a else' : A) (Good : A → Type 0) → (v e.live.at ≡ true → Good a) → Good else'
    → Does v l e (done a) l e Good
does_give v l e a else' Good on over = record { does = given_from v l e a else' Good on over }
