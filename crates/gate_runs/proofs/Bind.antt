-- Steps of gates one after the other do what steps of runs do one after the other. No step needs to know whether the
-- run goes on.
use Rattle.std.proofs.Common.{ℕ, Bool, Option, Some, List, Result, Ok, Err, refl, sym, subst}
use Rattle.gl_store.specs.declared.stores.Location.{Location}
use Rattle.sc_world.specs.World.{World, Ended, Run, ◌>>=◌, goes_on, done}
use Rattle.gate_runs.specs.declared.ends.Ends.{Ends}
use Rattle.gate_runs.specs.Standing.{Standing, On, Over, stand, after}
use Rattle.gate_runs.specs.Stands.{Stands, Does, Any}

-- what is known of where a run stands, without what it gave
went_on : {A : Type 0} (v : ℕ → Bool) (l : List Location) (g : Ends) (Good : A → Type 0) (a : A) (w : World) → Stands v l g Good (On a w)
    → Stands v l g (Any {A = Unit {0}}) (On tt w)
went_on v l g Good a w h =
    record {
      store = h.store;
      tells = record { live = h.tells.live; asides = h.tells.asides; bads = h.tells.bads };
      given = tt;
      good = tt;
      is = refl;
    }

was_over : {A : Type 0} (v : ℕ → Bool) (l : List Location) (g : Ends) (Good : A → Type 0) (e : Option Ended) (w : World)
    → Stands v l g Good (Over e w) → Stands v l g (Any {A = Unit {0}}) (Over e w)
was_over v l g Good e w h =
    record {
      store = h.store;
      tells = record { live = h.tells.live; asides = h.tells.asides; bads = h.tells.bads };
      given = tt;
      good = tt;
      is = tt;
    }

bind_at : {A B : Type 0} (v : ℕ → Bool) (l1 l2 : List Location) (e1 e2 : Ends) (f : A → Run B) (Good : A → Type 0) (Fine : B → Type 0)
    (r : Result A Ended × World) → Stands v l1 e1 Good (stand r) → ((a : A) → Good a → Does v l1 e1 (f a) l2 e2 Fine)
    → Stands v l2 e2 Fine (stand (goes_on r f))
bind_at v l1 l2 e1 e2 f Good Fine (Ok b, w) h next =
    subst (λ a. Stands v l2 e2 Fine (stand (f a w))) (sym h.is)
    ((next h.given h.good).does (On tt w) (went_on v l1 e1 Good b w h))
bind_at v l1 l2 e1 e2 f Good Fine (Err e, w) h next =
    (next h.given h.good).does (Over (Some e) w) (was_over v l1 e1 Good (Some e) w h)

bind_from : {A B : Type 0} (v : ℕ → Bool) (l0 l1 l2 : List Location) (e0 e1 e2 : Ends) (m : Run A) (f : A → Run B) (Good : A → Type 0) (Fine : B → Type 0)
    (s : Standing (Unit {0})) → Stands v l1 e1 Good (after s (λ u. m)) → ((a : A) → Good a → Does v l1 e1 (f a) l2 e2 Fine)
    → Stands v l2 e2 Fine (after s (λ u. m >>= f))
bind_from v l0 l1 l2 e0 e1 e2 m f Good Fine (On u w) h next = bind_at v l1 l2 e1 e2 f Good Fine (m w) h next
bind_from v l0 l1 l2 e0 e1 e2 m f Good Fine (Over e w) h next =
    (next h.given h.good).does (Over e w) (was_over v l1 e1 Good e w h)

pub bind : {A B : Type 0} (v : ℕ → Bool) (l0 l1 l2 : List Location) (e0 e1 e2 : Ends) (m : Run A) (f : A → Run B) (Good : A → Type 0) (Fine : B → Type 0)
    → Does v l0 e0 m l1 e1 Good → ((a : A) → Good a → Does v l1 e1 (f a) l2 e2 Fine) → Does v l0 e0 (m >>= f) l2 e2 Fine
bind v l0 l1 l2 e0 e1 e2 m f Good Fine first next =
    record { does = λ s h. bind_from v l0 l1 l2 e0 e1 e2 m f Good Fine s (first.does s h) next }

done_from : {A : Type 0} (v : ℕ → Bool) (l : List Location) (e : Ends) (a : A) (Good : A → Type 0) → Good a → (s : Standing (Unit {0}))
    → Stands v l e (Any {A = Unit {0}}) s → Stands v l e Good (after s (λ u. done a))
done_from v l e a Good good (On u w) h =
    record {
      store = h.store;
      tells = record { live = h.tells.live; asides = h.tells.asides; bads = h.tells.bads };
      given = a;
      good = good;
      is = refl;
    }
done_from v l e a Good good (Over r w) h =
    record {
      store = h.store;
      tells = record { live = h.tells.live; asides = h.tells.asides; bads = h.tells.bads };
      given = a;
      good = good;
      is = tt;
    }

-- nothing is done
pub does_done : {A : Type 0} (v : ℕ → Bool) (l : List Location) (e : Ends) (a : A) (Good : A → Type 0) → Good a → Does v l e (done a) l e Good
does_done v l e a Good good =
    record { does = λ s h. done_from v l e a Good good s h }
