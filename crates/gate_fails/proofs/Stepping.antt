-- Steps of gates that do what another run does, and acts on the targets of a set.
use Rattle.std.proofs.Common.{◌≡◌, ℕ, Bool, true, false, if◌then◌else◌, Option, Some, None, List, [], ◌∷◌, ◌++◌, Result, Ok, Err, refl, sym, ◌∙◌, ap, subst}
use Rattle.gl_sets.specs.declared.pairs.Pair.{Pair}
use Rattle.gl_sets.specs.Guards.{held}
use Rattle.gl_store.specs.declared.stores.Location.{Location}
use Rattle.gl_store.specs.Meets.{MeetsAll}
use Rattle.sc_world.specs.World.{World, Ended, Run, ◌>>=◌, goes_on, done}
use Rattle.gate_runs.specs.declared.ends.Ends.{Ends}
use Rattle.gate_runs.specs.Standing.{Standing, On, Over, stand, after}
use Rattle.gate_runs.specs.Stands.{Stands, Does, Any}
use Rattle.gate_acts.specs.Acts.{where_held, acts_on}

-- the same run but for the trace
abbrev pub Agrees : {A : Type 0} → Result A Ended × World → Result A Ended × World → Type 0
Agrees (Ok a, u) (Ok b, w) = (a ≡ b) × (u.places ≡ w.places)
Agrees (Err e, u) (Err f, w) = (e ≡ f) × (u.places ≡ w.places)
Agrees _ _ = ⊥

agrees_at : {A : Type 0} (v : ℕ → Bool) (l : List Location) (e : Ends) (Good : A → Type 0) (r q : Result A Ended × World) → Agrees r q → Stands v l e Good (stand r) → Stands v l e Good (stand q)
agrees_at v l e Good (Ok a, u) (Ok b, w) h s =
    record {
      store = subst (λ ps. MeetsAll v l ps) h.1 s.store;
      tells = record { live = s.tells.live; asides = s.tells.asides; bads = s.tells.bads };
      given = s.given;
      good = s.good;
      is = sym h.0 ∙ s.is;
    }
agrees_at v l e Good (Err x, u) (Err y, w) h s =
    subst (λ z. Stands v l e Good (Over (Some z) w)) h.0
    (record {
      store = subst (λ ps. MeetsAll v l ps) h.1 s.store;
      tells = record { live = s.tells.live; asides = s.tells.asides; bads = s.tells.bads };
      given = s.given;
      good = s.good;
      is = tt;
    })
agrees_at v l e Good (Ok a, u) (Err y, w) h s = absurd h
agrees_at v l e Good (Err x, u) (Ok b, w) h s = absurd h

agrees_from : {A : Type 0} (v : ℕ → Bool) (l : List Location) (e : Ends) (m k : Run A) (Good : A → Type 0) → ((w : World) → Agrees (m w) (k w))
    → (s : Standing (Unit {0})) → Stands v l e Good (after s (λ u. m)) → Stands v l e Good (after s (λ u. k))
agrees_from v l e m k Good same (On u w) h = agrees_at v l e Good (m w) (k w) (same w) h
agrees_from v l e m k Good same (Over x w) h = h

pub does_agree : {A : Type 0} (v : ℕ → Bool) (l0 l1 : List Location) (e0 e1 : Ends) (m k : Run A) (Good : A → Type 0) → ((w : World) → Agrees (m w) (k w))
    → Does v l0 e0 m l1 e1 Good → Does v l0 e0 k l1 e1 Good
does_agree v l0 l1 e0 e1 m k Good same d = record { does = λ s h. agrees_from v l1 e1 m k Good same s (d.does s h) }

-- Acts on targets.

pub done_last : (r : Result (Unit {0}) Ended × World) → goes_on r (λ u. done tt) ≡ r
done_last (Ok u, w) = refl
done_last (Err e, w) = refl

pub acts_none : (v : ℕ → Bool) (f : ℕ → Run (Unit {0})) (w : World) → acts_on v f [] w ≡ done tt w
unfolding acts_on
acts_none v f w = refl

push_at : (v : ℕ → Bool) (f : ℕ → Run (Unit {0})) (ps : List Pair) (p : Pair) (r : Result (Unit {0}) Ended × World)
    → ((w : World) → acts_on v f (ps ++ p ∷ []) w ≡ goes_on (acts_on v f ps w) (λ u. where_held (v p.guard.at) (f p.target)))
    → goes_on r (λ u. acts_on v f (ps ++ p ∷ [])) ≡ goes_on (goes_on r (λ u. acts_on v f ps)) (λ u. where_held (v p.guard.at) (f p.target))
push_at v f ps p (Ok u, w) h = h w
push_at v f ps p (Err e, w) h = refl

pub acts_push : (v : ℕ → Bool) (f : ℕ → Run (Unit {0})) (ps : List Pair) (p : Pair) (w : World)
    → acts_on v f (ps ++ p ∷ []) w ≡ goes_on (acts_on v f ps w) (λ u. where_held (v p.guard.at) (f p.target))
unfolding acts_on
acts_push v f [] p w = done_last (where_held (v p.guard.at) (f p.target) w)
acts_push v f (q ∷ ps) p w = push_at v f ps p (where_held (v q.guard.at) (f q.target) w) (acts_push v f ps p)

-- none is held, so none is done
nothing_held : (v : ℕ → Bool) (f : ℕ → Run (Unit {0})) (ps : List Pair) → held v ps ≡ [] → (w : World) → acts_on v f ps w ≡ done tt w
unfolding acts_on held
nothing_held v f [] e w = refl
nothing_held v f (p ∷ ps) e w = by (v p.guard.at) e (λ h. nothing_held v f ps h w)
  where
    by : (b : Bool) → (if b then p.target ∷ held v ps else held v ps) ≡ [] → (held v ps ≡ [] → acts_on v f ps w ≡ done tt w)
        → goes_on (where_held b (f p.target) w) (λ u. acts_on v f ps) ≡ done tt w
    by true h rest = cc
    by false h rest = rest h

rest_of : (x y : ℕ) (xs : List ℕ) → x ∷ xs ≡ y ∷ [] → (x ≡ y) × (xs ≡ [])
rest_of x y xs e = (cc, cc)

after_one : (v : ℕ → Bool) (f : ℕ → Run (Unit {0})) (ps : List Pair) → held v ps ≡ [] → (r : Result (Unit {0}) Ended × World) → goes_on r (λ u. acts_on v f ps) ≡ r
after_one v f ps e (Ok u, w) = nothing_held v f ps e w
after_one v f ps e (Err x, w) = refl

-- one target is held, and the act on it is done
pub acts_held : (v : ℕ → Bool) (f : ℕ → Run (Unit {0})) (ps : List Pair) (t : ℕ) → held v ps ≡ t ∷ [] → (w : World) → acts_on v f ps w ≡ f t w
unfolding acts_on held
acts_held v f [] t e w = cc
acts_held v f (p ∷ ps) t e w = by (v p.guard.at) e (λ h. acts_held v f ps t h w)
  where
    by : (b : Bool) → (if b then p.target ∷ held v ps else held v ps) ≡ t ∷ [] → (held v ps ≡ t ∷ [] → acts_on v f ps w ≡ f t w)
        → goes_on (where_held b (f p.target) w) (λ u. acts_on v f ps) ≡ f t w
    by true h rest = let parts = rest_of p.target t (held v ps) h in after_one v f ps parts.1 (f p.target w) ∙ ap (λ k. f k w) parts.0
    by false h rest = rest h
