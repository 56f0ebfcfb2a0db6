-- A run that ends for a reason where a gate holds.
use Rattle.std.proofs.Common.{◌≡◌, ℕ, ◌<◌, nat_eq, Bool, true, false, not, ◌&&◌, ◌||◌, if◌then◌else◌, Some, List, length, refl, sym, ◌∙◌, ap, subst, eqb-true}
use Rattle.gl_store.specs.declared.stores.Location.{Location}
use Rattle.gl_store.specs.Meets.{MeetsAll}
use Rattle.sc_world.specs.World.{World, Ended, done, ends}
use Rattle.gate_runs.specs.declared.ends.Ends.{Ends}
use Rattle.gate_runs.specs.Standing.{Standing, On, Over, stand, after, is_aside, is_bad}
use Rattle.gate_runs.specs.Stands.{Stands, Tells, Does, Any, told, ends_where}

pub or_false : (b : Bool) → b || false ≡ b
or_false true = refl
or_false false = refl

and_false : (b : Bool) → b && false ≡ false
and_false true = refl
and_false false = refl

and_true : (b : Bool) → b && true ≡ b
and_true true = refl
and_true false = refl

-- one of many is or-ed
pub put_or : (f : ℕ → Bool) (k j : ℕ) (b c : Bool) → nat_eq k j ≡ c → (if c then f k || b else f j) ≡ f j || (c && b)
put_or f k j b true is = ap (λ i. f i || b) (eqb-true k j is)
put_or f k j b false is = sym (or_false (f j))

-- What the new gates say, from what the old ones said, where the run ends so.
pub record Ended' (v : ℕ → Bool) (when : ℕ) (e : Ended) (old new : Ends) : Type 0 where
  pub live : v new.live.at ≡ v old.live.at && not (v when)
  pub asides : (j : ℕ) → told v new.asides.items j ≡ told v old.asides.items j || (is_aside j (Some e) && (v old.live.at && v when))
  pub bads : (j : ℕ) → told v new.bads.items j ≡ told v old.bads.items j || (is_bad j (Some e) && (v old.live.at && v when))
  pub len : length new.bads.items ≡ length old.bads.items

-- one gate of those that tell how it ended: it stays where the run does not end here, and tells the end where it does
stays : (old new is ends : Bool) → new ≡ old || (is && ends) → ends ≡ false → new ≡ old
stays old new is ends says none = says ∙ ap (λ b. old || (is && b)) none ∙ ap (λ b. old || b) (and_false is) ∙ or_false old

tells : (old new is ends : Bool) → new ≡ old || (is && ends) → ends ≡ true → old ≡ false → new ≡ is
tells old new is ends says some never = says ∙ ap (λ b. b || (is && ends)) never ∙ ap (λ b. is && b) some ∙ and_true is

module _ (v : ℕ → Bool) (when : ℕ) (e : Ended) (old new : Ends) (h : Ended' v when e old new) where
  -- where the run goes on and the gate does not hold, or where it is over, nothing changes
  kept : {A : Type 0} (s : Standing A) → v old.live.at && v when ≡ false → v old.live.at && not (v when) ≡ v old.live.at
      → Tells v old s → Tells v new s
  kept s none same t =
      record {
        live = h.live ∙ same ∙ t.live;
        asides = λ j low. stays _ _ _ _ (h.asides j) none ∙ t.asides j low;
        bads = λ j low. stays _ _ _ _ (h.bads j) none ∙ t.bads j (subst (λ n. j < n) h.len low);
      }

  -- it ends here
  ends_here : (u : Unit {0}) (w : World) → v old.live.at ≡ true → v when ≡ true → Tells v old (On u w)
      → Tells {A = Unit {0}} v new (Over (Some e) w)
  ends_here u w live holds t =
      let both : v old.live.at && v when ≡ true = ap (λ b. b && v when) live ∙ holds in
      record {
        live = h.live ∙ ap (λ b. v old.live.at && not b) holds ∙ and_false (v old.live.at);
        asides = λ j low. tells _ _ _ _ (h.asides j) both (t.asides j low);
        bads = λ j low. tells _ _ _ _ (h.bads j) both (t.bads j (subst (λ n. j < n) h.len low));
      }

  on_at : (l : List Location) (u : Unit {0}) (w : World) (b : Bool) → v when ≡ b → Stands v l old (Any {A = Unit {0}}) (On u w)
      → Stands v l new (Any {A = Unit {0}}) (stand ((if b then ends e else done tt) w))
  on_at l u w true is hs =
      record { store = hs.store; tells = ends_here u w hs.tells.live is hs.tells; given = tt; good = tt; is = tt }
  on_at l u w false is hs =
      let t = kept (On u w) (ap (λ b. v old.live.at && b) is ∙ and_false (v old.live.at)) (ap (λ b. v old.live.at && not b) is ∙ and_true (v old.live.at)) hs.tells in
      record { store = hs.store; tells = record { live = t.live; asides = t.asides; bads = t.bads }; given = tt; good = tt; is = refl }

  stands : (l : List Location) (test : World → Bool) → ((w : World) → MeetsAll v l w.places → v when ≡ test w) → (s : Standing (Unit {0}))
      → Stands v l old (Any {A = Unit {0}}) s → Stands v l new (Any {A = Unit {0}}) (after s (λ u. ends_where test e))
  stands l test says (On u w) hs = on_at l u w (test w) (says w hs.store) hs
  stands l test says (Over x w) hs =
      record {
        store = hs.store;
        tells = kept (Over x w) (ap (λ b. b && v when) hs.tells.live) (ap (λ b. b && not (v when)) hs.tells.live ∙ sym hs.tells.live) hs.tells;
        given = tt;
        good = tt;
        is = tt;
      }

  pub ended : (l : List Location) (test : World → Bool) → ((w : World) → MeetsAll v l w.places → v when ≡ test w)
      → Does v l old (ends_where test e) l new (Any {A = Unit {0}})
  ended l test says = record { does = stands l test says }
