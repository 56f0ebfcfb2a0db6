-- A step that is done to some things one after the other.
use Rattle.std.proofs.Common.{◌≡◌, ℕ, ◌+◌, ◌<◌, ◌≤◌, Bool, List, [], ◌∷◌, ◌++◌, length, take, get_or, Result, Ok, Err, refl, sym, ◌∙◌, ap, subst}
use Rattle.std.specs.Prelude.{Option}
use Rattle.std.proofs.lemmas.List.{take_more, take_all}
use Rattle.bit_net.specs.declared.nodes.Node.{Node}
use Rattle.bit_net.specs.Runs.{Grown}
use Rattle.gl_sets.specs.declared.pairs.Pair.{Pair}
use Rattle.gl_store.specs.declared.stores.Location.{Location}
use Rattle.gl_store.specs.Meets.{locations_top}
use Rattle.sc_world.specs.Source.{Source}
use Rattle.sc_world.specs.Layout.{Layout}
use Rattle.sc_world.specs.World.{World, Ended, Env, Run, ◌>>=◌, goes_on, bit_at, done}
use Rattle.gate_runs.specs.declared.ends.Ends.{Ends}
use Rattle.gate_runs.specs.Stands.{Does, Any}
use Rattle.gate_runs.proofs.Bind.{bind, does_done}
use Rattle.gate_steps.proofs.Known.{does_same}
use Rattle.gate_places.specs.Places.{env_of}
use Rattle.gate_paths.specs.Paths.{IsFound}
use Rattle.gate_paths.specs.Gathered.{AreFound, Shows, found_list}
use Rattle.gate_sets.specs.Each.{DoesEach, DoesOne, each}

module _ {Y : Type 0} (step : Y → Run (Unit {0})) where
  after_first : (ys zs : List Y) (r : Result (Unit {0}) Ended × World)
      → ((w : World) → goes_on (each step ys w) (λ u. each step zs) ≡ each step (ys ++ zs) w)
      → goes_on (goes_on r (λ u. each step ys)) (λ u. each step zs) ≡ goes_on r (λ u. each step (ys ++ zs))
  after_first ys zs (Ok u, w) h = h w
  after_first ys zs (Err e, w) h = refl

  each_more : (ys zs : List Y) (w : World) → goes_on (each step ys w) (λ u. each step zs) ≡ each step (ys ++ zs) w
  each_more [] zs w = refl
  each_more (y ∷ ys) zs w = after_first ys zs (step y w) (each_more ys zs)

-- What sets show of things, and of one thing behind them.

record Split {F Y : Type 0} (v : ℕ → Bool) (at : F → List Pair) (put : F → Option ℕ → List Y → List Y) (fs : List F) (f : F) (ys : List Y) : Type 0 where
  init : List Y
  last : Option ℕ
  shown : Shows v at put fs init
  found : IsFound v (at f) last
  is : ys ≡ init ++ put f last []

module _ {F Y : Type 0} (v : ℕ → Bool) (at : F → List Pair) (put : F → Option ℕ → List Y → List Y)
    (before : (f : F) (o : Option ℕ) (ys zs : List Y) → put f o (ys ++ zs) ≡ put f o ys ++ zs) where
  split : (fs : List F) (f : F) (os : List (Option ℕ)) → AreFound v at (fs ++ f ∷ []) os → Split v at put fs f (found_list put (fs ++ f ∷ []) os)
  split [] f [] h = absurd h
  split [] f (o ∷ []) h = record { init = []; last = o; shown = record { places = []; found = tt; is = refl }; found = h.0; is = refl }
  split [] f (o ∷ q ∷ os) h = absurd h.1
  split (g ∷ fs) f [] h = absurd h
  split (g ∷ fs) f (o ∷ os) h =
      let r = split fs f os h.1 in
      record {
        init = put g o r.init;
        last = r.last;
        shown = record { places = o ∷ r.shown.places; found = (h.0, r.shown.found); is = ap (put g o) r.shown.is };
        found = r.found;
        is = ap (put g o) r.is ∙ before g o r.init (put f r.last []);
      }

module _ {F Y : Type 0} (s : Source) (p : Layout) (gates : Ends) (at : F → List Pair) (put : F → Option ℕ → List Y → List Y) (step : Env → Y → Run (Unit {0}))
  where
    pub each_none : (ns : List Node) (fs : List F) (l : List Location) → locations_top l ≤ length ns → DoesEach s p ns gates at put step (take 0 fs) l l
    each_none ns fs l top =
        record {
          top = top;
          same = refl;
          does = λ bits v runs few temps turn ys shown.
              subst (λ zs. Does v l gates (each (step (env_of s p bits temps turn)) zs) l gates (Any {A = Unit {0}})) (sym shown.is)
              (does_done v l gates tt (Any {A = Unit {0}}) tt);
        }

    each_push : (n1 n2 : List Node) (fs : List F) (f : F) (l0 l1 l2 : List Location) → ((f : F) (o : Option ℕ) (ys zs : List Y) → put f o (ys ++ zs) ≡ put f o ys ++ zs) → Grown n1 n2 → DoesEach s p n1 gates at put step fs l0 l1
        → DoesOne s p n2 gates at put step f l1 l2 → DoesEach s p n2 gates at put step (fs ++ f ∷ []) l0 l2
    each_push n1 n2 fs f l0 l1 l2 before grown so_far one =
        record {
          top = one.top;
          same = one.same ∙ so_far.same;
          does = λ bits v runs few temps turn ys shown.
              let env = env_of s p bits temps turn in
              let cut : Split v at put fs f (found_list put (fs ++ f ∷ []) shown.places) = split v at put before fs f shown.places shown.found in
              subst (λ zs. Does v l0 gates (each (step env) zs) l2 gates (Any {A = Unit {0}})) (sym (shown.is ∙ cut.is))
              (does_same v l0 l2 gates gates (each (step env) cut.init >>= λ u. each (step env) (put f cut.last []))
              (each (step env) (cut.init ++ put f cut.last [])) (Any {A = Unit {0}}) (each_more (step env) cut.init (put f cut.last []))
              (bind v l0 l1 l2 gates gates gates (each (step env) cut.init) (λ u. each (step env) (put f cut.last [])) (Any {A = Unit {0}}) (Any {A = Unit {0}})
              (so_far.does bits v (grown.runs (bit_at bits) v runs) few temps turn cut.init cut.shown)
              (λ u good. one.does bits v runs few temps turn cut.last cut.found)));
        }

    pub each_step : (n1 n2 : List Node) (i : ℕ) (fs : List F) (f : F) (l0 l1 l2 : List Location) → ((f : F) (o : Option ℕ) (ys zs : List Y) → put f o (ys ++ zs) ≡ put f o ys ++ zs) → i < length fs → f ≡ get_or fs i f → Grown n1 n2
        → DoesEach s p n1 gates at put step (take i fs) l0 l1 → DoesOne s p n2 gates at put step f l1 l2 → DoesEach s p n2 gates at put step (take (i + 1) fs) l0 l2
    each_step n1 n2 i fs f l0 l1 l2 before low is grown so_far one =
        subst (λ gs. DoesEach s p n2 gates at put step gs l0 l2) (sym (take_more fs i f low ∙ ap (λ g. take i fs ++ g ∷ []) (sym is)))
        (each_push n1 n2 (take i fs) f l0 l1 l2 before grown so_far one)

    pub each_all : (ns : List Node) (i : ℕ) (fs : List F) (l0 l1 : List Location) → length fs ≤ i → DoesEach s p ns gates at put step (take i fs) l0 l1
        → DoesEach s p ns gates at put step fs l0 l1
    each_all ns i fs l0 l1 high h = subst (λ gs. DoesEach s p ns gates at put step gs l0 l1) (take_all i fs high) h
