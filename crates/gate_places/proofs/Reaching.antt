-- A pointer is followed to a location of whatever type: its three checks, one after the other, are what a run does.
use Rattle.std.proofs.Common.{◌≡◌, ℕ, zero, suc, Bool, true, false, not, List, Result, Ok, Err, refl, sym, ap, subst}
use Rattle.bit_net.specs.declared.nodes.Node.{Node}
use Rattle.bit_net.specs.Runs.{Grown}
use Rattle.gl_sets.specs.declared.pairs.Pair.{Pair}
use Rattle.gl_sets.specs.Guards.{Points}
use Rattle.gl_store.specs.declared.stores.Location.{Location}
use Rattle.run_store.specs.declared.Flag.TheVariants as flag
use Rattle.run_store.specs.Concrete.{Cell, Pointer, flag_at}
use Rattle.sc_world.specs.declared.run.Reason.TheVariants as reason
use Rattle.sc_world.specs.Tree.{Ty}
use Rattle.sc_world.specs.Source.{Source}
use Rattle.sc_world.specs.Layout.{Layout, location, is_stub}
use Rattle.sc_world.specs.World.{World, Ended, Run, ◌>>=◌, goes_on, done, unless, reach}
use Rattle.gate_runs.specs.declared.ends.Ends.{Ends}
use Rattle.gate_runs.specs.Stands.{Does, Any, aside_where}
use Rattle.gate_runs.proofs.Bind.{bind, does_done}
use Rattle.gate_steps.proofs.Known.{does_same, does_tell}
use Rattle.gate_places.specs.declared.checks.Check.TheVariants as check
use Rattle.gate_places.specs.Checks.{DoesCheck}
use Rattle.gate_places.specs.Places.{DoesReach, Leads, env_of}
use Rattle.gate_places.proofs.Dereferencing.{before, checks}

abbrev behind_freed : Layout → Ty → (target : ℕ) → Run ℕ
behind_freed p t target = checks check.Freed p t target >>= λ _. done (before target)

abbrev behind_stub : Layout → Ty → (target : ℕ) → Run ℕ
behind_stub p t target = checks check.Reach p t target >>= λ _. behind_freed p t target

abbrev checked : Layout → Ty → (target : ℕ) → Run ℕ
checked p t target = checks check.Null p t target >>= λ _. behind_stub p t target

freed_same : (b : Bool) (at : ℕ) (w : World)
    → goes_on (unless (not b) reason.Freed w) (λ _. done at) ≡ goes_on (aside_where (λ u. b) reason.Freed w) (λ _. done at)
freed_same true at w = refl
freed_same false at w = refl

stub_same : (b : Bool) (freed : World → Bool) (at : ℕ) (w : World)
    → goes_on (unless (not b) reason.Reach w) (λ _. (λ u. unless (not (freed u)) reason.Freed u) >>= λ _. done at)
    ≡ goes_on (aside_where (λ u. b) reason.Reach w) (λ _. aside_where freed reason.Freed >>= λ _. done at)
stub_same true freed at w = refl
stub_same false freed at w = freed_same (freed w) at w

module _ (s : Source) (p : Layout) (t : Ty) (bits : List Bool) (temps : List Cell) (turn : ℕ) where
  checked_same : (target : ℕ) (w : World) → checked p t target w ≡ reach (env_of s p bits temps turn) (Pointer target) w
  checked_same zero w = refl
  checked_same (suc at) w = sym (stub_same (is_stub (location p at)) (λ u. flag_at u.places (location p at).root flag.Freed) at w)

abbrev passed : {A : Type 0} → Result A Ended × World → Bool
passed (Ok a, w) = true
passed (Err e, w) = false

abbrev given : Result ℕ Ended × World → ℕ
given (Ok a, w) = a
given (Err e, w) = 0

freed_known : (b : Bool) (at : ℕ) (w : World) (a : ℕ) (u : World) → goes_on (unless (not b) reason.Freed w) (λ _. done at) ≡ (Ok a, u) → at ≡ a
freed_known true at w a u e = let no : false ≡ true = ap passed e in absurd (cc)
freed_known false at w a u e = ap given e

stub_known : (b : Bool) (freed : World → Bool) (at : ℕ) (w : World) (a : ℕ) (u : World)
    → goes_on (unless (not b) reason.Reach w) (λ _. (λ x. unless (not (freed x)) reason.Freed x) >>= λ _. done at) ≡ (Ok a, u)
    → (at ≡ a) × (b ≡ false)
stub_known true freed at w a u e = let no : false ≡ true = ap passed e in absurd (cc)
stub_known false freed at w a u e = (freed_known (freed w) at w a u e, refl)

module _ (s : Source) (p : Layout) (bits : List Bool) (temps : List Cell) (turn : ℕ) where
  reached : (target : ℕ) (w : World) (a : ℕ) (u : World) → reach (env_of s p bits temps turn) (Pointer target) w ≡ (Ok a, u)
      → (target ≡ suc a) × (is_stub (location p a) ≡ false)
  reached zero w a u e = let no : false ≡ true = ap passed e in absurd (cc)
  reached (suc at) w a u e =
      let h = stub_known (is_stub (location p at)) (λ x. flag_at x.places (location p at).root flag.Freed) at w a u e in
      (ap suc h.0, subst (λ k. is_stub (location p k) ≡ false) h.0 h.1)

never : (b : Bool) {P : Type 0} → b ≡ false → b ≡ true → P
never true off on = absurd (cc)
never false off on = absurd (cc)

module _ (v : ℕ → Bool) (p : Layout) (t : Ty) (l : List Location) (pointer : List Pair) (g0 g1 g2 g3 : Ends) (target : ℕ)
    (null : Does v l g0 (checks check.Null p t target) l g1 (Any {A = Unit {0}}))
    (stub : Does v l g1 (checks check.Reach p t target) l g2 (Any {A = Unit {0}}))
    (freed : Does v l g2 (checks check.Freed p t target) l g3 (Any {A = Unit {0}})) where
  does_checked : Does v l g0 (checked p t target) l g3 (Any {A = ℕ})
  does_checked =
      bind v l l l g0 g1 g3 (checks check.Null p t target) (λ _. behind_stub p t target) (Any {A = Unit {0}}) (Any {A = ℕ}) null (λ _ _.
      bind v l l l g1 g2 g3 (checks check.Reach p t target) (λ _. behind_freed p t target) (Any {A = Unit {0}}) (Any {A = ℕ}) stub (λ _ _.
      bind v l l l g2 g3 g3 (checks check.Freed p t target) (λ _. done (before target)) (Any {A = Unit {0}}) (Any {A = ℕ}) freed (λ _ _.
      does_done v l g3 (before target) (Any {A = ℕ}) tt)))

  reach_does : (s : Source) (bits : List Bool) (temps : List Cell) (turn : ℕ) → Points v pointer target
      → Does v l g0 (reach (env_of s p bits temps turn) (Pointer target)) l g3 (Leads v g3 pointer p)
  reach_does s bits temps turn points =
      does_tell v l l g0 g3 (reach (env_of s p bits temps turn) (Pointer target)) (Any {A = ℕ}) (Leads v g3 pointer p)
      (λ w met a u e good.
      let h = reached s p bits temps turn target w a u e in
      record { leads = record { target = target; points = points; there = λ on. h.0 }; real = λ on. h.1 })
      (λ a off good.
      record {
        leads = record { target = target; points = points; there = λ on. never (v g3.live.at) off on };
        real = λ on. never (v g3.live.at) off on;
      })
      (does_same v l l g0 g3 (checked p t target) (reach (env_of s p bits temps turn) (Pointer target)) (Any {A = ℕ})
      (checked_same s p t bits temps turn target) does_checked)

pub does_reach : (n1 n2 n3 : List Node) (p : Layout) (t : Ty) (l : List Location) (pointer : List Pair) (g0 g1 g2 g3 : Ends)
    → Grown n1 n2 → Grown n2 n3 → DoesCheck n1 p t l check.Null pointer g0 g1 → DoesCheck n2 p t l check.Reach pointer g1 g2
    → DoesCheck n3 p t l check.Freed pointer g2 g3 → DoesReach n3 p l pointer g0 g3
does_reach n1 n2 n3 p t l pointer g0 g1 g2 g3 grown12 grown23 null stub freed =
    record {
      does = λ choice v runs s bits temps turn target points.
          let r2 = grown23.runs choice v runs in
          let r1 = grown12.runs choice v r2 in
          reach_does v p t l pointer g0 g1 g2 g3 target (null.does choice v r1 target points) (stub.does choice v r2 target points)
          (freed.does choice v runs target points) s bits temps turn points;
    }
