-- A pointer is followed: its checks, one after the other, are what a run does.
use Rattle.std.proofs.Common.{◌≡◌, ℕ, zero, suc, Bool, true, false, not, List, Result, Ok, Err, refl, sym, ap, subst}
use Rattle.bit_net.specs.declared.nodes.Node.{Node}
use Rattle.bit_net.specs.Runs.{Grown}
use Rattle.gl_sets.specs.declared.pairs.Pair.{Pair}
use Rattle.gl_sets.specs.Guards.{Points}
use Rattle.gl_store.specs.declared.stores.Location.{Location}
use Rattle.run_store.specs.declared.Flag.TheVariants as flag
use Rattle.run_store.specs.Concrete.{Cell, Pointer, flag_at}
use Rattle.sc_world.specs.declared.run.Reason.TheVariants as reason
use Rattle.sc_world.specs.Tree.{Ty}
use Rattle.sc_world.specs.Source.{Source}
use Rattle.sc_world.specs.Layout.{Layout, location, is_stub, has_type}
use Rattle.sc_world.specs.World.{World, Ended, Run, ◌>>=◌, goes_on, done, unless, dereference}
use Rattle.gate_runs.specs.declared.ends.Ends.{Ends}
use Rattle.gate_runs.specs.Stands.{Does, Any, aside_where}
use Rattle.gate_runs.proofs.Bind.{bind, does_done}
use Rattle.gate_steps.proofs.Known.{does_same, does_tell}
use Rattle.gate_places.specs.declared.checks.Check.{Check}
use Rattle.gate_places.specs.declared.checks.Check.TheVariants as check
use Rattle.gate_places.specs.Checks.{DoesCheck, fails, reason_of}
use Rattle.gate_places.specs.Places.{DoesFollow, Reaches, env_of}

-- the location that a target is
abbrev pub before : (target : ℕ) → ℕ
before zero = 0
before (suc at) = at

-- the check that a run makes of a target
abbrev pub checks : Check → Layout → Ty → (target : ℕ) → Run (Unit {0})
checks c p t target = aside_where (λ w. fails c p t w.places target) (reason_of c)

abbrev behind_type : Layout → Ty → (target : ℕ) → Run ℕ
behind_type p t target = checks check.Type p t target >>= λ _. done (before target)

abbrev behind_freed : Layout → Ty → (target : ℕ) → Run ℕ
behind_freed p t target = checks check.Freed p t target >>= λ _. behind_type p t target

abbrev behind_reach : Layout → Ty → (target : ℕ) → Run ℕ
behind_reach p t target = checks check.Reach p t target >>= λ _. behind_freed p t target

abbrev checked : Layout → Ty → (target : ℕ) → Run ℕ
checked p t target = checks check.Null p t target >>= λ _. behind_reach p t target

-- The steps of a run, for what the tests give.

typed_same : (b : Bool) (at : ℕ) (w : World)
    → goes_on (unless b reason.Type w) (λ _. done at) ≡ goes_on (aside_where (λ u. not b) reason.Type w) (λ _. done at)
typed_same true at w = refl
typed_same false at w = refl

freed_same : (b : Bool) (typed : ℕ → Bool) (at : ℕ) (w : World)
    → goes_on (goes_on (unless (not b) reason.Freed w) (λ _. done at)) (λ a. unless (typed a) reason.Type >>= λ _. done a)
    ≡ goes_on (aside_where (λ u. b) reason.Freed w) (λ _. aside_where (λ u. not (typed at)) reason.Type >>= λ _. done at)
freed_same true typed at w = refl
freed_same false typed at w = typed_same (typed at) at w

stub_same : (b : Bool) (freed : World → Bool) (typed : ℕ → Bool) (at : ℕ) (w : World)
    → goes_on (goes_on (unless (not b) reason.Reach w) (λ _. (λ u. unless (not (freed u)) reason.Freed u) >>= λ _. done at))
    (λ a. unless (typed a) reason.Type >>= λ _. done a)
    ≡ goes_on (aside_where (λ u. b) reason.Reach w)
    (λ _. aside_where freed reason.Freed >>= λ _. aside_where (λ u. not (typed at)) reason.Type >>= λ _. done at)
stub_same true freed typed at w = refl
stub_same false freed typed at w = freed_same (freed w) typed at w

module _ (s : Source) (p : Layout) (t : Ty) (bits : List Bool) (temps : List Cell) (turn : ℕ) where
  checked_same : (target : ℕ) (w : World) → checked p t target w ≡ dereference (env_of s p bits temps turn) t (Pointer target) w
  checked_same zero w = refl
  checked_same (suc at) w =
      sym (stub_same (is_stub (location p at)) (λ u. flag_at u.places (location p at).root flag.Freed) (λ a. has_type (location p a) t) at w)

-- What is known where a pointer was followed.

abbrev passed : {A : Type 0} → Result A Ended × World → Bool
passed (Ok a, w) = true
passed (Err e, w) = false

abbrev given : Result ℕ Ended × World → ℕ
given (Ok a, w) = a
given (Err e, w) = 0

typed_known : (b : Bool) (at : ℕ) (w : World) (a : ℕ) (u : World) → goes_on (unless b reason.Type w) (λ _. done at) ≡ (Ok a, u)
    → (at ≡ a) × (b ≡ true)
typed_known true at w a u e = (ap given e, refl)
typed_known false at w a u e = let no : false ≡ true = ap passed e in absurd (cc)

freed_known : (b : Bool) (typed : ℕ → Bool) (at : ℕ) (w : World) (a : ℕ) (u : World)
    → goes_on (goes_on (unless (not b) reason.Freed w) (λ _. done at)) (λ a. unless (typed a) reason.Type >>= λ _. done a) ≡ (Ok a, u)
    → (at ≡ a) × (typed at ≡ true)
freed_known true typed at w a u e = let no : false ≡ true = ap passed e in absurd (cc)
freed_known false typed at w a u e = typed_known (typed at) at w a u e

stub_known : (b : Bool) (freed : World → Bool) (typed : ℕ → Bool) (at : ℕ) (w : World) (a : ℕ) (u : World)
    → goes_on (goes_on (unless (not b) reason.Reach w) (λ _. (λ x. unless (not (freed x)) reason.Freed x) >>= λ _. done at))
    (λ a. unless (typed a) reason.Type >>= λ _. done a) ≡ (Ok a, u)
    → (at ≡ a) × (typed at ≡ true)
stub_known true freed typed at w a u e = let no : false ≡ true = ap passed e in absurd (cc)
stub_known false freed typed at w a u e = freed_known (freed w) typed at w a u e

module _ (s : Source) (p : Layout) (t : Ty) (bits : List Bool) (temps : List Cell) (turn : ℕ) where
  followed : (target : ℕ) (w : World) (a : ℕ) (u : World) → dereference (env_of s p bits temps turn) t (Pointer target) w ≡ (Ok a, u)
      → (target ≡ suc a) × (has_type (location p a) t ≡ true)
  followed zero w a u e = let no : false ≡ true = ap passed e in absurd (cc)
  followed (suc at) w a u e =
      let h = stub_known (is_stub (location p at)) (λ x. flag_at x.places (location p at).root flag.Freed) (λ k. has_type (location p k) t) at w a u e in
      (ap suc h.0, subst (λ k. has_type (location p k) t ≡ true) h.0 h.1)

never : (b : Bool) {P : Type 0} → b ≡ false → b ≡ true → P
never true off on = absurd (cc)
never false off on = absurd (cc)

module _ (v : ℕ → Bool) (p : Layout) (t : Ty) (l : List Location) (pointer : List Pair) (g0 g1 g2 g3 g4 : Ends) (target : ℕ)
    (null : Does v l g0 (checks check.Null p t target) l g1 (Any {A = Unit {0}}))
    (reach : Does v l g1 (checks check.Reach p t target) l g2 (Any {A = Unit {0}}))
    (freed : Does v l g2 (checks check.Freed p t target) l g3 (Any {A = Unit {0}}))
    (typed : Does v l g3 (checks check.Type p t target) l g4 (Any {A = Unit {0}})) where
  does_checked : Does v l g0 (checked p t target) l g4 (Any {A = ℕ})
  does_checked =
      bind v l l l g0 g1 g4 (checks check.Null p t target) (λ _. behind_reach p t target) (Any {A = Unit {0}}) (Any {A = ℕ}) null (λ _ _.
      bind v l l l g1 g2 g4 (checks check.Reach p t target) (λ _. behind_freed p t target) (Any {A = Unit {0}}) (Any {A = ℕ}) reach (λ _ _.
      bind v l l l g2 g3 g4 (checks check.Freed p t target) (λ _. behind_type p t target) (Any {A = Unit {0}}) (Any {A = ℕ}) freed (λ _ _.
      bind v l l l g3 g4 g4 (checks check.Type p t target) (λ _. done (before target)) (Any {A = Unit {0}}) (Any {A = ℕ}) typed (λ _ _.
      does_done v l g4 (before target) (Any {A = ℕ}) tt))))

  follow_does : (s : Source) (bits : List Bool) (temps : List Cell) (turn : ℕ) → Points v pointer target
      → Does v l g0 (dereference (env_of s p bits temps turn) t (Pointer target)) l g4 (Reaches v g4 pointer p t)
  follow_does s bits temps turn points =
      does_tell v l l g0 g4 (dereference (env_of s p bits temps turn) t (Pointer target)) (Any {A = ℕ}) (Reaches v g4 pointer p t)
      (λ w met a u e good.
      let h = followed s p t bits temps turn target w a u e in
      record { leads = record { target = target; points = points; there = λ on. h.0 }; typed = λ on. h.1 })
      (λ a off good.
      record {
        leads = record { target = target; points = points; there = λ on. never (v g4.live.at) off on };
        typed = λ on. never (v g4.live.at) off on;
      })
      (does_same v l l g0 g4 (checked p t target) (dereference (env_of s p bits temps turn) t (Pointer target)) (Any {A = ℕ})
      (checked_same s p t bits temps turn target) does_checked)

pub does_follow : (n1 n2 n3 n4 : List Node) (p : Layout) (t : Ty) (l : List Location) (pointer : List Pair) (g0 g1 g2 g3 g4 : Ends)
    → Grown n1 n2 → Grown n2 n3 → Grown n3 n4 → DoesCheck n1 p t l check.Null pointer g0 g1 → DoesCheck n2 p t l check.Reach pointer g1 g2
    → DoesCheck n3 p t l check.Freed pointer g2 g3 → DoesCheck n4 p t l check.Type pointer g3 g4 → DoesFollow n4 p t l pointer g0 g4
does_follow n1 n2 n3 n4 p t l pointer g0 g1 g2 g3 g4 grown12 grown23 grown34 null reach freed typed =
    record {
      does = λ choice v runs s bits temps turn target points.
          let r3 = grown34.runs choice v runs in
          let r2 = grown23.runs choice v r3 in
          let r1 = grown12.runs choice v r2 in
          follow_does v p t l pointer g0 g1 g2 g3 g4 target (null.does choice v r1 target points) (reach.does choice v r2 target points)
          (freed.does choice v r3 target points) (typed.does choice v runs target points) s bits temps turn points;
    }
