-- Sets whose targets go elsewhere, and the objects that were freed.
use Rattle.std.proofs.Common.{◌≡◌, ℕ, zero, suc, ◌+◌, Bool, true, false, List, map, if◌then◌else◌, refl, sym, ◌∙◌, ap, subst, arith}
use Rattle.bit_net.specs.declared.nodes.Gate.{Gate}
use Rattle.bit_net.specs.declared.nodes.Node.{Node}
use Rattle.bit_net.specs.Runs.{Grown, Gives, Always}
use Rattle.gl_sets.specs.declared.pairs.Pair.{Pair}
use Rattle.gl_sets.specs.Guards.{Points, targets_of}
use Rattle.gl_sets.specs.Sets.{IsMoved, IsWhere, IsJoin}
use Rattle.gl_store.specs.declared.stores.Location.{Location}
use Rattle.gl_store.specs.Steps.{IsFlagAnywhere}
use Rattle.run_store.specs.declared.Flag.TheVariants as flag
use Rattle.sc_world.specs.Layout.{Layout, location}
use Rattle.gate_places.specs.Checks.{IsTest, HaveTests}
use Rattle.gate_paths.specs.declared.moves.Move.{Move}
use Rattle.gate_paths.specs.declared.moves.Move.TheVariants as move
use Rattle.gate_paths.specs.Targets.{Goes, IsUsable, gone, is_lost, unless_lost}

pub goes : (ns : List Node) (p : Layout) (m : Move) (from made : List Pair) (ts : List ℕ) → map (λ t. gone p m t) (targets_of from) ≡ ts
    → IsMoved ns from ts made
    → Goes ns p m from made
goes ns p m from made ts e is =
    record { below = is.below; points = λ choice v runs t points. is.points choice v runs (λ k. gone p m k) t e points }

-- Objects that were freed.

pub null_stays : (ns : List Node) (l : List Location) (p : Layout) (from gate : ℕ) → from ≡ 0 → Gives ns gate (λ choice v. false)
    → IsTest ns l (λ ps. is_lost p ps from) gate
null_stays ns l p zero gate e gives = record { below = gives.below; value = λ choice v runs ps met. gives.value choice v runs }
null_stays ns l p (suc at) gate e gives = absurd (omega (arith, e))

pub is_lost_at : (ns : List Node) (l : List Location) (p : Layout) (from at root gate : ℕ) → from ≡ at + 1 → root ≡ (location p at).root
    → IsFlagAnywhere ns l root flag.Freed gate → IsTest ns l (λ ps. is_lost p ps from) gate
is_lost_at ns l p zero at root gate e same is = absurd (omega (arith, e))
is_lost_at ns l p (suc from) at root gate e same is =
    let there : root ≡ (location p from).root = same ∙ ap (λ k. (location p k).root) (omega (arith, e)) in
    subst (λ r. IsFlagAnywhere ns l r flag.Freed gate → IsTest ns l (λ ps. is_lost p ps (suc from)) gate) (sym there)
    (λ h. record { below = h.below; value = λ choice v runs ps met. h.value choice v runs ps met }) is

unless_is : (b : Bool) (t : ℕ) → (if b then 0 else t) ≡ unless_lost b t
unless_is true t = refl
unless_is false t = refl

-- where an object was freed, what leads there is missing
pub is_usable : (n1 n2 n3 : List Node) (p : Layout) (l : List Location) (pointer real missing made : List Pair) (tests : List Gate) (lost : ℕ)
    → Grown n1 n2 → Grown n2 n3 → Goes n1 p move.Real pointer real → HaveTests n1 l (λ ps t. is_lost p ps t) real tests → IsWhere n2 real tests lost
    → Always n2 (λ choice v. Points v missing 0) → IsJoin n3 lost missing real made → IsUsable n3 p l pointer made
is_usable n1 n2 n3 p l pointer real missing made tests lost grown12 grown23 went have is null joined =
    record {
      below = joined.below;
      points = λ choice v runs ps met t points.
          let r2 = grown23.runs choice v runs in
          let r1 = grown12.runs choice v r2 in
          let k : ℕ = gone p move.Real t in
          let there : Points v real k = went.points choice v r1 t points in
          let holds : v lost ≡ is_lost p ps k = is.points choice v r2 (λ j. is_lost p ps j) k (have.holds choice v r1 ps met) there in
          subst (Points v made) (ap (λ b. if b then 0 else k) holds ∙ unless_is (is_lost p ps k) k)
          (joined.points choice v runs 0 k (null.holds choice v r2) there);
    }
