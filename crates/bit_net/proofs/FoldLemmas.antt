-- What the gates of constants, inputs, `not` and `and` nodes give, in every net.
use Rattle.std.proofs.Common.{◌≡◌, ℕ, ◌+◌, ◌<◌, Bool, true, false, not, ◌&&◌, if◌then◌else◌, List, length, slice_get, Some, refl, sym, ◌∙◌, ap, subst, arith}
use Rattle.std.proofs.Math.Bool.{not-not}
use Rattle.std.proofs.lemmas.Option.{slice_get_within}
use Rattle.bit_net.specs.declared.nodes.Gate.{Gate}
use Rattle.bit_net.specs.declared.nodes.Node.{Node}
use Rattle.bit_net.specs.declared.nodes.Node.TheVariants.{Constant, Input, Not, And}
use Rattle.bit_net.specs.Circuit.{input_count, IsCircuit}
use Rattle.bit_net.specs.Runs.{Gives, Always, AreAsBoth}
use Rattle.bit_net.proofs.CircuitLemmas.{Gives-node}

-- the gates that every net has
pub Gives-false : (ns : List Node) → IsCircuit ns → Gives ns 0 (λ choice v. false)
Gives-false ns c = Gives-node ns 0 (Constant false) c c.zero

pub Gives-true : (ns : List Node) → IsCircuit ns → Gives ns 1 (λ choice v. true)
Gives-true ns c = Gives-node ns 1 (Constant true) c c.one

pub Gives-input : (ns : List Node) (k : ℕ) → IsCircuit ns → k < input_count ns → Gives ns (2 + k) (λ choice v. choice k)
Gives-input ns k c h = Gives-node ns (2 + k) (Input k) c (c.inputs k h)

pub input_below : (ns : List Node) (k : ℕ) → IsCircuit ns → k < input_count ns → 2 + k < length ns
input_below ns k c h = slice_get_within ns (2 + k) (Input k) (c.inputs k h)

pub Gives-constant : (ns : List Node) (g : ℕ) (b : Bool) → IsCircuit ns → g ≡ (if b then 1 else 0) → Gives ns g (λ choice v. b)
Gives-constant ns g true c e = subst (λ (k : ℕ). Gives ns k (λ choice v. true)) (sym e) (Gives-true ns c)
Gives-constant ns g false c e = subst (λ (k : ℕ). Gives ns k (λ choice v. false)) (sym e) (Gives-false ns c)

-- a gate that a `not` inverts, and the opposite of a constant
pub Gives-inner : (ns : List Node) (a : ℕ) (inner : Gate) → IsCircuit ns → slice_get ns a ≡ Some (Not inner) → Gives ns inner.at (λ choice v. not (v a))
Gives-inner ns a inner c here =
    let reads : inner.at < a = c.earlier a (Not inner) here in
    let node = Gives-node ns a (Not inner) c here in
    record {
      below = omega (arith, node.below);
      value = λ choice v r. sym (not-not (v inner.at)) ∙ ap not (sym (node.value choice v r));
    }

pub Gives-opposite : (ns : List Node) (a x : ℕ) (b : Bool) → IsCircuit ns → slice_get ns a ≡ Some (Constant b) → Gives ns x (λ choice v. not b) → Gives ns x (λ choice v. not (v a))
Gives-opposite ns a x b c here g = record {
  below = g.below;
  value = λ choice v r. g.value choice v r ∙ ap not (sym ((Gives-node ns a (Constant b) c here).value choice v r));
}

-- a gate whose node is a constant
pub Always-constant : (ns : List Node) (a : ℕ) (b : Bool) → IsCircuit ns → slice_get ns a ≡ Some (Constant b) → Always ns (λ choice v. v a ≡ b)
Always-constant ns a b c here = record { holds = (Gives-node ns a (Constant b) c here).value }

-- an `and`, its operands in either order
pub Gives-and : (ns : List Node) (g : ℕ) (a b : Gate) → IsCircuit ns → slice_get ns g ≡ Some (And a b) → Gives ns g (λ choice v. v a.at && v b.at)
Gives-and ns g a b c here = Gives-node ns g (And a b) c here

turned : (p q : Bool) → (p && q) ≡ (q && p)
turned true true = refl
turned true false = refl
turned false true = refl
turned false false = refl

pub Gives-and-turned : (ns : List Node) (g : ℕ) (a b : Gate) → IsCircuit ns → slice_get ns g ≡ Some (And b a) → Gives ns g (λ choice v. v a.at && v b.at)
Gives-and-turned ns g a b c here =
    let node = Gives-node ns g (And b a) c here in
    record {
      below = node.below;
      value = λ choice v r. node.value choice v r ∙ turned (v b.at) (v a.at);
    }

regrouped : (p q r : Bool) → ((p && q) && r) ≡ (p && (q && r))
regrouped true q r = refl
regrouped false q r = refl

-- a gate of a and of one operand of the `and` b, beside the other operand
pub AreAsBoth-first : (ns : List Node) (a b one : ℕ) (x y : Gate) → IsCircuit ns → slice_get ns b ≡ Some (And x y) → Gives ns one (λ choice v. v a && v x.at)
    → AreAsBoth ns a b one y.at
AreAsBoth-first ns a b one x y c here g =
    let node = Gives-node ns b (And x y) c here in
    let reads = c.earlier b (And x y) here in
    record {
      first = g.below;
      second = omega (arith, node.below, reads.1);
      same = record {
        holds = λ choice v r.
            ap (λ t. t && v y.at) (g.value choice v r) ∙ regrouped (v a) (v x.at) (v y.at) ∙ ap (λ t. v a && t) (sym (node.value choice v r));
      };
    }

pub AreAsBoth-second : (ns : List Node) (a b one : ℕ) (x y : Gate) → IsCircuit ns → slice_get ns b ≡ Some (And x y) → Gives ns one (λ choice v. v a && v y.at)
    → AreAsBoth ns a b one x.at
AreAsBoth-second ns a b one x y c here g =
    let node = Gives-node ns b (And x y) c here in
    let reads = c.earlier b (And x y) here in
    record {
      first = g.below;
      second = omega (arith, node.below, reads.0);
      same = record {
        holds = λ choice v r.
            ap (λ t. t && v x.at) (g.value choice v r) ∙ regrouped (v a) (v y.at) (v x.at) ∙ ap (λ t. v a && t) (turned (v y.at) (v x.at))
            ∙ ap (λ t. v a && t) (sym (node.value choice v r));
      };
    }
