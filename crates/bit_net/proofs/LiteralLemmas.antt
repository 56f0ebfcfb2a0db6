-- The literals of gates, the parts of a literal, the other operand of an `xor`, and a net that is as before after a refusal.
use Rattle.std.proofs.Common.{◌≡◌, ℕ, ◌<◌, Bool, true, false, not, ◌&&◌, ◌||◌, List, length, take, slice_get, Some, Result, Ok, Err, OnErr, refl, sym, ◌∙◌, ap, subst, arith}
use Rattle.bit_net.specs.declared.nodes.Gate.{Gate}
use Rattle.bit_net.specs.declared.nodes.Node.{Node}
use Rattle.bit_net.specs.declared.nodes.Node.TheVariants.{Constant, Not, And, Or, Xor}
use Rattle.bit_net.specs.Value.{xor}
use Rattle.bit_net.specs.Circuit.{IsCircuit}
use Rattle.bit_net.specs.Runs.{Gives, Always}
use Rattle.bit_net.specs.declared.literals.Literal.{Literal}
use Rattle.bit_net.specs.declared.memory.OutOfMemory.{OutOfMemory}
use Rattle.bit_net.specs.Literals.{holds}
use Rattle.bit_net.proofs.CircuitLemmas.{Gives-node}

-- the literals of a constant and of a `not`
pub literal_true : (ns : List Node) (g x : ℕ) (b : Bool) → IsCircuit ns → slice_get ns g ≡ Some (Constant b) → b ≡ true → Gives ns x (λ choice v. false)
    → Always ns (λ choice v. not (v x) ≡ v g)
literal_true ns g x b c here yes' never = record {
  holds = λ choice v r. ap not (never.value choice v r) ∙ sym ((Gives-node ns g (Constant b) c here).value choice v r ∙ yes');
}

pub literal_not : (ns : List Node) (g : ℕ) (inner : Gate) → IsCircuit ns → slice_get ns g ≡ Some (Not inner) → Always ns (λ choice v. not (v inner.at) ≡ v g)
literal_not ns g inner c here = record { holds = λ choice v r. sym ((Gives-node ns g (Not inner) c here).value choice v r) }

xor_back : (a b : Bool) → b ≡ xor (xor a b) a
xor_back true true = refl
xor_back true false = refl
xor_back false true = refl
xor_back false false = refl

xor_front : (a b : Bool) → a ≡ xor (xor a b) b
xor_front true true = refl
xor_front true false = refl
xor_front false true = refl
xor_front false false = refl

-- the other operand of an `xor`
pub xor_second : (ns : List Node) (w p : ℕ) (x y : Gate) → IsCircuit ns → slice_get ns w ≡ Some (Xor x y) → x.at ≡ p
    → Gives ns y.at (λ choice v. xor (v w) (v p))
xor_second ns w p x y c here is =
    let node = Gives-node ns w (Xor x y) c here in
    let reads = c.earlier w (Xor x y) here in
    record {
      below = omega (arith, node.below, reads.1);
      value = λ choice v r. xor_back (v x.at) (v y.at) ∙ ap (λ b. xor b (v x.at)) (sym (node.value choice v r)) ∙ ap (λ k. xor (v w) (v k)) is;
    }

pub xor_first : (ns : List Node) (w p : ℕ) (x y : Gate) → IsCircuit ns → slice_get ns w ≡ Some (Xor x y) → y.at ≡ p
    → Gives ns x.at (λ choice v. xor (v w) (v p))
xor_first ns w p x y c here is =
    let node = Gives-node ns w (Xor x y) c here in
    let reads = c.earlier w (Xor x y) here in
    record {
      below = omega (arith, node.below, reads.0);
      value = λ choice v r. xor_front (v x.at) (v y.at) ∙ ap (λ b. xor b (v y.at)) (sym (node.value choice v r)) ∙ ap (λ k. xor (v w) (v k)) is;
    }

-- the operands of a gate are gates of the net
pub operands_and : (ns : List Node) (g : ℕ) (a b : Gate) → IsCircuit ns → slice_get ns g ≡ Some (And a b) → (a.at < length ns) × (b.at < length ns)
operands_and ns g a b c here =
    let reads = c.earlier g (And a b) here in
    let below = (Gives-node ns g (And a b) c here).below in
    (omega (arith, reads.0, below), omega (arith, reads.1, below))

pub operands_or : (ns : List Node) (g : ℕ) (a b : Gate) → IsCircuit ns → slice_get ns g ≡ Some (Or a b) → (a.at < length ns) × (b.at < length ns)
operands_or ns g a b c here =
    let reads = c.earlier g (Or a b) here in
    let below = (Gives-node ns g (Or a b) c here).below in
    (omega (arith, reads.0, below), omega (arith, reads.1, below))

not-true : (b : Bool) → not b ≡ true → b ≡ false
not-true true h = sym h
not-true false h = refl

-- the parts of an `and`, and of the opposite of an `or`
pub parts_and : (ns : List Node) (whole p q : Literal) (a b : Gate) → IsCircuit ns → slice_get ns whole.gate.at ≡ Some (And a b) → not whole.negated ≡ true
    → Always ns (λ choice v. holds v p ≡ v a.at) → Always ns (λ choice v. holds v q ≡ v b.at)
    → Always ns (λ choice v. (holds v p && holds v q) ≡ holds v whole)
parts_and ns whole p q a b c here plain first second = record {
  holds = λ choice v r.
      ap (λ x. x && holds v q) (first.holds choice v r) ∙ ap (λ y. v a.at && y) (second.holds choice v r)
      ∙ sym ((Gives-node ns whole.gate.at (And a b) c here).value choice v r) ∙ ap (λ n. xor n (v whole.gate.at)) (sym (not-true whole.negated plain));
}

neither_holds : (x y : Bool) → (not x && not y) ≡ not (x || y)
neither_holds true y = refl
neither_holds false y = refl

pub parts_or : (ns : List Node) (whole p q first second : Literal) (a b : Gate) → IsCircuit ns → slice_get ns whole.gate.at ≡ Some (Or a b) → whole.negated ≡ true
    → ((v : ℕ → Bool) → holds v p ≡ not (holds v first)) → ((v : ℕ → Bool) → holds v q ≡ not (holds v second))
    → Always ns (λ choice v. holds v first ≡ v a.at) → Always ns (λ choice v. holds v second ≡ v b.at)
    → Always ns (λ choice v. (holds v p && holds v q) ≡ holds v whole)
parts_or ns whole p q first second a b c here turned p_is q_is first_is second_is = record {
  holds = λ choice v r.
      ap (λ x. x && holds v q) (p_is v ∙ ap not (first_is.holds choice v r)) ∙ ap (λ y. not (v a.at) && y) (q_is v ∙ ap not (second_is.holds choice v r))
      ∙ neither_holds (v a.at) (v b.at) ∙ ap not (sym ((Gives-node ns whole.gate.at (Or a b) c here).value choice v r))
      ∙ ap (λ n. xor n (v whole.gate.at)) (sym turned);
}

-- after a refusal the net is cut back to what it was
pub cut_back : (made : Result Gate OutOfMemory) (old new after : List Node) (gates : ℕ) → IsCircuit old → gates ≡ length old
    → take (length old) new ≡ old → OnErr made (after ≡ new) → OnErr made (IsCircuit (take gates after))
cut_back (Ok gate) old new after gates c count front same = same
cut_back (Err refused) old new after gates c count front same =
    subst IsCircuit (sym (ap (λ n. take n after) count ∙ ap (take (length old)) same ∙ front)) c
