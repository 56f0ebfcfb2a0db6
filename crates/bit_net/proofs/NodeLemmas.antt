-- The derived `==` on nodes is equality.
use Rattle.std.proofs.Common.{◌≡◌, ℕ, Bool, true, sym, arith, true≢false}
use Rattle.std.proofs.lemmas.Grind.{common_steps}
use Rattle.bit_net.specs.declared.nodes.Gate.{Gate}
use Rattle.bit_net.specs.declared.nodes.Node.{Node}
use Rattle.bit_net.specs.declared.nodes.Node.TheVariants.{Constant, Input, Not, And, Or, Xor, Mux}
use Rattle.bit_net.specs.contracts.nodes.NodePartialEq.TheImpl as derived

same_constant : (x y : Bool) → derived.eq-value.it (Constant x) (Constant y) ≡ true → Constant x ≡ Constant y
same_constant x y h = grind (arith, common_steps)

same_input : (x y : ℕ) → derived.eq-value.it (Input x) (Input y) ≡ true → Input x ≡ Input y
same_input x y h = grind (arith, common_steps)

same_not : (x y : Gate) → derived.eq-value.it (Not x) (Not y) ≡ true → Not x ≡ Not y
same_not x y h = grind (arith, common_steps)

same_and : (a b x y : Gate) → derived.eq-value.it (And a b) (And x y) ≡ true → And a b ≡ And x y
same_and a b x y h = grind (arith, common_steps)

same_or : (a b x y : Gate) → derived.eq-value.it (Or a b) (Or x y) ≡ true → Or a b ≡ Or x y
same_or a b x y h = grind (arith, common_steps)

same_xor : (a b x y : Gate) → derived.eq-value.it (Xor a b) (Xor x y) ≡ true → Xor a b ≡ Xor x y
same_xor a b x y h = grind (arith, common_steps)

same_mux : (a b c x y z : Gate) → derived.eq-value.it (Mux a b c) (Mux x y z) ≡ true → Mux a b c ≡ Mux x y z
same_mux a b c x y z h = grind (arith, common_steps)

pub same_node : (a b : Node) → derived.eq-value.it a b ≡ true → a ≡ b
same_node (Constant x) (Constant y) h = same_constant x y h
same_node (Input x) (Input y) h = same_input x y h
same_node (Not x) (Not y) h = same_not x y h
same_node (And a b) (And x y) h = same_and a b x y h
same_node (Or a b) (Or x y) h = same_or a b x y h
same_node (Xor a b) (Xor x y) h = same_xor a b x y h
same_node (Mux a b c) (Mux x y z) h = same_mux a b c x y z h
same_node _ _ h = absurd (true≢false (sym h))
