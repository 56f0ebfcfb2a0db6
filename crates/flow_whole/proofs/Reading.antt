-- The node with a number, in the code and in the definitions.
use Rattle.std.proofs.Common.{◌≡◌, ℕ, zero, suc, ◌<◌, Bool, Some, List, [], ◌∷◌, map, length, slice_get, slice_index_or, refl, sym, ◌∙◌, ap, subst, arith}
use Rattle.sc_world.specs.Source.{Struct}
use Rattle.sc_flow.specs.declared.node.Calling.{Calling}
use Rattle.sc_flow.specs.declared.node.Expression.{Expression}
use Rattle.sc_flow.specs.declared.node.Node.{Node}
use Rattle.sc_flow.specs.Seen.{node}
use Rattle.flow_whole.specs.Whole.{HasGates, AllHaveGates}

at_index : (structs : List Struct) (ns : List Node) (at : ℕ) (d : Node) → at < length ns → slice_get (map (node structs) ns) at ≡ Some (node structs (slice_index_or ns at d))
at_index structs [] at d low = absurd (omega arith)
at_index structs (x ∷ ns) zero d low = refl
at_index structs (x ∷ ns) (suc at) d low = at_index structs ns at d (omega arith)

pub node_read : (structs : List Struct) (ns : List Node) (at : ℕ) (n : Node) → at < length ns → n ≡ slice_index_or ns at n → slice_get (map (node structs) ns) at ≡ Some (node structs n)
node_read structs ns at n low is = at_index structs ns at n low ∙ ap (λ (x : Node). Some (node structs x)) (sym is)

gates_index : (takes : Expression → Bool) (makes : Calling → Bool) (ns : List Node) (at : ℕ) (d : Node) → at < length ns → AllHaveGates takes makes ns
    → HasGates takes makes (slice_index_or ns at d)
gates_index takes makes [] at d low h = absurd (omega arith)
gates_index takes makes (x ∷ ns) zero d low h = h.0
gates_index takes makes (x ∷ ns) (suc at) d low h = gates_index takes makes ns at d (omega arith) h.1

pub gates_read : (takes : Expression → Bool) (makes : Calling → Bool) (ns : List Node) (at : ℕ) (n : Node) → at < length ns → n ≡ slice_index_or ns at n
    → AllHaveGates takes makes ns → HasGates takes makes n
gates_read takes makes ns at n low is h = subst (HasGates takes makes) (sym is) (gates_index takes makes ns at n low h)
