use Rattle.std.proofs.Common.{◌≡◌, arith, length, subst, sym, ap, ◌∙◌, ◌++◌, ◌∷◌, [], true, false}
use Rattle.bit_net.proofs.nodes.Net.new.Goals as goal
use Rattle.bit_net.specs.declared.nodes.Node.TheVariants.{Constant, Input}
use Rattle.bit_net.specs.Circuit.{first_nodes, input_count, IsCircuit}
use Rattle.bit_net.proofs.BuildLemmas.{IsCircuit-first_nodes, input_count-first_nodes, length-first_nodes, first_nodes-none, first_nodes-more}

pub loop-k-init : goal.loop-k-init
loop-k-init c = c.in_ok-put-2.ensures.ok ∙ ap (λ ns. ns ++ Constant true ∷ []) (c.in_ok-put.ensures.ok ∙ ap (λ ns. ns ++ Constant false ∷ []) c.new-nodes.ensures.items) ∙ sym first_nodes-none

pub loop-k-preserved : goal.loop-k-preserved
loop-k-preserved c = c.in_ok-put-3.ensures.ok ∙ ap (λ ns. ns ++ Input c.loop-k.k ∷ []) c.loop-k.invariant ∙ sym (first_nodes-more c.loop-k.k)

pub invariant_of-result : goal.invariant_of-result
invariant_of-result c = subst IsCircuit (sym c.loop-k.invariant) (IsCircuit-first_nodes c.loop-k.k)

-- the loop ended at the last input
whole : (c : goal.After-loop-k) → c.loop-k.nodes.items ≡ first_nodes c.args.inputs
whole c = let last : c.loop-k.k ≡ c.args.inputs = omega arith in c.loop-k.invariant ∙ ap first_nodes last

pub returns-clause-count : goal.returns-clause-count
returns-clause-count c = ap input_count (whole c) ∙ input_count-first_nodes c.args.inputs

pub returns-clause-len : goal.returns-clause-len
returns-clause-len c = ap length (whole c) ∙ length-first_nodes c.args.inputs
