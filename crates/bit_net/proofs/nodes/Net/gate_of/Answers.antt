use Rattle.std.proofs.Common.{◌≡◌, ◌++◌, ◌∷◌, [], length, Some, slice_get, arith, sym, ◌∙◌, ap, subst}
use Rattle.bit_net.specs.Circuit.{IsCircuit}
use Rattle.bit_net.specs.Runs.{Grown}
use Rattle.bit_net.proofs.nodes.Net.gate_of.Goals as goal
use Rattle.bit_net.proofs.ListLemmas.{slice_get_end}
use Rattle.bit_net.proofs.CircuitLemmas.{Gives-node, Grown-push, IsCircuit-push, no_input}

before : (c : goal.In_ok-put) → IsCircuit c.args.self.now
before c = subst IsCircuit c.self.view_is c.self.invariant

-- the node stands behind the others
behind : (c : goal.In_ok-put) → c.put.new.nodes.items ≡ c.args.self.now ++ c.args.node ∷ []
behind c = c.in_ok-put.ensures.ok ∙ ap (λ ns. ns ++ c.args.node ∷ []) c.self.view_is

circuit : (c : goal.In_ok-put) → IsCircuit c.put.new.nodes.items
circuit c = subst IsCircuit (sym (behind c)) (IsCircuit-push c.args.self.now c.args.node (before c) c.requires)

pub invariant_of-self : goal.invariant_of-self
invariant_of-self c = subst IsCircuit (sym c.in_err-put.ensures.err) c.self.invariant

pub invariant_of-self-2 : goal.invariant_of-self-2
invariant_of-self-2 c = circuit c

pub returns-in-Some-clause-ok : goal.returns-in-Some-clause-ok
returns-in-Some-clause-ok c = Gives-node c.args.self.now c.in-Some.gate.at c.args.node (subst IsCircuit c.self.view_is c.self.invariant) c.in-Some.ensures

pub returns-clause-grown : goal.returns-clause-grown
returns-clause-grown c = subst (Grown c.args.self.now) (sym (behind c)) (Grown-push c.args.self.now c.args.node (no_input (length c.args.self.now) c.args.node c.requires))

pub returns-clause-ok : goal.returns-clause-ok
returns-clause-ok c =
    let at : length c.args.self.now ≡ c.len-at.result = omega (arith, ap length c.self.view_is, c.len-at.ensures) in
    let here = ap (λ ns. slice_get ns (length c.args.self.now)) (behind c) ∙ slice_get_end c.args.self.now c.args.node in
    Gives-node c.put.new.nodes.items c.len-at.result c.args.node (circuit c) (subst (λ k. slice_get c.put.new.nodes.items k ≡ Some c.args.node) at here)
