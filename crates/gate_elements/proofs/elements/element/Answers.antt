use Rattle.std.proofs.Common.{arith}
use Rattle.bit_net.proofs.Growth.{Grown-refl, Grown-trans}
use Rattle.gate_elements.proofs.Leading.{elements_none, is_element}
use Rattle.gate_elements.proofs.elements.element.Goals as goal

pub loop-at-init : goal.loop-at-init
loop-at-init c =
    record { grown = Grown-refl _; elements = elements_none _ _ _ _ _ _ c.new-pairs.ensures.items c.constant-found.ensures }

pub loop-at-preserved : goal.loop-at-preserved
loop-at-preserved c =
    record {
      grown = Grown-trans _ _ _ c.loop-at.invariant.grown c.in_ok-more.ensures.grown;
      elements = c.in_ok-more.ensures.ok;
    }

pub returns-clause-ok : goal.returns-clause-ok
returns-clause-ok c =
    is_element _ _ _ _ _ c.loop-at.at _ c.in_ok-missing.missing _ _ c.in_ok-missing.ensures.grown (omega arith) c.loop-at.invariant.elements
    c.in_ok-missing.ensures.ok c.in_ok-push_pair.ensures

pub invariant_of-pointer : goal.invariant_of-pointer
invariant_of-pointer c =
    record { differ = c.in_ok-push_pair.ensures.differ c.loop-at.invariant.elements.no_null c.loop-at.invariant.elements.differ }
