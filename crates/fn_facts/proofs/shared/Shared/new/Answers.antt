use Rattle.bit_net.proofs.Growth.{Grown-trans}
use Rattle.fn_facts.specs.Seen.{given}
use Rattle.fn_facts.proofs.Growing.{number_grows, truth_grows}
use Rattle.fn_facts.proofs.shared.Shared.new.Goals as goal

pub returns-clause-ok : goal.returns-clause-ok
returns-clause-ok c =
    let g2 = c.in_ok-truth.ensures.grown in
    let g3 = c.in_ok-known.ensures.grown in
    record {
      given = number_grows _ _ _ given _ (Grown-trans _ _ _ g2 g3) c.in_ok-given.ensures.ok;
      truth = truth_grows _ _ _ _ g3 c.in_ok-truth.ensures.ok;
      known = c.in_ok-known.ensures.ok;
    }
