use Rattle.std.proofs.Common.{◌≡◌, subst, arith}
use Rattle.bit_net.proofs.Growth.{Grown-refl, Grown-trans}
use Rattle.run_world.specs.Seen as seen
use Rattle.gate_copies.specs.Widths.{widths}
use Rattle.gate_copies.specs.Readings.{AreRead}
use Rattle.gate_copies.proofs.Counting.{read_none}
use Rattle.gate_copies.proofs.readings.read_cell.Goals as goal

pub loop-number-init : goal.loop-number-init
loop-number-init c = record { grown = Grown-refl _; so_far = read_none _ _ _ _ _ _ _ c.new-vals.ensures.items }

pub loop-number-preserved : goal.loop-number-preserved
loop-number-preserved c =
    record {
      grown = Grown-trans _ _ _ c.loop-number.invariant.grown c.in_ok-add_width.ensures.grown;
      so_far = c.in_ok-add_width.ensures.ok;
    }

pub returns-clause-ok : goal.returns-clause-ok
returns-clause-ok c =
    let all : c.loop-number.number ≡ widths = omega arith in
    subst (λ n. AreRead c.loop-number.net (seen.env c.args.here.now).source (seen.env c.args.here.now).layout c.args.store.now.locations.items c.args.from.now.pairs.items c.args.targets.now n c.loop-number.vals.items)
    all c.loop-number.invariant.so_far
