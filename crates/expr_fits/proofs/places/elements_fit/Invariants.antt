use Rattle.std.proofs.Common.{◌≡◌, ◌≤◌, length}
use Rattle.sc_world.specs.View.{type}
use Rattle.layout_base.specs.Seen as laid
use Rattle.expr_fits.specs.Here as here
use Rattle.expr_fits.proofs.places.elements_fit.Given as goal

-- the locations from there on pass
abbrev pub invariant-loop-at : goal.invariant-loop-at
invariant-loop-at l =
    let p = laid.layout_of l.places in
    record {
      rest : here.each_below (here.element_fits p (type l.array) (type l.element)) l.at
          ≡ here.elements_fit p (type l.array) (type l.element);
      low : l.at ≤ length p.locations;
    }

abbrev pub decreases-loop-at : goal.decreases-loop-at
decreases-loop-at l = l.at
