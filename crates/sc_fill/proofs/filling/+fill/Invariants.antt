-- The elements and members that are left take what all take. Values go inwards.
use Rattle.std.proofs.Common.{◌≡◌, ◌+◌, ◌*◌, ◌-◌, drop}
use Rattle.sc_fill.specs.Filling.{elements, members, fill}
use Rattle.sc_fill.proofs.filling.+fill.Given as goal

abbrev pub invariant-elements-loop-k : goal.invariant-elements-loop-k
invariant-elements-loop-k l =
    (elements l.w l.at (fill l.w l.at l.deep l.t) l.bound (l.k-end - l.k) l.k l.way.items l.filling l.walk
    ≡ elements l.w l.at (fill l.w l.at l.deep l.t) l.bound l.k-end 0 l.fn.way.items l.fn.filling l.fn.walk)
    × (l.way.items ≡ l.fn.way.items)

abbrev pub invariant-members-loop-k : goal.invariant-members-loop-k
invariant-members-loop-k l =
    (members l.w l.at (fill l.w l.at l.deep) (drop l.k-index l.members) l.way.items l.filling l.walk
    ≡ members l.w l.at (fill l.w l.at l.deep) l.members l.fn.way.items l.fn.filling l.fn.walk)
    × (l.way.items ≡ l.fn.way.items)

abbrev pub decreases-part : goal.decreases-part
decreases-part l = 5 * l.deep + 1

abbrev pub decreases-elements : goal.decreases-elements
decreases-elements l = 5 * l.deep + 2

abbrev pub decreases-members : goal.decreases-members
decreases-members l = 5 * l.deep + 2

abbrev pub decreases-fill_array : goal.decreases-fill_array
decreases-fill_array l = 5 * l.deep + 3

abbrev pub decreases-fill_struct : goal.decreases-fill_struct
decreases-fill_struct l = 5 * l.deep + 3

abbrev pub decreases-fill : goal.decreases-fill
decreases-fill l = 5 * l.deep

abbrev pub decreases-fill_layer : goal.decreases-fill_layer
decreases-fill_layer l = 5 * l.deep + 4
