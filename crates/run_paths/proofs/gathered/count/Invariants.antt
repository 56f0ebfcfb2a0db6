use Rattle.std.proofs.Common.{◌≡◌, ◌+◌, ◌≤◌, drop}
use Rattle.sc_world.specs.Known.{count_items}
use Rattle.run_paths.specs.Seen.{is_of}
use Rattle.run_paths.proofs.gathered.count.Given as goal

abbrev pub invariant-loop-x : goal.invariant-loop-x
invariant-loop-x l =
    (l.n + count_items (is_of l.sort) (drop l.x-index l.items) ≡ count_items (is_of l.fn.sort) l.fn.items) × (l.n ≤ l.x-index)
