use Rattle.std.proofs.Common.{◌≡◌, ◌≤◌, take, length}
use Rattle.bit_net.specs.Runs.{Grown, Always}
use Rattle.reach_net.specs.Walks.{gates_top, holds_at}
use Rattle.reach_net.proofs.RowLemmas.{Widens}
use Rattle.reach_net.proofs.rows.widened.Given as goal

-- the first gates have what they are to have
abbrev pub invariant-loop-j : goal.invariant-loop-j
invariant-loop-j l = record {
  grown : Grown l.fn.net l.net;
  wide : length l.wider.items ≡ l.j;
  below : gates_top l.wider.items ≤ length l.net;
  value : Always l.net (λ choice v. Widens v (holds_at v l.fn.row l.fn.k) (take l.j l.fn.row) (take l.j l.fn.next) l.wider.items);
}
