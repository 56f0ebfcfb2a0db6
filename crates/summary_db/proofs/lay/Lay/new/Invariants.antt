use Rattle.std.proofs.Common.{◌≡◌, length, ◌++◌, map, ◌+◌}
use Rattle.std.specs.List.{range_with_len}
use Rattle.summary_db.specs.Places.{edge, edges_before}
use Rattle.summary_db.specs.Lays.{IsLay}
use Rattle.summary_db.proofs.lay.Lay.new.Given as goal

abbrev pub invariant-loop-taker : goal.invariant-loop-taker
invariant-loop-taker l = IsLay l.count (edges_before l.rows l.taker) l.lay

abbrev pub invariant-loop-giver : goal.invariant-loop-giver
invariant-loop-giver l = IsLay l.count (edges_before l.rows l.count ++ map (edge l.count) (range_with_len 0 l.giver)) l.lay
