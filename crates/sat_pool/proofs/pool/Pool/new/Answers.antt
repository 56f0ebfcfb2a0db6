-- An empty list has no block.
use Rattle.sat_pool.proofs.Blocks.{whole_of, view_of}
use Rattle.std.proofs.Common.{[]}
use Rattle.sat_pool.proofs.pool.Pool.new.Goals as goal

pub invariant_of-result : goal.invariant_of-result
invariant_of-result c = whole_of c.new.result.items [] c.new.ensures.items

pub returns : goal.returns
returns c = view_of c.new.result.items [] c.new.ensures.items
