-- Room for the whole list.
use Rattle.std.proofs.Common.{arith}
use Rattle.sat_pool.proofs.Blocks.{length_of}
use Rattle.sat_pool.proofs.pool.Pool.reserve_compact.Goals as goal

pub returns : goal.returns
returns c =
    let whole = length_of c.self.inside.list.items c.args.self.now c.self.view_is c.self.invariant in
    let len = c.len-len.ensures in
    let exact = c.in_ok-list.ensures.exact in
    let table = c.in_ok-to.ensures.len in
    record {
      enough = omega (arith, whole, len, exact, c.self.inside.list.ok.0);
      table = omega (arith, whole, len, table, c.self.inside.list.ok.0, c.in_ok-to.to.ok.0);
    }
