use Rattle.std.proofs.Common.{arith, ap, length}
use Rattle.atomic_table.proofs.Lists.{at_longer}
use Rattle.summary_db.specs.Places.{takes_of, gives_of}
use Rattle.summary_db.proofs.Jobs.{at_read, at_read_behind}
use Rattle.summary_db.proofs.db.Db.slot.Goals as goal

pub returns-then-k-takes : goal.returns-then-k-takes
returns-then-k-takes g c =
    let d = c.args.self.now in
    let low = c.if-k-takes.true in let e = ap length c.takes-takes.ensures in
    at_longer (takes_of d.rows c.args.function) (gives_of d.rows c.args.function) c.args.k _ (at_read (takes_of d.rows c.args.function) c.takes-takes.result.now c.args.k c.takes-takes.ensures (omega arith))

pub returns-else-k-takes : goal.returns-else-k-takes
returns-else-k-takes g c =
    let d = c.args.self.now in
    at_read_behind (takes_of d.rows c.args.function) (gives_of d.rows c.args.function) c.gives-gives.result.now c.takes-takes.result.now c.args.k c.takes-takes.ensures c.gives-gives.ensures c.if-k-takes.false c.requires.1
