use Rattle.sc_check.proofs.Found.{answer_is}
use Rattle.sc_check.specs.Typed.{Sources}
use Rattle.sc_check.proofs.checking.check.Goals as goal

pub returns : goal.returns
returns c =
    let s : Sources =
    record {
      names = c.args.names;
      files = c.args.files;
      units = c.args.units.now;
      widths = c.args.widths;
      machine = c.args.machine;
    } in
    rw (answer_is s c.in_ok-known.known c.in_ok-known.ensures.table c.in_ok-known.ensures.first
    c.in_ok-known.ensures.bodies) at c.answered.ensures
