use Rattle.std.proofs.Common.{rules, refl, arith}
use Rattle.summary_db.proofs.Laying.{pushed}
use Rattle.summary_db.proofs.lay.Lay.push.Goals as goal

pub returns-clause-lay : goal.returns-clause-lay
returns-clause-lay c n places lay = pushed n places c.args.taker c.args.giver c.args.self.now _ lay c.requires.0 c.requires.1 c.in_ok-note.ensures.noted c.in_ok-note-2.ensures.noted c.in_ok-note.ensures.len c.in_ok-note-2.ensures.len refl
