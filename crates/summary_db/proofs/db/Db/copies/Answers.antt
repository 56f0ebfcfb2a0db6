-- The function gives to each caller and to the reader.
use Rattle.std.proofs.Common.{length, ap, ◌∙◌}
use Rattle.summary_db.proofs.Callers.{gives_many}
use Rattle.summary_db.proofs.db.Db.copies.Goals as goal

pub returns : goal.returns
returns g c = ap length c.gives.ensures ∙ gives_many c.args.self.now.rows c.args.self.now.laid c.args.job.now.function c.requires.inside
