use Rattle.std.proofs.Common.{sym, ◌∙◌}
use Rattle.run_world.specs.Seen.{env}
use Rattle.fn_walks.proofs.Fating.{from_known, from_unknown}
use Rattle.fn_walks.proofs.fates.escape_from.Goals as goal

pub returns-then-is_known : goal.returns-then-is_known
returns-then-is_known c = from_known (env c.args.around.now.here).layout c.args.object (sym c.is_known.ensures ∙ c.if-is_known.true)

pub returns : goal.returns
returns c = from_unknown (env c.args.around.now.here).layout c.args.object (sym c.is_known.ensures ∙ c.if-is_known.false)
