use Rattle.std.proofs.Common.{◌-◌, arith}
use Rattle.run_world.specs.Seen.{env}
use Rattle.fn_walks.proofs.Making.{null_is_none, object_at}
use Rattle.fn_walks.proofs.objects.is_object.Goals as goal

pub returns-then-target-eq0 : goal.returns-then-target-eq0
returns-then-target-eq0 c = null_is_none (env c.args.around.now.here).layout c.args.target c.args.n c.if-target-eq0.true

pub returns : goal.returns
returns c =
    object_at (env c.args.around.now.here).layout c.args.target (c.args.target - 1) c.args.n c.root_at.result (omega arith) c.root_at.ensures
