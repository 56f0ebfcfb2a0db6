use Rattle.std.proofs.Common.{subst}
use Rattle.layout_base.specs.Seen as laid
use Rattle.gate_paths.specs.Paths.{FromArgument, FromGlobal}
use Rattle.gate_paths.proofs.Leading.{follows_argument, follows_global}
use Rattle.gate_paths.proofs.paths.follow_path.Goals as goal

pub returns-in_ok-made-in-Param-clause-ok : goal.returns-in_ok-made-in-Param-clause-ok
returns-in_ok-made-in-Param-clause-ok c =
    follows_argument c.from_argument.new.net (laid.layout_of c.args.layout.now.places.now) c.args.store.now.locations.items c.args.args.now c.in-Param.n
    c.args.path.now
    c.in_ok-made-in-Param.made.pairs.items c.in-Param.is
    (subst (λ ss. FromArgument c.from_argument.new.net (laid.layout_of c.args.layout.now.places.now) c.args.store.now.locations.items c.args.args.now
    c.in-Param.n ss
    c.in_ok-made-in-Param.made.pairs.items) c.as_slice-steps.ensures c.in_ok-made-in-Param.ensures.ok)

pub returns-in_ok-made-in-Global-clause-ok : goal.returns-in_ok-made-in-Global-clause-ok
returns-in_ok-made-in-Global-clause-ok c =
    follows_global c.from_global.new.net (laid.layout_of c.args.layout.now.places.now) c.args.store.now.locations.items c.args.args.now c.in-Global.n
    c.args.path.now
    c.in_ok-made-in-Global.made.pairs.items c.in-Global.is
    (subst (λ ss. FromGlobal c.from_global.new.net (laid.layout_of c.args.layout.now.places.now) c.args.store.now.locations.items c.in-Global.n ss
    c.in_ok-made-in-Global.made.pairs.items) c.as_slice-steps.ensures c.in_ok-made-in-Global.ensures.ok)
