use Rattle.std.proofs.Common.{◌≡◌, ◌++◌, drop}
use Rattle.sc_world.specs.Programs.{types_of}
use Rattle.fn_rows.specs.Params.{pointing}
use Rattle.fn_rows.proofs.params.pointing.Given as goal

-- with those that are left these are all
abbrev pub invariant-loop-k : goal.invariant-loop-k
invariant-loop-k l = l.found.items ++ pointing l.to l.k (types_of (drop l.k l.params)) ≡ pointing l.fn.to 0 (types_of l.fn.params)
