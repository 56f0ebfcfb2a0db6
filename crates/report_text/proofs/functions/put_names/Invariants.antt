-- The names so far.
use Rattle.std.proofs.Common.{◌≡◌, ◌≤◌, ◌++◌, length, take}
use Rattle.std.specs.List.{flat_map}
use Rattle.report_text.specs.Functions.{entry_params, spaced_name}
use Rattle.report_text.proofs.functions.put_names.Given as goal

abbrev pub invariant-loop-param : goal.invariant-loop-param
invariant-loop-param l =
    ((l.out.items ≡ l.fn.out.items ++ flat_map (spaced_name l.program) (entry_params (take l.param-index l.params)))
    × (l.count ≡ length (entry_params (take l.param-index l.params))))
    × (l.count ≤ 3)
