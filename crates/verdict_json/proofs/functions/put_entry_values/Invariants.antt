-- With the parameters that are left the values are whole.
use Rattle.std.proofs.Common.{◌≡◌, ◌≤◌, ◌++◌, drop}
use Rattle.std.specs.List.{flat_map}
use Rattle.json.specs.Tree.{json_tokens}
use Rattle.verdict_json.specs.Functions.{entry_values}
use Rattle.verdict_json.proofs.functions.put_entry_values.Given as goal

abbrev pub invariant-loop-param : goal.invariant-loop-param
invariant-loop-param l =
    (l.text ++ flat_map json_tokens (entry_values l.program l.count (drop l.param-index l.params))
    ≡ l.fn.text ++ flat_map json_tokens (entry_values l.fn.program 0 l.fn.params))
    × (l.count ≤ 3)
