-- Those so far.
use Rattle.std.proofs.Common.{◌≡◌, [], ◌∷◌, ◌++◌, map}
use Rattle.std.specs.List.{flat_map, range_with_len}
use Rattle.json.specs.Token.{begin_array}
use Rattle.json.specs.Tree.{json_tokens}
use Rattle.verdict_json.specs.Checks.{file_value}
use Rattle.verdict_json.proofs.checks.put_files.Given as goal

abbrev pub invariant-loop-file : goal.invariant-loop-file
invariant-loop-file l =
    l.text ≡ (l.fn.text ++ begin_array ∷ []) ++ flat_map json_tokens (map (file_value l.check.program.now l.check.marks.now) (range_with_len 0 l.file))
