use Rattle.std.proofs.Common.{ap, subst, ◌≡◌, ◌∙◌, ◌++◌}
use Rattle.std.specs.List.{flat_map}
use Rattle.json.specs.Tree.{json_tokens}
use Rattle.json_text.specs.Values.{array_of}
use Rattle.json_places.specs.Arrays.{array_by}
use Rattle.verdict_json.specs.Functions.{entry_values}
use Rattle.json_places.proofs.Arrays.{list_behind}
use Rattle.verdict_json.proofs.Entry.{entry_same}
use Rattle.verdict_json.proofs.functions.put_entry_params.Goals as goal

pub returns : goal.returns
unfolding array_by
returns c =
    let program = c.args.program.now in
    let params = c.args.params.now in
    let values = entry_values program 0 params in
    list_behind values c.args.text.now _ _
    (c.in_ok-put_entry_values.ensures ∙ ap (λ ts. ts ++ flat_map json_tokens values) c.in_ok-begin_array.ensures)
    c.in_ok-end_array.ensures
    ∙ ap (λ vs. c.args.text.now ++ json_tokens (array_of vs)) (entry_same program 0 params)
