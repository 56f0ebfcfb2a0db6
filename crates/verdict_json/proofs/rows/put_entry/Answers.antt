use Rattle.std.proofs.Common.{ap, ◌∙◌, ◌++◌}
use Rattle.std.specs.List.{flat_map}
use Rattle.json.specs.Tree.{json_tokens}
use Rattle.verdict_json.specs.Rows.{bits_values, entry_value}
use Rattle.json_places.proofs.Arrays.{list_behind}
use Rattle.verdict_json.proofs.rows.put_entry.Goals as goal

pub returns : goal.returns
unfolding entry_value
returns c =
    let values = bits_values c.args.digits c.args.given in
    list_behind values c.args.text.now _ _
    (c.in_ok-put_bits.ensures ∙ ap (λ ts. ts ++ flat_map json_tokens values) c.in_ok-begin_array.ensures) c.in_ok-end_array.ensures
