-- Calls: which one, in which turn of the loops round it, and what of its callee's summary is spoken of.
use Rattle.std.specs.Prelude.{ℕ, ◌-◌, Option, Some, None, List, [], slice_get, slice_index_or, codes}
use Rattle.json.specs.Json.{string, Members}
use Rattle.json_text.specs.Values.{count_value, with}
use Rattle.json_places.specs.Places.{place_value}
use Rattle.json_places.specs.Paths.{path_value}
use Rattle.report_text.specs.Names.{param_text}
use Rattle.sum_rows.specs.declared.path.Path.{Path}
use Rattle.sum_rows.specs.declared.row.Item.{Item}
use Rattle.sum_rows.specs.declared.row.Item.TheVariants as item
use Rattle.sum_rows.specs.declared.row.ItemRows.{ItemRows}
use Rattle.sum_rows.specs.declared.row.Summary.{Summary}
use Rattle.sum_rows.specs.declared.row.Write.{Write}
use Rattle.sc_typed.specs.declared.program.Function.{Function}
use Rattle.sc_typed.specs.declared.program.Param.{Param}
use Rattle.sc_world.specs.Layout.{no_occurrence}
use Rattle.sc_world.specs.Paths.{site_of}
use Rattle.sc_world.specs.Source.{Effect, Known, sum_at}
use Rattle.choice_json.specs.Speakers.{Speaker}

-- of a summary that may be missing

abbrev pub items_if : Option Summary → List ItemRows
items_if None = []
items_if (Some sum) = sum.items

abbrev pub writes_if : Option Summary → List Write
writes_if None = []
writes_if (Some sum) = sum.writes

abbrev pub params_if : Option Function → List Param
params_if None = []
params_if (Some f) = f.params

-- the end of a callee
abbrev pub end_members : Members → Members
end_members more = with (codes "item") (string (codes "end")) more

module _ (y : Speaker) where
  -- Of the call with that number: a call in one turn is one number. The turns of all loops round it are one number too:
  -- each loop counts its turns from 0, and those of the inner ones count fastest.
  abbrev pub turn_of : (k : ℕ) → ℕ
  turn_of k = k - slice_index_or y.firsts (slice_index_or y.texts.layout.occurrences k no_occurrence).site 0

  -- its kind, its place and its turn, in front of other members
  unfoldable pub call_members : (kind : List ℕ) → (k : ℕ) → Members → Members
  call_members kind k more =
      with (codes "kind") (string kind)
      (with (codes "place") (place_value y.program y.marks (site_of y.texts.layout k).pos)
      (with (codes "turn") (count_value (turn_of k)) more))

  -- Of a call that does this the parameters and the summary of its callee, if it is a known one.

  abbrev pub params_of : Effect → List Param
  params_of (Known n) = params_if (slice_get y.program.functions (slice_index_or y.source.kept n 0))
  params_of _ = []

  abbrev pub summary_of : Effect → Option Summary
  summary_of (Known n) = sum_at y.source n
  summary_of _ = None

  -- with the parameters of the callee
  module _ (params : List Param) where
    -- what a parameter points to
    unfoldable pub parameter_members : (word : List ℕ) → (n : ℕ) → Members → Members
    parameter_members word n more =
        with (codes "item") (string word)
        (with (codes "parameter") (count_value n) (with (codes "name") (string (param_text y.program params n)) more))

    unfoldable pub state_members : Path → Members → Members
    state_members x more = with (codes "item") (string (codes "state")) (with (codes "path") (path_value y.program params x) more)

    -- an item by the members that it has in its callee's items, but for the rows, in front of other members
    abbrev pub item_members : Item → Members → Members
    item_members item.Exit more = end_members more
    item_members (item.Lock x) more = state_members x more
    item_members (item.Param n) more = parameter_members (codes "object") n more
    item_members (item.Out n) more = parameter_members (codes "pointer") n more

    -- nothing where there is no item
    abbrev pub item_if : Option ItemRows → Members → Members
    item_if None more = more
    item_if (Some x) more = item_members x.item more

    -- a written cell by its path
    abbrev pub write_members : Write → Members → Members
    write_members w more = with (codes "path") (path_value y.program params w.path) more

    abbrev pub write_if : Option Write → Members → Members
    write_if None more = more
    write_if (Some w) more = write_members w more

  -- the item, and the written cell, with that number
  abbrev pub item_at : Effect → (number : ℕ) → Members → Members
  item_at e number more = item_if (params_of e) (slice_get (items_if (summary_of e)) number) more

  abbrev pub write_at : Effect → (number : ℕ) → Members → Members
  write_at e number more = write_if (params_of e) (slice_get (writes_if (summary_of e)) number) more
