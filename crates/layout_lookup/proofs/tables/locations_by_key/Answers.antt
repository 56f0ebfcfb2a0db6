-- One key more.
use Rattle.std.proofs.Common.{◌≡◌, ◌+◌, map, drop}
use Rattle.std.specs.HashMap.{get}
use Rattle.layout_lookup.specs.Firsts.{or_else, first_of}
use Rattle.layout_lookup.specs.Keys.{same_key}
use Rattle.layout_lookup.specs.Tables.{has_key, HasFewElements}
use Rattle.layout_base.specs.Seen.{location_of}
use Rattle.layout_lookup.specs.declared.key.Key.{Key}
use Rattle.layout_lookup.specs.declared.key.Key.TheVariants as key
use Rattle.layout_lookup.proofs.Found.{one_more, still_none}
use Rattle.layout_lookup.proofs.tables.locations_by_key.Goals as goal

rest : (c : goal.In_ok-at) → (q : Key) → first_of (has_key q) 0 (map location_of c.args.locations.now)
    ≡ or_else (get same_key c.note.new.table q)
    (first_of (has_key q) c.in_ok-at.at (map location_of (drop (c.loop-location.location-index + 1) c.args.locations.now)))
rest c q =
    let noted = c.in_ok-note.ensures q in
    let key = c.key_of.ensures.key in
    let next = c.in_ok-at.ensures in
    let more =
    one_more q (get same_key c.loop-location.table q) (get same_key c.note.new.table q) _ c.loop-location.at
    c.loop-location.location-index c.location-item.result c.args.locations.now c.loop-location-test.true c.location-item.is
    (c.loop-location.invariant.rest q) (rw (← key) noted) in
    rw next more

few : (c : goal.In_ok-at) → HasFewElements (get same_key c.note.new.table)
few c up k large =
    still_none (get same_key c.loop-location.table (key.Elem up k)) _ (same_key (key.Elem up k) c.key_of.result) c.loop-location.at
    (c.loop-location.invariant.few up k large) (c.key_of.ensures.few up k large) (c.in_ok-note.ensures (key.Elem up k))

pub loop-location-preserved : goal.loop-location-preserved
loop-location-preserved c = record { rest = rest c; few = few c }
