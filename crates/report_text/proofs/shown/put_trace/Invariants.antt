-- The events so far.
use Rattle.std.proofs.Common.{◌≡◌, ◌++◌, take}
use Rattle.std.specs.List.{flat_map}
use Rattle.report_text.specs.Shown.{event_line}
use Rattle.report_text.proofs.shown.put_trace.Given as goal

abbrev pub invariant-loop-event : goal.invariant-loop-event
invariant-loop-event l =
    l.out.items ≡ l.fn.out.items ++ flat_map (event_line l.program l.indent l.location) (take l.event-index l.events)
