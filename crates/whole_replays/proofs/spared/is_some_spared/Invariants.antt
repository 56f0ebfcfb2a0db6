-- Some function is spared where one of those that are left is.
use Rattle.std.proofs.Common.{◌≡◌, drop}
use Rattle.std.specs.List.{list_any}
use Rattle.whole_replays.specs.Spared.{is_spared}
use Rattle.whole_replays.proofs.spared.is_some_spared.Given as goal

abbrev pub invariant-loop-function : goal.invariant-loop-function
invariant-loop-function l =
    list_any (is_spared l.spared) (drop l.function-index l.functions) ≡ list_any (is_spared l.fn.spared) l.fn.functions
