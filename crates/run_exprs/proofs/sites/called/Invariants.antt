use Rattle.std.proofs.Common.{◌≡◌, ◌*◌, ◌≤◌, map, drop}
use Rattle.sc_world.specs.Layout.{site_from}
use Rattle.sc_gather.specs.Seen.{call}
use Rattle.run_exprs.proofs.sites.called.Given as goal

abbrev pub invariant-loop-k : goal.invariant-loop-k
invariant-loop-k l = record {
  found : site_from l.bracket l.first (map call (drop l.k l.sites)) ≡ site_from l.bracket 0 (map call l.sites);
  few : l.first ≤ l.k * 4294967296;
}
