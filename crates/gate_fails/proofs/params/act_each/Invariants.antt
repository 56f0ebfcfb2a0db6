use Rattle.std.proofs.Common.{◌≡◌, ◌+◌, ◌≤◌, length, take}
use Rattle.bit_net.specs.Runs.{Grown}
use Rattle.sc_world.specs.Known.{is_param}
use Rattle.run_world.specs.Seen as seen
use Rattle.gl_store.specs.Meets.{locations_top}
use Rattle.gate_runs.specs.Stands.{AreEnds}
use Rattle.gate_paths.specs.Gathered.{spot_after}
use Rattle.gate_fails.specs.Params.{DoesParamsAct}
use Rattle.gate_fails.proofs.params.act_each.Given as goal

-- what became of the objects so far, and the spot behind their items
abbrev pub invariant-loop-x : goal.invariant-loop-x
invariant-loop-x l =
    record {
      grown : Grown l.fn.net l.net;
      ready : AreEnds l.net l.ends;
      bads : length l.ends.bads.items ≡ length l.fn.ends.bads.items;
      spot : l.k ≡ spot_after is_param l.fn.spot (take l.x-index l.items);
      most : l.k ≤ l.fn.spot + l.x-index;
      so_far : DoesParamsAct (seen.env l.here).layout l.net l.args l.fn.spot (take l.x-index l.items)
          l.fn.stored.locations.items l.stored.locations.items l.fn.ends l.ends;
    }
