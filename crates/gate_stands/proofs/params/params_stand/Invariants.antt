use Rattle.std.proofs.Common.{◌≡◌, ◌+◌, ◌≤◌, take}
use Rattle.bit_net.specs.Runs.{Grown}
use Rattle.run_world.specs.Seen as seen
use Rattle.sc_world.specs.Known.{is_param}
use Rattle.gate_paths.specs.Gathered.{spot_after}
use Rattle.gate_stands.specs.Params.{ParamsStand}
use Rattle.gate_stands.proofs.params.params_stand.Given as goal

-- the gate tells of the items so far; the spot behind them
abbrev pub invariant-loop-x : goal.invariant-loop-x
invariant-loop-x l =
    record {
      grown : Grown l.fn.net l.net;
      spot : l.k ≡ spot_after is_param l.fn.spot (take l.x-index l.items);
      most : l.k ≤ l.fn.spot + l.x-index;
      so_far : ParamsStand (seen.env l.here).source (seen.env l.here).layout l.net l.args l.given l.outcome l.fn.spot (take l.x-index l.items) l.all.at;
    }
