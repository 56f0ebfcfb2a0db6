use Rattle.std.proofs.Common.{◌≡◌, ◌+◌, ◌≤◌, drop, map, vec_len, vec_capacity}
use Rattle.sc_world.specs.Known.{outs}
use Rattle.run_world.specs.Seen.{cell, env, world}
use Rattle.run_paths.specs.Seen.{outed, joined}
use Rattle.run_paths.proofs.gathered.outs.Given as goal

abbrev pub invariant-loop-x : goal.invariant-loop-x
invariant-loop-x l =
    record {
      same : joined (map outed l.found.items) (outs (env l.here) (map cell l.arguments) l.k (drop l.x-index l.items) (world l.store))
          ≡ outs (env l.fn.here) (map cell l.fn.arguments) l.fn.spot l.fn.items (world l.fn.store);
      spot : l.k ≤ l.spot + l.x-index;
      len : vec_len l.found ≤ l.x-index;
      room : vec_capacity l.found ≡ vec_capacity l.fn.found;
    }
