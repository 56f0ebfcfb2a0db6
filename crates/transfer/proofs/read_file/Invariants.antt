use Rattle.std.proofs.Common.{◌≡◌, true, ◌-◌, ◌≤◌, vec_len}
use Rattle.sc_base.specs.Held.{is_named}
use Rattle.transfer.proofs.Transfers.{AreBytesOf}
use Rattle.transfer.proofs.read_file.Given as goal

abbrev pub invariant-loop-room : goal.invariant-loop-room
invariant-loop-room g l = record {
  within : vec_len l.bytes ≤ l.limit;
  started : g.F.Files.started l.files ≡ true;
  firmly : g.F.Files.firmly l.files ≡ is_named l.name (g.F.Files.firm l.fn.files);
  firm : g.F.Files.firm l.files ≡ g.F.Files.firm l.fn.files;
  held : g.F.Files.held l.files ≡ g.F.Files.held l.fn.files;
  later : g.F.Files.faults l.fn.files ≤ g.F.Files.faults l.files;
  bytes : AreBytesOf (g.F.Files.held l.fn.files) l.name l.bytes.items (g.F.Files.left l.files);
}

abbrev pub decreases-loop-room : goal.decreases-loop-room
decreases-loop-room g l = l.limit - vec_len l.bytes
