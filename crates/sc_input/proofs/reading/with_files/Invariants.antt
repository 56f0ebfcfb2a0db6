use Rattle.std.proofs.Common.{◌≡◌, ◌≤◌, length, map, take}
use Rattle.sc_input.specs.Input.{so_far, Give, IsOpen}
use Rattle.sc_input.proofs.reading.with_files.Given as goal

-- the files so far are read, and nothing else is different outside
abbrev pub invariant-loop-name : goal.invariant-loop-name
invariant-loop-name g l = record {
  room : IsOpen (so_far l.reading);
  count : length l.reading.units ≡ l.name-index;
  read : Give (g.F.Files.held l.fn.files) (so_far l.fn.start) (map (λ name. name.now) (take l.name-index l.named)) (so_far l.reading);
  held : g.F.Files.held l.files ≡ g.F.Files.held l.fn.files;
  firm : g.F.Files.firm l.files ≡ g.F.Files.firm l.fn.files;
  later : g.F.Files.faults l.fn.files ≤ g.F.Files.faults l.files;
}
