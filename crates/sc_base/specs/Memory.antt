-- What contracts see of the sink and of the files that are kept in memory.
use Rattle.std.specs.Prelude.{ℕ, Vec, String, string_bytes, ◌+◌, ◌-◌, ◌^◌, ◌==◌, min, Bool, if◌then◌else◌, List, [], map, length, Option, None, slice_get}
use Rattle.std.specs.declared.alloc.Global.{Global}
use Rattle.std.specs.List.{list_any}
use Rattle.std.specs.Option.{option_map_or}

-- A sink in memory: the bytes taken, how many it has room for, and how often it failed.
pub record BoundedSink : Type 0 where
  pub bytes : List ℕ
  pub room : ℕ
  pub faults : ℕ

-- Files in memory: their names and bytes, the numbers of the calls that are to fail, how many calls
-- there were, how often one failed, and what is left of the started file, where one is started.
pub record FilesInMemory : Type 0 where
  pub held : List (List ℕ × List ℕ)
  pub failing : List ℕ
  pub calls : ℕ
  pub faults : ℕ
  pub left : Option (List ℕ)

-- one more, where that fits 64 bits
abbrev pub one_more : ℕ → ℕ
one_more count = min (count + 1) (2 ^ 64 - 1)

-- whether the next call is to fail; calls are numbered from 1 on
abbrev pub is_to_fail : FilesInMemory → Bool
is_to_fail files = list_any (λ call. call == one_more files.calls) files.failing

-- Where no call is to fail, all names are firm; else none is.
abbrev pub firm_names : FilesInMemory → List (List ℕ)
firm_names files = if length files.failing == 0 then map (λ file. file.0) files.held else []

-- the state after a call that failed
abbrev pub after_fault : FilesInMemory → FilesInMemory
after_fault files = record files { calls = one_more files.calls; faults = one_more files.faults; left = None }

-- the state after a call that did not fail, with so much left of the started file
abbrev pub after_call : FilesInMemory → Option (List ℕ) → FilesInMemory
after_call files left = record files { calls = one_more files.calls; left = left }

-- the names and the bytes of the files
abbrev pub named_bytes : List (String Global × Vec ℕ Global) → List (List ℕ × List ℕ)
named_bytes files = map (λ file. (string_bytes file.0, file.1.items)) files

-- the bytes of the file at that place, none past the last
abbrev pub content_at : List (String Global × Vec ℕ Global) → ℕ → List ℕ
content_at files place = option_map_or (λ file. file.1.items) (slice_get files place) []
