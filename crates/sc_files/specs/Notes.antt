-- Declarations at file scope (C11 6.9): what one declared stays. One that is refused leaves a note and nothing else.
use Rattle.std.specs.Prelude.{ℕ, Option, Some, None, List, [], ◌∷◌, ◌++◌, length, take, slice_set}
use Rattle.sc_base.specs.declared.skip.Skip.{Skip}
use Rattle.sc_typed.specs.declared.program.StructDef.{StructDef}
use Rattle.sc_typed.specs.Extents.{struct_at}
use Rattle.scopes.specs.Frames.{kept, forgotten, no_frames}
use Rattle.sc_rules.specs.declared.walk.Walk.{Walk}
use Rattle.sc_rules.specs.declared.walk.Fault.{Fault}
use Rattle.sc_rules.specs.Walks.{Check}
use Rattle.sc_files.specs.declared.notes.Before.{Before}

abbrev pub incomplete : StructDef → StructDef
incomplete s = record s { fields = None; extent = None }

-- the table with the structs of those numbers incomplete
abbrev pub incomplete_at : List ℕ → List StructDef → List StructDef
incomplete_at [] structs = structs
incomplete_at (n ∷ ns) structs = incomplete_at ns (slice_set structs n (incomplete (struct_at structs n)))

-- how many globals, records and functions local to a file a walk has
abbrev pub so_far : Walk → Before
so_far w = record { globals = length w.globals; records = length w.records; local_functions = length w.local_functions }

-- The names of a declaration with a fault go, the structs that it completed are incomplete again, its globals are none,
-- and no function is local to the file by it: so many globals, records and local functions stay.
abbrev pub taken_back : Before → Walk → Walk
taken_back b w =
    record w {
      names = forgotten w.names;
      tags = forgotten w.tags;
      structs = incomplete_at w.completed w.structs;
      completed = [];
      globals = take b.globals w.globals;
      records = take b.records w.records;
      local_functions = take b.local_functions w.local_functions;
      first = None;
    }

-- what a declaration without a fault declared
abbrev pub kept_walk : Walk → Walk
kept_walk w = record w { names = kept w.names; tags = kept w.tags; completed = []; first = None }

abbrev pub noted : Before → Option Fault → List Skip → Walk → List Skip × Walk
noted b None notes w = (notes, kept_walk w)
noted b (Some f) notes w = (notes ++ f.skip ∷ [], taken_back b w)

-- the end of a declaration, with what there was before it
abbrev pub noted_in : Before → List Skip → Walk → List Skip × Walk
noted_in b notes w = noted b w.first notes w

-- a file begins without names
abbrev pub begin_file : Check (Unit {0})
begin_file w = (tt, record w { names = no_frames; tags = no_frames })
