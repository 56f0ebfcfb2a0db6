-- A parameter that is freed.
--     void f(char*p){kfree(p);}
use Rattle.std.specs.Prelude.{ℕ, Bool, true, false, Some, None, List, [], ◌∷◌, Result, Ok, codes}
use Rattle.run_store.specs.Concrete.{Cell, Nothing}
use Rattle.sc_tree.specs.declared.ctype.IntKind.TheVariants as kind
use Rattle.sc_tree.specs.declared.ctype.Widths.TheVariants as widths
use Rattle.sum_rows.specs.declared.report.Event.{Event}
use Rattle.sum_rows.specs.declared.report.What.TheVariants as what
use Rattle.sc_world.specs.declared.run.Origin.TheVariants as origin
use Rattle.sc_world.specs.Tree.{Void, Int, Ptr, Func, NoTypes, Call, Param, Function, NoExps, Exps', Block, Evaluate, NoStms, Stms'}
use Rattle.sc_world.specs.Source.{Source, Release}
use Rattle.sc_world.specs.Layout.{Layout}
use Rattle.sc_world.specs.World.{Ended}
use Rattle.world_rows.specs.Rows.{at, locking_machine}

abbrev pub names : List (List ℕ)
names = ((codes "kfree") ∷ (codes "p") ∷ [])

abbrev pub given : Source
given =
    record {
      widths = widths.Ilp32;
      names = names;
      structs = [];
      globals = [];
      functions = ((record { params = ((Ptr (Int kind.Char)) ∷ []); result = Void }) ∷ []);
      params = ((Ptr (Int kind.Char)) ∷ []);
      result = Void;
      locals = [];
      body =
          Block (Stms' (Evaluate (Some (Call (record { token = (at 1 21); first = (at 1 16) }) (Function (record { at = 0 }) None (Func Void false NoTypes false))
          (Exps' (Param 0 (Ptr (Int kind.Char))) NoExps) Void))) NoStms) (at 1 25);
      kept = [];
      sums = [];
      depth = 2;
      reach = 2;
      machine = locking_machine;
      tries = true;
    }

abbrev pub laid : Layout
laid =
    record {
      locations =
          record { type = (Some (Ptr (Int kind.Char))); origin = origin.Param 0; root = 0; bit = Some 0; state = None; target = Some 1 } ∷
          record { type = (Some (Int kind.Char)); origin = origin.Target 0; root = 1; bit = Some 1; state = Some 9; target = None } ∷
          [];
      sites = ((record { pos = (at 1 16); bracket = (at 1 21); turns = 1; effect = Release; result = Void; object = Void }) ∷ []);
      occurrences = ((record { site = 0; object = None; bit = 10; spot = 0 }) ∷ []);
      spots = [];
      bits = 10;
    }

abbrev pub choice_freed : List Bool
choice_freed = (true ∷ true ∷ false ∷ false ∷ false ∷ false ∷ false ∷ false ∷ false ∷ false ∷ [])

abbrev pub run_freed : Result Cell Ended × List Event
run_freed = (
  Ok Nothing,
  ((record { line = 1; col = 16; what = what.Call (Some (record { at = 0 })) }) ∷ (record { line = 1; col = 25; what = what.End }) ∷
      []),
)

abbrev pub choice_null : List Bool
choice_null = (false ∷ false ∷ false ∷ false ∷ false ∷ false ∷ false ∷ false ∷ false ∷ false ∷ [])

abbrev pub run_null : Result Cell Ended × List Event
run_null = (
  Ok Nothing,
  ((record { line = 1; col = 16; what = what.Call (Some (record { at = 0 })) }) ∷ (record { line = 1; col = 25; what = what.End }) ∷
      []),
)
