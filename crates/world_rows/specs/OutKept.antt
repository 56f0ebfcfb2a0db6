-- A pointer behind a parameter that is set to null or kept.
--     void m(char**o,_Bool c){if(c)*o=0;}
use Rattle.std.specs.Prelude.{ℕ, Bool, true, false, Some, None, List, [], ◌∷◌, Result, Ok, codes}
use Rattle.run_store.specs.Concrete.{Cell, Nothing}
use Rattle.sc_tree.specs.declared.op.UnaryOp.TheVariants as unary
use Rattle.sc_tree.specs.declared.ctype.IntKind.TheVariants as kind
use Rattle.sc_tree.specs.declared.ctype.Widths.TheVariants as widths
use Rattle.sum_rows.specs.declared.report.Event.{Event}
use Rattle.sum_rows.specs.declared.report.What.TheVariants as what
use Rattle.sc_world.specs.declared.run.Origin.TheVariants as origin
use Rattle.sc_world.specs.Tree.{Void, Bool', Int, Ptr, Assign, Unary, Param, Number as Constant, Convert, Block, Evaluate, If, NoStms, Stms'}
use Rattle.sc_world.specs.Source.{Source}
use Rattle.sc_world.specs.Layout.{Layout}
use Rattle.sc_world.specs.World.{Ended}
use Rattle.world_rows.specs.Rows.{at, locking_machine}

abbrev pub names : List (List ℕ)
names = ((codes "o") ∷ (codes "c") ∷ [])

abbrev pub given : Source
given =
    record {
      widths = widths.Ilp32;
      names = names;
      structs = [];
      globals = [];
      functions = ((record { params = ((Ptr (Ptr (Int kind.Char))) ∷ Bool' ∷ []); result = Void }) ∷ []);
      params = ((Ptr (Ptr (Int kind.Char))) ∷ Bool' ∷ []);
      result = Void;
      locals = [];
      body =
          Block (Stms' (If (at 1 25) (Param 1 Bool') (Evaluate (Some (Assign None (Ptr (Int kind.Char)) (Unary unary.Deref (Param 0 (Ptr (Ptr (Int kind.Char))))
          (Ptr (Int kind.Char))) (Convert (Constant 0 (Int kind.Int)) (Ptr (Int kind.Char))) (Ptr (Int kind.Char)))))) NoStms) (at 1 35);
      kept = [];
      sums = [];
      depth = 2;
      reach = 2;
      machine = locking_machine;
      tries = true;
    }

abbrev pub laid : Layout
laid =
    record {
      locations =
          record { type = (Some (Ptr (Ptr (Int kind.Char)))); origin = origin.Param 0; root = 0; bit = Some 0; state = None; target = Some 2 } ∷
          record { type = (Some Bool'); origin = origin.Param 1; root = 1; bit = Some 1; state = None; target = None } ∷
          record { type = (Some (Ptr (Int kind.Char))); origin = origin.Target 0; root = 2; bit = Some 2; state = Some 3; target = Some 3 } ∷
          record { type = (Some (Int kind.Char)); origin = origin.Target 2; root = 3; bit = Some 4; state = Some 12; target = None } ∷
          [];
      sites = [];
      occurrences = [];
      spots = [];
      bits = 13;
    }

abbrev pub choice_set : List Bool
choice_set = (true ∷ true ∷ true ∷ true ∷ true ∷ true ∷ true ∷ true ∷ true ∷ true ∷ true ∷ true ∷ true ∷ [])

abbrev pub run_set : Result Cell Ended × List Event
run_set = (Ok Nothing, ((record { line = 1; col = 25; what = what.If true }) ∷ (record { line = 1; col = 35; what = what.End }) ∷ []))

abbrev pub choice_kept : List Bool
choice_kept = (false ∷ false ∷ false ∷ false ∷ false ∷ false ∷ false ∷ false ∷ false ∷ false ∷ false ∷ false ∷ false ∷ [])

abbrev pub run_kept : Result Cell Ended × List Event
run_kept = (Ok Nothing, ((record { line = 1; col = 25; what = what.If false }) ∷ (record { line = 1; col = 35; what = what.End }) ∷ []))
