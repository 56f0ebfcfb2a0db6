-- A division: of the least number by -1, by 0, and of it by 2.
--     int f(int a,int b){return a/b;}
use Rattle.std.specs.Prelude.{ℕ, Bool, true, false, Some, None, List, [], ◌∷◌, Result, Ok, Err, codes}
use Rattle.run_store.specs.Concrete.{Cell, Number}
use Rattle.sc_tree.specs.declared.op.BinaryOp.TheVariants as binary
use Rattle.sc_tree.specs.declared.ctype.IntKind.TheVariants as kind
use Rattle.sc_tree.specs.declared.ctype.Widths.TheVariants as widths
use Rattle.sum_rows.specs.declared.report.Event.{Event}
use Rattle.sum_rows.specs.declared.report.What.TheVariants as what
use Rattle.sc_world.specs.declared.run.Origin.TheVariants as origin
use Rattle.sc_world.specs.declared.run.Reason.TheVariants as reason
use Rattle.sc_world.specs.Tree.{Int, Binary, Param, Block, Return, NoStms, Stms'}
use Rattle.sc_world.specs.Source.{Source}
use Rattle.sc_world.specs.Layout.{Layout}
use Rattle.sc_world.specs.World.{Ended, Aside}
use Rattle.world_rows.specs.Rows.{at, locking_machine}

abbrev pub names : List (List ℕ)
names = ((codes "a") ∷ (codes "b") ∷ [])

abbrev pub given : Source
given =
    record {
      widths = widths.Ilp32;
      names = names;
      structs = [];
      globals = [];
      functions = ((record { params = ((Int kind.Int) ∷ (Int kind.Int) ∷ []); result = Int kind.Int }) ∷ []);
      params = ((Int kind.Int) ∷ (Int kind.Int) ∷ []);
      result = Int kind.Int;
      locals = [];
      body =
          Block (Stms' (Return (at 1 20) (Some (Binary binary.Div (Param 0 (Int kind.Int)) (Param 1 (Int kind.Int)) (Int kind.Int)))) NoStms) (at 1 31);
      kept = [];
      sums = [];
      depth = 2;
      reach = 2;
      machine = locking_machine;
      tries = true;
    }

abbrev pub laid : Layout
laid =
    record {
      locations =
          record { type = (Some (Int kind.Int)); origin = origin.Param 0; root = 0; bit = Some 0; state = None; target = None } ∷
          record { type = (Some (Int kind.Int)); origin = origin.Param 1; root = 1; bit = Some 32; state = None; target = None } ∷
          [];
      sites = [];
      occurrences = [];
      spots = [];
      bits = 64;
    }

abbrev pub choice_overflows : List Bool
choice_overflows = (true ∷ false ∷ false ∷ false ∷ false ∷ false ∷ false ∷ false ∷ false ∷ false ∷ false ∷ false ∷ false ∷ false ∷ false ∷ false ∷ false ∷
    false ∷ false ∷ false ∷ false ∷ false ∷ false ∷ false ∷ false ∷ false ∷ false ∷ false ∷ false ∷ false ∷ false ∷ false ∷ true ∷ true ∷ true ∷ true ∷ true ∷
    true ∷ true ∷ true ∷ true ∷ true ∷ true ∷ true ∷ true ∷ true ∷ true ∷ true ∷ true ∷ true ∷ true ∷ true ∷ true ∷ true ∷ true ∷ true ∷ true ∷ true ∷ true ∷
    true ∷ true ∷ true ∷ true ∷ true ∷ [])

abbrev pub run_overflows : Result Cell Ended × List Event
run_overflows = (Err (Aside reason.Divide), [])

abbrev pub choice_by_zero : List Bool
choice_by_zero = (true ∷ false ∷ false ∷ false ∷ false ∷ false ∷ false ∷ false ∷ false ∷ false ∷ false ∷ false ∷ false ∷ false ∷ false ∷ false ∷ false ∷
    false ∷ false ∷ false ∷ false ∷ false ∷ false ∷ false ∷ false ∷ false ∷ false ∷ false ∷ false ∷ false ∷ false ∷ false ∷ false ∷ false ∷ false ∷ false ∷
    false ∷ false ∷ false ∷ false ∷ false ∷ false ∷ false ∷ false ∷ false ∷ false ∷ false ∷ false ∷ false ∷ false ∷ false ∷ false ∷ false ∷ false ∷ false ∷
    false ∷ false ∷ false ∷ false ∷ false ∷ false ∷ false ∷ false ∷ false ∷ [])

abbrev pub run_by_zero : Result Cell Ended × List Event
run_by_zero = (Err (Aside reason.Divide), [])

abbrev pub choice_exits : List Bool
choice_exits = (true ∷ false ∷ false ∷ false ∷ false ∷ false ∷ false ∷ false ∷ false ∷ false ∷ false ∷ false ∷ false ∷ false ∷ false ∷ false ∷ false ∷ false
    ∷ false ∷ false ∷ false ∷ false ∷ false ∷ false ∷ false ∷ false ∷ false ∷ false ∷ false ∷ false ∷ false ∷ false ∷ false ∷ false ∷ false ∷ false ∷ false ∷
    false ∷ false ∷ false ∷ false ∷ false ∷ false ∷ false ∷ false ∷ false ∷ false ∷ false ∷ false ∷ false ∷ false ∷ false ∷ false ∷ false ∷ false ∷ false ∷
    false ∷ false ∷ false ∷ false ∷ false ∷ false ∷ true ∷ false ∷ [])

abbrev pub run_exits : Result Cell Ended × List Event
run_exits = (Ok (Number 32 3221225472), ((record { line = 1; col = 20; what = what.Return }) ∷ []))
