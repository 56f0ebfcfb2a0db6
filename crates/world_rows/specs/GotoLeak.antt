-- A goto that leaves an object behind.
--     void f(int n){char*p=kmalloc(8,0);if(n)goto out;kfree(p);out:;}
use Rattle.std.specs.Prelude.{ℕ, Bool, true, false, Some, None, List, [], ◌∷◌, Result, Ok, codes}
use Rattle.run_store.specs.Concrete.{Cell, Nothing}
use Rattle.sc_tree.specs.declared.ctype.IntKind.TheVariants as kind
use Rattle.sc_tree.specs.declared.ctype.Widths.TheVariants as widths
use Rattle.sc_typed.specs.declared.stmt.Declared.TheVariants as declared
use Rattle.sum_rows.specs.declared.report.Event.{Event}
use Rattle.sum_rows.specs.declared.report.What.TheVariants as what
use Rattle.sc_world.specs.declared.run.Origin.TheVariants as origin
use Rattle.sc_world.specs.Tree.{Void, Int, Ptr, Func, NoTypes, Call, Param, Local, Function, Number as Constant, Convert, NoExps, Exps', One, Block, Decl, Evaluate, If, Goto, Label, NoStms, Stms'}
use Rattle.sc_world.specs.Source.{Source, Allocate, Release}
use Rattle.sc_world.specs.Layout.{Layout}
use Rattle.sc_world.specs.World.{Ended}
use Rattle.world_rows.specs.Rows.{at, locking_machine}

abbrev pub names : List (List ℕ)
names = ((codes "out") ∷ (codes "kfree") ∷ (codes "kmalloc") ∷ (codes "n") ∷ (codes "p") ∷ [])

abbrev pub given : Source
given =
    record {
      widths = widths.Ilp32;
      names = names;
      structs = [];
      globals = [];
      functions = ((record { params = ((Int kind.Int) ∷ []); result = Void }) ∷ []);
      params = ((Int kind.Int) ∷ []);
      result = Void;
      locals = ((Ptr (Int kind.Char)) ∷ []);
      body =
          Block (Stms' (Decl ((record {
            declared = declared.Local 0;
            init = One (Convert (Call (record { token = (at 1 29); first = (at 1 22) }) (Function (record
                { at = 2 }) None (Func (Ptr Void) false NoTypes false)) (Exps' (Constant 8 (Int kind.Int)) (Exps' (Constant 0 (Int kind.Int)) NoExps)) (Ptr Void)) (Ptr
                (Int kind.Char)));
          }) ∷ [])) (Stms' (If (at 1 35) (Param 0 (Int kind.Int)) (Goto (at 1 40) (record { at = 0 }))) (Stms' (Evaluate (Some (Call (record {
            token = (at 1 54);
            first = (at 1 49);
          }) (Function (record { at = 1 }) None (Func Void false NoTypes false)) (Exps' (Local 0 (Ptr (Int kind.Char)))
          NoExps) Void))) (Stms' (Label (record { at = 0 }) (Evaluate None)) NoStms)))) (at 1 63);
      kept = [];
      sums = [];
      depth = 2;
      reach = 2;
      machine = locking_machine;
      tries = true;
    }

abbrev pub laid : Layout
laid =
    record {
      locations =
          record { type = (Some (Int kind.Int)); origin = origin.Param 0; root = 0; bit = Some 0; state = None; target = None } ∷
          record { type = (Some (Ptr (Int kind.Char))); origin = origin.Local 0; root = 1; bit = None; state = None; target = None } ∷
          record { type = (Some (Int kind.Char)); origin = origin.Call 0; root = 2; bit = Some 33; state = None; target = None } ∷
          [];
      sites = ((record { pos = (at 1 22); bracket = (at 1 29); turns = 1; effect = Allocate false; result = Ptr Void; object = Int kind.Char }) ∷ (record {
        pos = (at 1 49);
        bracket = (at 1 54);
        turns = 1;
        effect = Release;
        result = Void;
        object = Void;
      }) ∷ []);
      occurrences = ((record { site = 0; object = Some 2; bit = 32; spot = 0 }) ∷ (record { site = 1; object = None; bit = 41; spot = 0 }) ∷ []);
      spots = [];
      bits = 41;
    }

abbrev pub choice_ones : List Bool
choice_ones = (true ∷ true ∷ true ∷ true ∷ true ∷ true ∷ true ∷ true ∷ true ∷ true ∷ true ∷ true ∷ true ∷ true ∷ true ∷ true ∷ true ∷ true ∷ true ∷ true ∷
    true ∷ true ∷ true ∷ true ∷ true ∷ true ∷ true ∷ true ∷ true ∷ true ∷ true ∷ true ∷ true ∷ true ∷ true ∷ true ∷ true ∷ true ∷ true ∷ true ∷ true ∷ [])

abbrev pub run_ones : Result Cell Ended × List Event
run_ones = (
  Ok Nothing,
  ((record { line = 1; col = 22; what = what.Call (Some (record { at = 2 })) }) ∷ (record { line = 1; col = 35; what = what.If true })
      ∷ (record { line = 1; col = 40; what = what.Goto (record { at = 0 }) }) ∷ (record { line = 1; col = 63; what = what.End }) ∷ []),
)

abbrev pub choice_zeros : List Bool
choice_zeros = (false ∷ false ∷ false ∷ false ∷ false ∷ false ∷ false ∷ false ∷ false ∷ false ∷ false ∷ false ∷ false ∷ false ∷ false ∷ false ∷ false ∷ false
    ∷ false ∷ false ∷ false ∷ false ∷ false ∷ false ∷ false ∷ false ∷ false ∷ false ∷ false ∷ false ∷ false ∷ false ∷ false ∷ false ∷ false ∷ false ∷ false ∷
    false ∷ false ∷ false ∷ false ∷ [])

abbrev pub run_zeros : Result Cell Ended × List Event
run_zeros = (
  Ok Nothing,
  ((record { line = 1; col = 22; what = what.Call (Some (record { at = 2 })) }) ∷ (record {
    line = 1;
    col = 35;
    what = what.If false;
  }) ∷ (record { line = 1; col = 49; what = what.Call (Some (record { at = 1 })) }) ∷ (record { line = 1; col = 63; what = what.End }) ∷ []),
)
