-- A loop of two turns.
--     typedef struct{int v;}spinlock_t;
--     void f(spinlock_t*l,int n){int i;spin_lock(l);for(i=0;i<n;i++)if(i==2)spin_lock(l);}
use Rattle.std.specs.Prelude.{ℕ, Bool, true, false, Some, None, List, [], ◌∷◌, Result, Err, codes}
use Rattle.run_store.specs.Concrete.{Cell}
use Rattle.sc_tree.specs.declared.op.BinaryOp.TheVariants as binary
use Rattle.sc_tree.specs.declared.op.Step.TheVariants as steps
use Rattle.sc_tree.specs.declared.ctype.IntKind.TheVariants as kind
use Rattle.sc_tree.specs.declared.ctype.Widths.TheVariants as widths
use Rattle.sc_typed.specs.declared.stmt.Declared.TheVariants as declared
use Rattle.sum_rows.specs.declared.report.Event.{Event}
use Rattle.sum_rows.specs.declared.report.What.TheVariants as what
use Rattle.sc_world.specs.declared.run.Origin.TheVariants as origin
use Rattle.sc_world.specs.declared.run.Reason.TheVariants as reason
use Rattle.sc_world.specs.Tree.{Void, Int, Ptr, Struct, Func, NoTypes, Assign, Binary, PostInc, Call, Param, Local, Function, Number as Constant, NoExps, Exps', NoInit, Begin, Block, Decl, Evaluate, If, For, NoStms, Stms'}
use Rattle.sc_world.specs.Source.{Source, Operation}
use Rattle.sc_world.specs.Layout.{Layout}
use Rattle.sc_world.specs.World.{Ended, Error, Aside}
use Rattle.world_rows.specs.Rows.{at, locking_machine}

abbrev pub names : List (List ℕ)
names = ((codes "spin_lock") ∷ (codes "v") ∷ (codes "l") ∷ (codes "n") ∷ (codes "i") ∷ [])

abbrev pub given : Source
given =
    record {
      widths = widths.Ilp32;
      names = names;
      structs = ((record { union = false; members = ((record { name = (Some (record { at = 1 })); type = Int kind.Int }) ∷ []) }) ∷ []);
      globals = [];
      functions = ((record { params = ((Ptr (Struct 0)) ∷ (Int kind.Int) ∷ []); result = Void }) ∷ []);
      params = ((Ptr (Struct 0)) ∷ (Int kind.Int) ∷ []);
      result = Void;
      locals = ((Int kind.Int) ∷ []);
      body =
          Block (Stms' (Decl ((record { declared = declared.Local 0; init = NoInit }) ∷ [])) (Stms' (Evaluate (Some (Call (record {
            token = (at 2 43);
            first = (at
                2 34);
          }) (Function (record { at = 0 }) None (Func Void false NoTypes false)) (Exps' (Param 0 (Ptr (Struct 0))) NoExps) Void))) (Stms' (For (at 2 47)
          (Begin (Assign None (Int kind.Int) (Local 0 (Int kind.Int)) (Constant 0 (Int kind.Int)) (Int kind.Int))) (Some (Binary binary.Less (Local 0 (Int
          kind.Int)) (Param 1 (Int kind.Int)) (Int kind.Int))) (Some (PostInc steps.Up (Local 0 (Int kind.Int)) (Int kind.Int))) (If (at 2 63) (Binary
          binary.Equal (Local 0 (Int kind.Int)) (Constant 2 (Int kind.Int)) (Int kind.Int)) (Evaluate (Some (Call (record {
            token = (at 2 80);
            first = (at 2 71);
          }) (Function (record { at = 0 }) None (Func Void false NoTypes false)) (Exps' (Param 0 (Ptr (Struct 0))) NoExps) Void))))) NoStms))) (at 2 84);
      kept = [];
      sums = [];
      depth = 2;
      reach = 2;
      machine = locking_machine;
      tries = true;
    }

abbrev pub laid : Layout
laid =
    record {
      locations =
          record { type = (Some (Ptr (Struct 0))); origin = origin.Param 0; root = 0; bit = Some 0; state = None; target = Some 3 } ∷
          record { type = (Some (Int kind.Int)); origin = origin.Param 1; root = 1; bit = Some 1; state = None; target = None } ∷
          record { type = (Some (Int kind.Int)); origin = origin.Local 0; root = 2; bit = None; state = None; target = None } ∷
          record { type = (Some (Struct 0)); origin = origin.Target 0; root = 3; bit = None; state = Some 33; target = None } ∷
          [];
      sites = ((record { pos = (at 2 34); bracket = (at 2 43); turns = 1; effect = Operation 0; result = Void; object = Void }) ∷ (record {
        pos = (at 2 71);
        bracket = (at 2 80);
        turns = 2;
        effect = Operation 0;
        result = Void;
        object = Void;
      }) ∷ []);
      occurrences = ((record { site = 0; object = None; bit = 34; spot = 0 }) ∷ (record { site = 1; object = None; bit = 34; spot = 0 }) ∷ (record {
        site =
            1;
        object = None;
        bit = 34;
        spot = 0;
      }) ∷ []);
      spots = [];
      bits = 34;
    }

abbrev pub choice_ones : List Bool
choice_ones = (true ∷ true ∷ true ∷ true ∷ true ∷ true ∷ true ∷ true ∷ true ∷ true ∷ true ∷ true ∷ true ∷ true ∷ true ∷ true ∷ true ∷ true ∷ true ∷ true ∷
    true ∷ true ∷ true ∷ true ∷ true ∷ true ∷ true ∷ true ∷ true ∷ true ∷ true ∷ true ∷ true ∷ true ∷ [])

abbrev pub run_ones : Result Cell Ended × List Event
run_ones = (
  Err (Error 3),
  ((record { line = 2; col = 34; what = what.Call (Some (record { at = 0 })) }) ∷ (record { line = 2; col = 34; what = what.Bad 3 })
      ∷ []),
)

abbrev pub choice_zeros : List Bool
choice_zeros = (false ∷ false ∷ false ∷ false ∷ false ∷ false ∷ false ∷ false ∷ false ∷ false ∷ false ∷ false ∷ false ∷ false ∷ false ∷ false ∷ false ∷ false
    ∷ false ∷ false ∷ false ∷ false ∷ false ∷ false ∷ false ∷ false ∷ false ∷ false ∷ false ∷ false ∷ false ∷ false ∷ false ∷ false ∷ [])

abbrev pub run_zeros : Result Cell Ended × List Event
run_zeros = (Err (Aside reason.Null), ((record { line = 2; col = 34; what = what.Call (Some (record { at = 0 })) }) ∷ []))
