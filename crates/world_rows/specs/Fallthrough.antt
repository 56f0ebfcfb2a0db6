-- A switch whose first case falls through.
--     typedef struct{int v;}spinlock_t;
--     void f(spinlock_t*l,int k){spin_lock(l);switch(k){case 1:spin_unlock(l);case 2:spin_unlock(l);}}
use Rattle.std.specs.Prelude.{ℕ, Bool, true, false, Some, None, List, [], ◌∷◌, Result, Ok, Err, codes, pos}
use Rattle.run_store.specs.Concrete.{Cell, Nothing}
use Rattle.sc_tree.specs.declared.ctype.IntKind.TheVariants as kind
use Rattle.sc_tree.specs.declared.ctype.Widths.TheVariants as widths
use Rattle.sum_rows.specs.declared.report.Event.{Event}
use Rattle.sum_rows.specs.declared.report.What.TheVariants as what
use Rattle.sc_world.specs.declared.run.Origin.TheVariants as origin
use Rattle.sc_world.specs.declared.run.Reason.TheVariants as reason
use Rattle.sc_world.specs.Tree.{Void, Int, Ptr, Struct, Func, NoTypes, Call, Param, Function, Number as Constant, NoExps, Exps', Block, Evaluate, Switch, Case, NoStms, Stms'}
use Rattle.sc_world.specs.Source.{Source, Operation}
use Rattle.sc_world.specs.Layout.{Layout}
use Rattle.sc_world.specs.World.{Ended, Aside}
use Rattle.world_rows.specs.Rows.{at, locking_machine}

abbrev pub names : List (List ℕ)
names = ((codes "spin_unlock") ∷ (codes "spin_lock") ∷ (codes "v") ∷ (codes "l") ∷ (codes "k") ∷ [])

abbrev pub given : Source
given =
    record {
      widths = widths.Ilp32;
      names = names;
      structs = ((record { union = false; members = ((record { name = (Some (record { at = 2 })); type = Int kind.Int }) ∷ []) }) ∷ []);
      globals = [];
      functions = ((record { params = ((Ptr (Struct 0)) ∷ (Int kind.Int) ∷ []); result = Void }) ∷ []);
      params = ((Ptr (Struct 0)) ∷ (Int kind.Int) ∷ []);
      result = Void;
      locals = [];
      body =
          Block (Stms' (Evaluate (Some (Call (record { token = (at 2 37); first = (at 2 28) }) (Function (record { at = 1 }) None (Func Void false NoTypes false))
          (Exps' (Param 0 (Ptr (Struct 0))) NoExps) Void))) (Stms' (Switch (at 2 41) (Param 1 (Int kind.Int)) (Stms' (Case 1 (Constant 1 (Int kind.Int))) (Stms'
          (Evaluate (Some (Call (record { token = (at 2 69); first = (at 2 58) }) (Function (record { at = 0 }) None (Func Void false NoTypes false)) (Exps'
          (Param 0 (Ptr (Struct 0))) NoExps) Void))) (Stms' (Case 2 (Constant 2 (Int kind.Int))) (Stms' (Evaluate (Some (Call (record {
            token = (at 2 91);
            first
                = (at 2 80);
          }) (Function (record { at = 0 }) None (Func Void false NoTypes false)) (Exps' (Param 0 (Ptr (Struct 0))) NoExps) Void))) NoStms)))))
          NoStms)) (at 2 96);
      kept = [];
      sums = [];
      depth = 2;
      reach = 2;
      machine = locking_machine;
      tries = true;
    }

abbrev pub laid : Layout
laid =
    record {
      locations =
          record { type = (Some (Ptr (Struct 0))); origin = origin.Param 0; root = 0; bit = Some 0; state = None; target = Some 2 } ∷
          record { type = (Some (Int kind.Int)); origin = origin.Param 1; root = 1; bit = Some 1; state = None; target = None } ∷
          record { type = (Some (Struct 0)); origin = origin.Target 0; root = 2; bit = None; state = Some 33; target = None } ∷
          [];
      sites = ((record { pos = (at 2 28); bracket = (at 2 37); turns = 1; effect = Operation 0; result = Void; object = Void }) ∷ (record {
        pos = (at 2 58);
        bracket = (at 2 69);
        turns = 1;
        effect = Operation 3;
        result = Void;
        object = Void;
      }) ∷ (record {
        pos = (at 2 80);
        bracket = (at 2 91);
        turns = 1;
        effect = Operation 3;
        result = Void;
        object = Void;
      }) ∷ []);
      occurrences = ((record { site = 0; object = None; bit = 34; spot = 0 }) ∷ (record { site = 1; object = None; bit = 34; spot = 0 }) ∷ (record {
        site =
            2;
        object = None;
        bit = 34;
        spot = 0;
      }) ∷ []);
      spots = [];
      bits = 34;
    }

abbrev pub choice_first : List Bool
choice_first = (true ∷ false ∷ false ∷ true ∷ false ∷ false ∷ false ∷ false ∷ false ∷ false ∷ false ∷ false ∷ false ∷ false ∷ false ∷ false ∷ false ∷ false ∷
    false ∷ false ∷ false ∷ false ∷ false ∷ false ∷ false ∷ false ∷ false ∷ false ∷ false ∷ false ∷ false ∷ false ∷ false ∷ false ∷ [])

abbrev pub run_first : Result Cell Ended × List Event
run_first = (
  Ok Nothing,
  ((record { line = 2; col = 28; what = what.Call (Some (record { at = 1 })) }) ∷ (record {
    line = 2;
    col = 41;
    what = what.Switch
        (pos 536870912);
  }) ∷ (record { line = 2; col = 96; what = what.End }) ∷ []),
)

abbrev pub choice_zeros : List Bool
choice_zeros = (false ∷ false ∷ false ∷ false ∷ false ∷ false ∷ false ∷ false ∷ false ∷ false ∷ false ∷ false ∷ false ∷ false ∷ false ∷ false ∷ false ∷ false
    ∷ false ∷ false ∷ false ∷ false ∷ false ∷ false ∷ false ∷ false ∷ false ∷ false ∷ false ∷ false ∷ false ∷ false ∷ false ∷ false ∷ [])

abbrev pub run_zeros : Result Cell Ended × List Event
run_zeros = (Err (Aside reason.Null), ((record { line = 2; col = 28; what = what.Call (Some (record { at = 1 })) }) ∷ []))
