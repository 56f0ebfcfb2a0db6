-- A lock that is taken.
--     typedef struct{int v;}spinlock_t;
--     void f(_Bool c,spinlock_t*l){spin_lock(l);}
use Rattle.std.specs.Prelude.{ℕ, Bool, true, false, Some, None, List, [], ◌∷◌, Result, Ok, Err, codes}
use Rattle.run_store.specs.Concrete.{Cell, Nothing}
use Rattle.sc_tree.specs.declared.ctype.IntKind.TheVariants as kind
use Rattle.sc_tree.specs.declared.ctype.Widths.TheVariants as widths
use Rattle.sum_rows.specs.declared.path.Root.TheVariants as root
use Rattle.sum_rows.specs.declared.path.Step.TheVariants as step
use Rattle.sum_rows.specs.declared.row.Item.TheVariants as item
use Rattle.sum_rows.specs.declared.row.State.TheVariants as state
use Rattle.sum_rows.specs.declared.row.Gives.TheVariants as gives
use Rattle.sum_rows.specs.declared.report.Event.{Event}
use Rattle.sum_rows.specs.declared.report.What.TheVariants as what
use Rattle.sum_rows.specs.declared.report.Verdict.{Verdict}
use Rattle.sum_rows.specs.declared.report.Verdict.TheVariants as verdict
use Rattle.sc_world.specs.declared.run.Origin.TheVariants as origin
use Rattle.sc_world.specs.declared.run.Reason.TheVariants as reason
use Rattle.sc_world.specs.Tree.{Void, Bool', Int, Ptr, Struct, Func, NoTypes, Call, Param, Function, NoExps, Exps', Block, Evaluate, NoStms, Stms'}
use Rattle.sc_world.specs.Source.{Source, Operation}
use Rattle.sc_world.specs.Layout.{Layout}
use Rattle.sc_world.specs.Paths.{Texts}
use Rattle.sc_world.specs.World.{Ended, Error, Aside}
use Rattle.world_rows.specs.Rows.{at, locking_machine}

abbrev pub names : List (List ℕ)
names = ((codes "spin_lock") ∷ (codes "v") ∷ (codes "c") ∷ (codes "l") ∷ [])

abbrev pub given : Source
given =
    record {
      widths = widths.Ilp32;
      names = names;
      structs = ((record { union = false; members = ((record { name = (Some (record { at = 1 })); type = Int kind.Int }) ∷ []) }) ∷ []);
      globals = [];
      functions = ((record { params = (Bool' ∷ (Ptr (Struct 0)) ∷ []); result = Void }) ∷ []);
      params = (Bool' ∷ (Ptr (Struct 0)) ∷ []);
      result = Void;
      locals = [];
      body =
          Block (Stms' (Evaluate (Some (Call (record { token = (at 2 39); first = (at 2 30) }) (Function (record { at = 0 }) None (Func Void false NoTypes false))
          (Exps' (Param 1 (Ptr (Struct 0))) NoExps) Void))) NoStms) (at 2 43);
      kept = [];
      sums = [];
      depth = 2;
      reach = 2;
      machine = locking_machine;
      tries = true;
    }

abbrev pub laid : Layout
laid =
    record {
      locations =
          record { type = (Some Bool'); origin = origin.Param 0; root = 0; bit = Some 0; state = None; target = None } ∷
          record { type = (Some (Ptr (Struct 0))); origin = origin.Param 1; root = 1; bit = Some 1; state = None; target = Some 2 } ∷
          record { type = (Some (Struct 0)); origin = origin.Target 1; root = 2; bit = None; state = Some 2; target = None } ∷
          [];
      sites = ((record { pos = (at 2 30); bracket = (at 2 39); turns = 1; effect = Operation 0; result = Void; object = Void }) ∷ []);
      occurrences = ((record { site = 0; object = None; bit = 3; spot = 0 }) ∷ []);
      spots = [];
      bits = 3;
    }

abbrev pub texts : Layout → Texts
texts p = record { names = names; params = ((record { at = 2 }) ∷ (record { at = 3 }) ∷ []); globals = []; locals = []; layout = p }

abbrev pub found_out : Verdict
found_out = verdict.Done (record {
  bits = 2;
  items = ((record {
    item = item.Exit;
    rows = ((record {
      given = 1;
      before = state.Nil;
      result = gives.Nothing;
      after = state.Nil;
    }) ∷ (record { given = 3; before = state.Nil; result = gives.Nothing; after = state.Nil }) ∷ []);
  }) ∷ (record {
    item = item.Lock (record
        { root = root.Param 1; steps = (step.Deref ∷ []) });
    rows = ((record { given = 1; before = state.At 0; result = gives.Nothing; after = state.At 1 }) ∷
        (record { given = 1; before = state.At 1; result = gives.Nothing; after = state.Bad }) ∷ (record {
          given = 3;
          before = state.At 0;
          result = gives.Nothing;
          after = state.At 1;
        }) ∷ (record { given = 3; before = state.At 1; result = gives.Nothing; after = state.Bad }) ∷ []);
  }) ∷ []);
  writes = [];
}) []

abbrev pub choice_taken : List Bool
choice_taken = (true ∷ true ∷ false ∷ [])

abbrev pub run_taken : Result Cell Ended × List Event
run_taken = (
  Ok Nothing,
  ((record { line = 2; col = 30; what = what.Call (Some (record { at = 0 })) }) ∷ (record { line = 2; col = 43; what = what.End }) ∷
      []),
)

abbrev pub choice_double : List Bool
choice_double = (true ∷ true ∷ true ∷ [])

abbrev pub run_double : Result Cell Ended × List Event
run_double = (
  Err (Error 2),
  ((record { line = 2; col = 30; what = what.Call (Some (record { at = 0 })) }) ∷ (record {
    line = 2;
    col = 30;
    what = what.Bad 2;
  }) ∷ []),
)

abbrev pub choice_null : List Bool
choice_null = (false ∷ false ∷ false ∷ [])

abbrev pub run_null : Result Cell Ended × List Event
run_null = (Err (Aside reason.Null), ((record { line = 2; col = 30; what = what.Call (Some (record { at = 0 })) }) ∷ []))
