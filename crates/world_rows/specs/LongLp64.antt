-- A signed long against an unsigned int, where long has 64 bits.
--     typedef struct{int v;}spinlock_t;
--     void f(spinlock_t*l){spin_lock(l);if((long)-1<1u)spin_lock(l);}
use Rattle.std.specs.Prelude.{ℕ, Bool, true, false, Some, None, List, [], ◌∷◌, Result, Err, codes}
use Rattle.run_store.specs.Concrete.{Cell}
use Rattle.sc_tree.specs.declared.op.BinaryOp.TheVariants as binary
use Rattle.sc_tree.specs.declared.op.UnaryOp.TheVariants as unary
use Rattle.sc_tree.specs.declared.ctype.IntKind.TheVariants as kind
use Rattle.sc_tree.specs.declared.ctype.Widths.TheVariants as widths
use Rattle.sum_rows.specs.declared.path.Root.TheVariants as root
use Rattle.sum_rows.specs.declared.path.Step.TheVariants as step
use Rattle.sum_rows.specs.declared.row.Item.TheVariants as item
use Rattle.sum_rows.specs.declared.row.State.TheVariants as state
use Rattle.sum_rows.specs.declared.row.Gives.TheVariants as gives
use Rattle.sum_rows.specs.declared.report.Event.{Event}
use Rattle.sum_rows.specs.declared.report.What.TheVariants as what
use Rattle.sum_rows.specs.declared.report.Report.TheVariants as report
use Rattle.sum_rows.specs.declared.report.Verdict.{Verdict}
use Rattle.sum_rows.specs.declared.report.Verdict.TheVariants as verdict
use Rattle.sc_world.specs.declared.run.Origin.TheVariants as origin
use Rattle.sc_world.specs.declared.run.Reason.TheVariants as reason
use Rattle.sc_world.specs.Tree.{Void, Int, Ptr, Struct, Func, NoTypes, Binary, Cast, Unary, Call, Param, Function, Number as Constant, Convert, NoExps, Exps', Block, Evaluate, If, NoStms, Stms'}
use Rattle.sc_world.specs.Source.{Source, Operation}
use Rattle.sc_world.specs.Layout.{Layout}
use Rattle.sc_world.specs.Paths.{Texts}
use Rattle.sc_world.specs.World.{Ended, Error, Aside}
use Rattle.world_rows.specs.Rows.{at, locking_machine}

abbrev pub names : List (List ℕ)
names = ((codes "spin_lock") ∷ (codes "v") ∷ (codes "l") ∷ [])

abbrev pub given : Source
given =
    record {
      widths = widths.Lp64;
      names = names;
      structs = ((record { union = false; members = ((record { name = (Some (record { at = 1 })); type = Int kind.Int }) ∷ []) }) ∷ []);
      globals = [];
      functions = ((record { params = ((Ptr (Struct 0)) ∷ []); result = Void }) ∷ []);
      params = ((Ptr (Struct 0)) ∷ []);
      result = Void;
      locals = [];
      body =
          Block (Stms' (Evaluate (Some (Call (record { token = (at 2 31); first = (at 2 22) }) (Function (record { at = 0 }) None (Func Void false NoTypes false))
          (Exps' (Param 0 (Ptr (Struct 0))) NoExps) Void))) (Stms' (If (at 2 35) (Binary binary.Less (Cast (Unary unary.Minus (Constant 1 (Int kind.Int)) (Int
          kind.Int)) (Int kind.Long)) (Convert (Constant 1 (Int kind.UInt)) (Int kind.Long)) (Int kind.Int)) (Evaluate (Some (Call (record {
            token = (at 2 59);
            first = (at 2 50);
          }) (Function (record { at = 0 }) None (Func Void false NoTypes false)) (Exps' (Param 0 (Ptr (Struct 0))) NoExps) Void)))) NoStms))
          (at 2 63);
      kept = [];
      sums = [];
      depth = 2;
      reach = 2;
      machine = locking_machine;
      tries = true;
    }

abbrev pub laid : Layout
laid =
    record {
      locations =
          record { type = (Some (Ptr (Struct 0))); origin = origin.Param 0; root = 0; bit = Some 0; state = None; target = Some 1 } ∷
          record { type = (Some (Struct 0)); origin = origin.Target 0; root = 1; bit = None; state = Some 1; target = None } ∷
          [];
      sites = ((record { pos = (at 2 22); bracket = (at 2 31); turns = 1; effect = Operation 0; result = Void; object = Void }) ∷ (record {
        pos = (at 2 50);
        bracket = (at 2 59);
        turns = 1;
        effect = Operation 0;
        result = Void;
        object = Void;
      }) ∷ []);
      occurrences = ((record { site = 0; object = None; bit = 2; spot = 0 }) ∷ (record { site = 1; object = None; bit = 2; spot = 0 }) ∷ []);
      spots = [];
      bits = 2;
    }

abbrev pub texts : Layout → Texts
texts p = record { names = names; params = ((record { at = 2 }) ∷ []); globals = []; locals = []; layout = p }

abbrev pub found_out : Verdict
found_out = verdict.Done (record {
  bits = 1;
  items = ((record { item = item.Exit; rows = [] }) ∷ (record {
    item = item.Lock (record {
      root = root.Param 0;
      steps = (step.Deref ∷ []);
    });
    rows = ((record { given = 1; before = state.At 0; result = gives.Nothing; after = state.Bad }) ∷ (record {
      given = 1;
      before
          = state.At 1;
      result = gives.Nothing;
      after = state.Bad;
    }) ∷ []);
  }) ∷ []);
  writes = [];
}) ((report.Double (record {
  root = root.Param 0;
  steps =
      (step.Deref ∷ []);
}) ((record {
  choice = (true ∷ false ∷ []);
  trace = ((record { line = 2; col = 22; what = what.Call (Some (record { at = 0 })) }) ∷
      (record { line = 2; col = 35; what = what.If true }) ∷ (record { line = 2; col = 50; what = what.Call (Some (record { at = 0 })) }) ∷ (record {
        line = 2;
        col = 50;
        what = what.Bad 1;
      }) ∷ []);
  text = codes "*l";
}) ∷ (record {
  choice = (true ∷ true ∷ []);
  trace = ((record {
    line = 2;
    col = 22;
    what = what.Call
        (Some (record { at = 0 }));
  }) ∷ (record { line = 2; col = 22; what = what.Bad 1 }) ∷ []);
  text = codes "*l";
}) ∷ [])) ∷ [])

abbrev pub choice_ones : List Bool
choice_ones = (true ∷ true ∷ [])

abbrev pub run_ones : Result Cell Ended × List Event
run_ones = (
  Err (Error 1),
  ((record { line = 2; col = 22; what = what.Call (Some (record { at = 0 })) }) ∷ (record { line = 2; col = 22; what = what.Bad 1 })
      ∷ []),
)

abbrev pub choice_zeros : List Bool
choice_zeros = (false ∷ false ∷ [])

abbrev pub run_zeros : Result Cell Ended × List Event
run_zeros = (Err (Aside reason.Null), ((record { line = 2; col = 22; what = what.Call (Some (record { at = 0 })) }) ∷ []))
