-- An object that a callee gives through a parameter, and that is lost.
--     void mk(_Bool**o){*o=kmalloc(1,0);}
--     void use(_Bool c){_Bool*p;mk(&p);if(c)kfree(p);}
use Rattle.std.specs.Prelude.{ℕ, Bool, true, false, Some, None, List, [], ◌∷◌, Result, Ok, Err, codes}
use Rattle.run_store.specs.Concrete.{Cell, Nothing}
use Rattle.sc_tree.specs.declared.op.UnaryOp.TheVariants as unary
use Rattle.sc_tree.specs.declared.ctype.Widths.TheVariants as widths
use Rattle.sc_typed.specs.declared.stmt.Declared.TheVariants as declared
use Rattle.sum_rows.specs.declared.path.Root.TheVariants as root
use Rattle.sum_rows.specs.declared.path.Step.TheVariants as step
use Rattle.sum_rows.specs.declared.row.Item.TheVariants as item
use Rattle.sum_rows.specs.declared.row.State.TheVariants as state
use Rattle.sum_rows.specs.declared.row.Gives.TheVariants as gives
use Rattle.sum_rows.specs.declared.report.Event.{Event}
use Rattle.sum_rows.specs.declared.report.What.TheVariants as what
use Rattle.sum_rows.specs.declared.report.Report.TheVariants as report
use Rattle.sum_rows.specs.declared.report.Verdict.{Verdict}
use Rattle.sum_rows.specs.declared.report.Verdict.TheVariants as verdict
use Rattle.sc_world.specs.declared.run.Origin.TheVariants as origin
use Rattle.sc_world.specs.declared.run.Reason.TheVariants as reason
use Rattle.sc_world.specs.Tree.{Void, Bool', Ptr, Func, NoTypes, Types, Unary, Call, Param, Local, Function, NoExps, Exps', NoInit, Block, Decl, Evaluate, If, NoStms, Stms'}
use Rattle.sc_world.specs.Source.{Source, Release, Known}
use Rattle.sc_world.specs.Layout.{Layout}
use Rattle.sc_world.specs.Paths.{Texts}
use Rattle.sc_world.specs.World.{Ended, Aside}
use Rattle.world_rows.specs.Rows.{at, locking_machine}

abbrev pub names : List (List ℕ)
names = ((codes "kfree") ∷ (codes "mk") ∷ (codes "c") ∷ (codes "p") ∷ [])

abbrev pub given : Source
given =
    record {
      widths = widths.Ilp32;
      names = names;
      structs = [];
      globals = [];
      functions = ((record { params = ((Ptr (Ptr Bool')) ∷ []); result = Void }) ∷ (record { params = (Bool' ∷ []); result = Void }) ∷ []);
      params = (Bool' ∷ []);
      result = Void;
      locals = ((Ptr Bool') ∷ []);
      body =
          Block (Stms' (Decl ((record { declared = declared.Local 0; init = NoInit }) ∷ [])) (Stms' (Evaluate (Some (Call (record {
            token = (at 2 29);
            first = (at
                2 27);
          }) (Function (record { at = 1 }) (Some 0) (Func Void true (Types (Ptr (Ptr Bool')) NoTypes) false)) (Exps' (Unary unary.Address (Local 0 (Ptr
          Bool')) (Ptr (Ptr Bool'))) NoExps) Void))) (Stms' (If (at 2 34) (Param 0 Bool') (Evaluate (Some (Call (record { token = (at 2 44); first = (at 2 39) })
          (Function (record { at = 0 }) None (Func Void false NoTypes false)) (Exps' (Local 0 (Ptr Bool')) NoExps) Void)))) NoStms))) (at 2 48);
      kept = (0 ∷ []);
      sums = ((Some (record {
        bits = 1;
        items = ((record {
          item = item.Exit;
          rows = ((record {
            given = 1;
            before = state.Nil;
            result = gives.Nothing;
            after =
                state.Nil;
          }) ∷ []);
        }) ∷ (record {
          item = item.Out 0;
          rows = ((record { given = 1; before = state.Nil; result = gives.Nothing; after = state.Null }) ∷
              (record { given = 1; before = state.Nil; result = gives.Nothing; after = state.Fresh }) ∷ []);
        }) ∷ []);
        writes = ((record {
          path = record {
            root =
                root.Param 0;
            steps = (step.Deref ∷ []);
          };
          width = 0;
        }) ∷ []);
      })) ∷ []);
      depth = 2;
      reach = 2;
      machine = locking_machine;
      tries = true;
    }

abbrev pub laid : Layout
laid =
    record {
      locations =
          record { type = (Some Bool'); origin = origin.Param 0; root = 0; bit = Some 0; state = None; target = None } ∷
          record { type = (Some (Ptr Bool')); origin = origin.Local 0; root = 1; bit = None; state = None; target = None } ∷
          record { type = (Some Bool'); origin = origin.Call 0; root = 2; bit = Some 3; state = None; target = None } ∷
          [];
      sites = ((record { pos = (at 2 27); bracket = (at 2 29); turns = 1; effect = Known 0; result = Void; object = Void }) ∷ (record {
        pos = (at 2 39);
        bracket = (at 2 44);
        turns = 1;
        effect = Release;
        result = Void;
        object = Void;
      }) ∷ []);
      occurrences = ((record { site = 0; object = None; bit = 1; spot = 0 }) ∷ (record { site = 1; object = None; bit = 4; spot = 1 }) ∷ []);
      spots = ((record { bit = 1; object = Some 2 }) ∷ []);
      bits = 4;
    }

abbrev pub texts : Layout → Texts
texts p = record { names = names; params = ((record { at = 2 }) ∷ []); globals = []; locals = ((record { at = 3 }) ∷ []); layout = p }

abbrev pub found_out : Verdict
found_out = verdict.Done (record {
  bits = 1;
  items = ((record {
    item = item.Exit;
    rows = ((record {
      given = 0;
      before = state.Nil;
      result = gives.Nothing;
      after = state.Nil;
    }) ∷ (record { given = 1; before = state.Nil; result = gives.Nothing; after = state.Nil }) ∷ []);
  }) ∷ []);
  writes = [];
}) ((report.Leak
    (at 2 27) (record {
      choice = (false ∷ false ∷ true ∷ false ∷ []);
      trace = ((record { line = 2; col = 27; what = what.Call (Some (record { at = 1 })) }) ∷
          (record { line = 2; col = 34; what = what.If false }) ∷ (record { line = 2; col = 48; what = what.End }) ∷ []);
      text = [];
    })) ∷ [])

abbrev pub choice_zeros : List Bool
choice_zeros = (false ∷ false ∷ false ∷ false ∷ [])

abbrev pub run_zeros : Result Cell Ended × List Event
run_zeros = (
  Ok Nothing,
  ((record { line = 2; col = 27; what = what.Call (Some (record { at = 1 })) }) ∷ (record {
    line = 2;
    col = 34;
    what = what.If false;
  }) ∷ (record { line = 2; col = 48; what = what.End }) ∷ []),
)

abbrev pub choice_ones : List Bool
choice_ones = (true ∷ true ∷ true ∷ true ∷ [])

abbrev pub run_ones : Result Cell Ended × List Event
run_ones = (Err (Aside reason.NoRow), ((record { line = 2; col = 27; what = what.Call (Some (record { at = 1 })) }) ∷ []))
