-- A lock that is taken by two calls.
--     typedef struct{int v;}spinlock_t;
--     void g(spinlock_t*l){spin_lock(l);}
--     void h(spinlock_t*l){g(l);g(l);}
use Rattle.std.specs.Prelude.{ℕ, true, false, Some, None, List, [], ◌∷◌, codes}
use Rattle.sc_tree.specs.declared.ctype.IntKind.TheVariants as kind
use Rattle.sc_tree.specs.declared.ctype.Widths.TheVariants as widths
use Rattle.sum_rows.specs.declared.path.Root.TheVariants as root
use Rattle.sum_rows.specs.declared.path.Step.TheVariants as step
use Rattle.sum_rows.specs.declared.row.Item.TheVariants as item
use Rattle.sum_rows.specs.declared.row.State.TheVariants as state
use Rattle.sum_rows.specs.declared.row.Gives.TheVariants as gives
use Rattle.sum_rows.specs.declared.report.What.TheVariants as what
use Rattle.sum_rows.specs.declared.report.Report.TheVariants as report
use Rattle.sum_rows.specs.declared.report.Verdict.{Verdict}
use Rattle.sum_rows.specs.declared.report.Verdict.TheVariants as verdict
use Rattle.sc_world.specs.declared.run.Origin.TheVariants as origin
use Rattle.sc_world.specs.Tree.{Void, Int, Ptr, Struct, Func, NoTypes, Types, Call, Param, Function, NoExps, Exps', Block, Evaluate, NoStms, Stms'}
use Rattle.sc_world.specs.Source.{Source, Known}
use Rattle.sc_world.specs.Layout.{Layout}
use Rattle.sc_world.specs.Paths.{Texts}
use Rattle.world_rows.specs.Rows.{at, locking_machine}

abbrev pub names : List (List ℕ)
names = ((codes "g") ∷ (codes "v") ∷ (codes "l") ∷ [])

abbrev pub given : Source
given =
    record {
      widths = widths.Ilp32;
      names = names;
      structs = ((record { union = false; members = ((record { name = (Some (record { at = 1 })); type = Int kind.Int }) ∷ []) }) ∷ []);
      globals = [];
      functions = ((record { params = ((Ptr (Struct 0)) ∷ []); result = Void }) ∷ (record { params = ((Ptr (Struct 0)) ∷ []); result = Void }) ∷ []);
      params = ((Ptr (Struct 0)) ∷ []);
      result = Void;
      locals = [];
      body =
          Block (Stms' (Evaluate (Some (Call (record { token = (at 3 23); first = (at 3 22) }) (Function (record { at = 0 }) (Some 0) (Func Void true (Types (Ptr
          (Struct 0)) NoTypes) false)) (Exps' (Param 0 (Ptr (Struct 0))) NoExps) Void))) (Stms' (Evaluate (Some (Call (record {
            token = (at 3 28);
            first = (at 3
                27);
          }) (Function (record { at = 0 }) (Some 0) (Func Void true (Types (Ptr (Struct 0)) NoTypes) false)) (Exps' (Param 0 (Ptr (Struct 0))) NoExps)
          Void))) NoStms)) (at 3 32);
      kept = (0 ∷ []);
      sums = ((Some (record {
        bits = 1;
        items = ((record {
          item = item.Exit;
          rows = ((record {
            given = 1;
            before = state.Nil;
            result = gives.Nothing;
            after =
                state.Nil;
          }) ∷ []);
        }) ∷ (record {
          item = item.Lock (record { root = root.Param 0; steps = (step.Deref ∷ []) });
          rows = ((record {
            given = 1;
            before =
                state.At 0;
            result = gives.Nothing;
            after = state.At 1;
          }) ∷ (record { given = 1; before = state.At 1; result = gives.Nothing; after = state.Bad }) ∷
              []);
        }) ∷ []);
        writes = [];
      })) ∷ []);
      depth = 2;
      reach = 2;
      machine = locking_machine;
      tries = true;
    }

abbrev pub laid : Layout
laid =
    record {
      locations =
          record { type = (Some (Ptr (Struct 0))); origin = origin.Param 0; root = 0; bit = Some 0; state = None; target = Some 1 } ∷
          record { type = (Some (Struct 0)); origin = origin.Target 0; root = 1; bit = None; state = Some 1; target = None } ∷
          [];
      sites = ((record { pos = (at 3 22); bracket = (at 3 23); turns = 1; effect = Known 0; result = Void; object = Void }) ∷ (record {
        pos = (at 3 27);
        bracket = (at 3 28);
        turns = 1;
        effect = Known 0;
        result = Void;
        object = Void;
      }) ∷ []);
      occurrences = ((record { site = 0; object = None; bit = 2; spot = 0 }) ∷ (record { site = 1; object = None; bit = 4; spot = 1 }) ∷ []);
      spots = ((record { bit = 2; object = None }) ∷ (record { bit = 4; object = None }) ∷ []);
      bits = 6;
    }

abbrev pub texts : Layout → Texts
texts p = record { names = names; params = ((record { at = 2 }) ∷ []); globals = []; locals = []; layout = p }

abbrev pub found_out : Verdict
found_out = verdict.Done (record {
  bits = 1;
  items = ((record { item = item.Exit; rows = [] }) ∷ (record {
    item = item.Lock (record {
      root = root.Param 0;
      steps = (step.Deref ∷ []);
    });
    rows = ((record { given = 1; before = state.At 0; result = gives.Nothing; after = state.Bad }) ∷ (record {
      given = 1;
      before
          = state.At 1;
      result = gives.Nothing;
      after = state.Bad;
    }) ∷ []);
  }) ∷ []);
  writes = [];
}) ((report.Double (record {
  root = root.Param 0;
  steps =
      (step.Deref ∷ []);
}) ((record {
  choice = (true ∷ false ∷ false ∷ true ∷ true ∷ false ∷ []);
  trace = ((record {
    line = 3;
    col = 22;
    what = what.Call (Some
        (record { at = 0 }));
  }) ∷ (record { line = 3; col = 27; what = what.Call (Some (record { at = 0 })) }) ∷ (record { line = 3; col = 27; what = what.Bad 1 })
      ∷ []);
  text = codes "*l";
}) ∷ (record {
  choice = (true ∷ true ∷ true ∷ false ∷ false ∷ false ∷ []);
  trace = ((record {
    line = 3;
    col = 22;
    what = what.Call
        (Some (record { at = 0 }));
  }) ∷ (record { line = 3; col = 22; what = what.Bad 1 }) ∷ []);
  text = codes "*l";
}) ∷ [])) ∷ [])
