-- A machine of three states.
--     struct h{int x;};
--     void f(struct h*p){irq_on(p);irq_on(p);}
use Rattle.std.specs.Prelude.{ℕ, Bool, true, false, Some, None, List, [], ◌∷◌, Result, Err, codes}
use Rattle.run_store.specs.Concrete.{Cell}
use Rattle.sc_tree.specs.declared.ctype.IntKind.TheVariants as kind
use Rattle.sc_tree.specs.declared.ctype.Widths.TheVariants as widths
use Rattle.sum_rows.specs.declared.path.Root.TheVariants as root
use Rattle.sum_rows.specs.declared.path.Step.TheVariants as step
use Rattle.sum_rows.specs.declared.row.Item.TheVariants as item
use Rattle.sum_rows.specs.declared.row.State.TheVariants as state
use Rattle.sum_rows.specs.declared.row.Gives.TheVariants as gives
use Rattle.sum_rows.specs.declared.report.Event.{Event}
use Rattle.sum_rows.specs.declared.report.What.TheVariants as what
use Rattle.sum_rows.specs.declared.report.Verdict.{Verdict}
use Rattle.sum_rows.specs.declared.report.Verdict.TheVariants as verdict
use Rattle.fsm_spec.specs.declared.table.Returns.TheVariants as returns
use Rattle.sc_world.specs.declared.run.Origin.TheVariants as origin
use Rattle.sc_world.specs.Tree.{Void, Int, Ptr, Struct, Func, NoTypes, Call, Param, Function, NoExps, Exps', Block, Evaluate, NoStms, Stms'}
use Rattle.sc_world.specs.Source.{Source, Operation}
use Rattle.sc_world.specs.Layout.{Layout}
use Rattle.sc_world.specs.Paths.{Texts}
use Rattle.sc_world.specs.World.{Ended, Error}
use Rattle.world_rows.specs.Rows.{at}

abbrev pub names : List (List ℕ)
names = ((codes "irq_on") ∷ (codes "x") ∷ (codes "p") ∷ [])

abbrev pub given : Source
given =
    record {
      widths = widths.Ilp32;
      names = names;
      structs = ((record { union = false; members = ((record { name = (Some (record { at = 1 })); type = Int kind.Int }) ∷ []) }) ∷ []);
      globals = [];
      functions = ((record { params = ((Ptr (Struct 0)) ∷ []); result = Void }) ∷ []);
      params = ((Ptr (Struct 0)) ∷ []);
      result = Void;
      locals = [];
      body =
          Block (Stms' (Evaluate (Some (Call (record { token = (at 2 26); first = (at 2 20) }) (Function (record { at = 0 }) None (Func Void false NoTypes false))
          (Exps' (Param 0 (Ptr (Struct 0))) NoExps) Void))) (Stms' (Evaluate (Some (Call (record { token = (at 2 36); first = (at 2 30) }) (Function (record {
            at
                = 0;
          }) None (Func Void false NoTypes false)) (Exps' (Param 0 (Ptr (Struct 0))) NoExps) Void))) NoStms)) (at 2 40);
      kept = [];
      sums = [];
      depth = 2;
      reach = 2;
      machine = record {
        name = codes "irq";
        states = ((codes "off") ∷ (codes "on") ∷ (codes "nested") ∷ []);
        operations = ((record {
          function = codes
              "irq_on";
          returns = returns.Nothing;
          targets = ((Some 1) ∷ (Some 2) ∷ None ∷ []);
        }) ∷ (record {
          function = codes "irq_off";
          returns =
              returns.Nothing;
          targets = (None ∷ (Some 0) ∷ (Some 1) ∷ []);
        }) ∷ []);
      };
      tries = false;
    }

abbrev pub laid : Layout
laid =
    record {
      locations =
          record { type = (Some (Ptr (Struct 0))); origin = origin.Param 0; root = 0; bit = Some 0; state = None; target = Some 1 } ∷
          record { type = (Some (Struct 0)); origin = origin.Target 0; root = 1; bit = None; state = Some 1; target = None } ∷
          [];
      sites = ((record { pos = (at 2 20); bracket = (at 2 26); turns = 1; effect = Operation 0; result = Void; object = Void }) ∷ (record {
        pos = (at 2 30);
        bracket = (at 2 36);
        turns = 1;
        effect = Operation 0;
        result = Void;
        object = Void;
      }) ∷ []);
      occurrences = ((record { site = 0; object = None; bit = 3; spot = 0 }) ∷ (record { site = 1; object = None; bit = 3; spot = 0 }) ∷ []);
      spots = [];
      bits = 3;
    }

abbrev pub texts : Layout → Texts
texts p = record { names = names; params = ((record { at = 2 }) ∷ []); globals = []; locals = []; layout = p }

abbrev pub found_out : Verdict
found_out = verdict.Done (record {
  bits = 1;
  items = ((record {
    item = item.Exit;
    rows = ((record {
      given = 1;
      before = state.Nil;
      result = gives.Nothing;
      after = state.Nil;
    }) ∷ []);
  }) ∷ (record {
    item = item.Lock (record { root = root.Param 0; steps = (step.Deref ∷ []) });
    rows = ((record {
      given = 1;
      before
          = state.At 0;
      result = gives.Nothing;
      after = state.At 2;
    }) ∷ (record { given = 1; before = state.At 1; result = gives.Nothing; after = state.Bad }) ∷
        (record { given = 1; before = state.At 2; result = gives.Nothing; after = state.Bad }) ∷ []);
  }) ∷ []);
  writes = [];
}) []

abbrev pub choice_ones : List Bool
choice_ones = (true ∷ true ∷ true ∷ [])

abbrev pub run_ones : Result Cell Ended × List Event
run_ones = (
  Err (Error 1),
  ((record { line = 2; col = 20; what = what.Call (Some (record { at = 0 })) }) ∷ (record { line = 2; col = 20; what = what.Bad 1 })
      ∷ []),
)
