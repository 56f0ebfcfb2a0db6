-- A lock of a local that is taken twice.
--     typedef struct{int v;}spinlock_t;
--     void f(void){spinlock_t s;spin_lock(&s);spin_lock(&s);}
use Rattle.std.specs.Prelude.{ℕ, true, false, Some, None, List, [], ◌∷◌, codes}
use Rattle.sc_tree.specs.declared.op.UnaryOp.TheVariants as unary
use Rattle.sc_tree.specs.declared.ctype.IntKind.TheVariants as kind
use Rattle.sc_tree.specs.declared.ctype.Widths.TheVariants as widths
use Rattle.sc_typed.specs.declared.stmt.Declared.TheVariants as declared
use Rattle.sum_rows.specs.declared.row.Item.TheVariants as item
use Rattle.sum_rows.specs.declared.report.What.TheVariants as what
use Rattle.sum_rows.specs.declared.report.Report.TheVariants as report
use Rattle.sum_rows.specs.declared.report.Verdict.{Verdict}
use Rattle.sum_rows.specs.declared.report.Verdict.TheVariants as verdict
use Rattle.sc_world.specs.declared.run.Origin.TheVariants as origin
use Rattle.sc_world.specs.Tree.{Void, Int, Ptr, Struct, Func, NoTypes, Unary, Call, Local, Function, NoExps, Exps', NoInit, Block, Decl, Evaluate, NoStms, Stms'}
use Rattle.sc_world.specs.Source.{Source, Operation}
use Rattle.sc_world.specs.Layout.{Layout}
use Rattle.sc_world.specs.Paths.{Texts}
use Rattle.world_rows.specs.Rows.{at, locking_machine}

abbrev pub names : List (List ℕ)
names = ((codes "spin_lock") ∷ (codes "v") ∷ (codes "s") ∷ [])

abbrev pub given : Source
given =
    record {
      widths = widths.Ilp32;
      names = names;
      structs = ((record { union = false; members = ((record { name = (Some (record { at = 1 })); type = Int kind.Int }) ∷ []) }) ∷ []);
      globals = [];
      functions = ((record { params = []; result = Void }) ∷ []);
      params = [];
      result = Void;
      locals = ((Struct 0) ∷ []);
      body =
          Block (Stms' (Decl ((record { declared = declared.Local 0; init = NoInit }) ∷ [])) (Stms' (Evaluate (Some (Call (record {
            token = (at 2 36);
            first = (at
                2 27);
          }) (Function (record { at = 0 }) None (Func Void false NoTypes false)) (Exps' (Unary unary.Address (Local 0 (Struct 0)) (Ptr (Struct 0))) NoExps)
          Void))) (Stms' (Evaluate (Some (Call (record { token = (at 2 50); first = (at 2 41) }) (Function (record { at = 0 }) None (Func Void false NoTypes
          false)) (Exps' (Unary unary.Address (Local 0 (Struct 0)) (Ptr (Struct 0))) NoExps) Void))) NoStms))) (at 2 55);
      kept = [];
      sums = [];
      depth = 2;
      reach = 2;
      machine = locking_machine;
      tries = true;
    }

abbrev pub laid : Layout
laid =
    record {
      locations =
          record { type = (Some (Struct 0)); origin = origin.Local 0; root = 0; bit = None; state = None; target = None } ∷
          [];
      sites = ((record { pos = (at 2 27); bracket = (at 2 36); turns = 1; effect = Operation 0; result = Void; object = Void }) ∷ (record {
        pos = (at 2 41);
        bracket = (at 2 50);
        turns = 1;
        effect = Operation 0;
        result = Void;
        object = Void;
      }) ∷ []);
      occurrences = ((record { site = 0; object = None; bit = 0; spot = 0 }) ∷ (record { site = 1; object = None; bit = 0; spot = 0 }) ∷ []);
      spots = [];
      bits = 0;
    }

abbrev pub texts : Layout → Texts
texts p = record { names = names; params = []; globals = []; locals = ((record { at = 2 }) ∷ []); layout = p }

abbrev pub found_out : Verdict
found_out = verdict.Done (record { bits = 0; items = ((record { item = item.Exit; rows = [] }) ∷ []); writes = [] }) ((report.Inner (record {
  choice = [];
  trace = ((record { line = 2; col = 27; what = what.Call (Some (record { at = 0 })) }) ∷ (record {
    line = 2;
    col = 41;
    what = what.Call (Some (record {
      at =
          0;
    }));
  }) ∷ (record { line = 2; col = 41; what = what.Bad 0 }) ∷ []);
  text = codes "s";
})) ∷ [])
