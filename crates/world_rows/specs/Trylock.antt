-- A lock that is tried, and a result that tells whether it was taken.
--     typedef struct{int v;}spinlock_t;
--     int f(spinlock_t*l){if(spin_trylock(l))return 1;return 0;}
use Rattle.std.specs.Prelude.{ℕ, true, false, Some, None, List, [], ◌∷◌, codes}
use Rattle.sc_tree.specs.declared.ctype.IntKind.TheVariants as kind
use Rattle.sc_tree.specs.declared.ctype.Widths.TheVariants as widths
use Rattle.sum_rows.specs.declared.path.Root.TheVariants as root
use Rattle.sum_rows.specs.declared.path.Step.TheVariants as step
use Rattle.sum_rows.specs.declared.row.Item.TheVariants as item
use Rattle.sum_rows.specs.declared.row.State.TheVariants as state
use Rattle.sum_rows.specs.declared.row.Gives.TheVariants as gives
use Rattle.sum_rows.specs.declared.report.Verdict.{Verdict}
use Rattle.sum_rows.specs.declared.report.Verdict.TheVariants as verdict
use Rattle.sc_world.specs.declared.run.Origin.TheVariants as origin
use Rattle.sc_world.specs.Tree.{Void, Int, Ptr, Struct, Func, NoTypes, Call, Param, Function, Number as Constant, NoExps, Exps', Block, If, Return, NoStms, Stms'}
use Rattle.sc_world.specs.Source.{Source, Try}
use Rattle.sc_world.specs.Layout.{Layout}
use Rattle.sc_world.specs.Paths.{Texts}
use Rattle.world_rows.specs.Rows.{at, locking_machine}

abbrev pub names : List (List ℕ)
names = ((codes "spin_trylock") ∷ (codes "v") ∷ (codes "l") ∷ [])

abbrev pub given : Source
given =
    record {
      widths = widths.Ilp32;
      names = names;
      structs = ((record { union = false; members = ((record { name = (Some (record { at = 1 })); type = Int kind.Int }) ∷ []) }) ∷ []);
      globals = [];
      functions = ((record { params = ((Ptr (Struct 0)) ∷ []); result = Int kind.Int }) ∷ []);
      params = ((Ptr (Struct 0)) ∷ []);
      result = Int kind.Int;
      locals = [];
      body =
          Block (Stms' (If (at 2 21) (Call (record { token = (at 2 36); first = (at 2 24) }) (Function (record { at = 0 }) None (Func (Int kind.Int) false NoTypes
          false)) (Exps' (Param 0 (Ptr (Struct 0))) NoExps) (Int kind.Int)) (Return (at 2 40) (Some (Constant 1 (Int kind.Int))))) (Stms' (Return (at 2 49) (Some
          (Constant 0 (Int kind.Int)))) NoStms)) (at 2 58);
      kept = [];
      sums = [];
      depth = 2;
      reach = 2;
      machine = locking_machine;
      tries = true;
    }

abbrev pub laid : Layout
laid =
    record {
      locations =
          record { type = (Some (Ptr (Struct 0))); origin = origin.Param 0; root = 0; bit = Some 0; state = None; target = Some 1 } ∷
          record { type = (Some (Struct 0)); origin = origin.Target 0; root = 1; bit = None; state = Some 1; target = None } ∷
          [];
      sites = ((record { pos = (at 2 24); bracket = (at 2 36); turns = 1; effect = Try 1 0; result = Int kind.Int; object = Void }) ∷ []);
      occurrences = ((record { site = 0; object = None; bit = 2; spot = 0 }) ∷ []);
      spots = [];
      bits = 3;
    }

abbrev pub texts : Layout → Texts
texts p = record { names = names; params = ((record { at = 2 }) ∷ []); globals = []; locals = []; layout = p }

abbrev pub found_out : Verdict
found_out = verdict.Done (record {
  bits = 1;
  items = ((record {
    item = item.Exit;
    rows = ((record {
      given = 1;
      before = state.Nil;
      result = gives.Zero;
      after
          = state.Nil;
    }) ∷ (record { given = 1; before = state.Nil; result = gives.NotZero; after = state.Nil }) ∷ []);
  }) ∷ (record {
    item = item.Lock (record {
      root
          = root.Param 0;
      steps = (step.Deref ∷ []);
    });
    rows = ((record { given = 1; before = state.At 0; result = gives.Zero; after = state.At 0 }) ∷ (record {
      given = 1;
      before = state.At 0;
      result = gives.NotZero;
      after = state.At 1;
    }) ∷ (record {
      given = 1;
      before = state.At 1;
      result = gives.Zero;
      after =
          state.At 1;
    }) ∷ []);
  }) ∷ []);
  writes = [];
}) []
