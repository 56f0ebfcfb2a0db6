-- A list that is followed to the reach.
--     struct s{struct s*n;int v;};
--     int f(struct s*p){return p->n->n->v;}
use Rattle.std.specs.Prelude.{ℕ, Bool, true, false, Some, None, List, [], ◌∷◌, Result, Ok, Err, codes}
use Rattle.run_store.specs.Concrete.{Cell, Number}
use Rattle.sc_tree.specs.declared.ctype.IntKind.TheVariants as kind
use Rattle.sc_tree.specs.declared.ctype.Widths.TheVariants as widths
use Rattle.sum_rows.specs.declared.path.Step.TheVariants as step
use Rattle.sum_rows.specs.declared.report.Event.{Event}
use Rattle.sum_rows.specs.declared.report.What.TheVariants as what
use Rattle.sc_world.specs.declared.run.Origin.TheVariants as origin
use Rattle.sc_world.specs.declared.run.Reason.TheVariants as reason
use Rattle.sc_world.specs.Tree.{Int, Ptr, Struct, Field, Param, Block, Return, NoStms, Stms'}
use Rattle.sc_world.specs.Source.{Source}
use Rattle.sc_world.specs.Layout.{Layout}
use Rattle.sc_world.specs.World.{Ended, Aside}
use Rattle.world_rows.specs.Rows.{at, locking_machine}

abbrev pub names : List (List ℕ)
names = ((codes "n") ∷ (codes "v") ∷ (codes "p") ∷ [])

abbrev pub given : Source
given =
    record {
      widths = widths.Ilp32;
      names = names;
      structs = ((record {
        union = false;
        members = ((record { name = (Some (record { at = 0 })); type = Ptr (Struct 0) }) ∷ (record {
          name = (Some (record {
            at = 1;
          }));
          type = Int kind.Int;
        }) ∷ []);
      }) ∷ []);
      globals = [];
      functions = ((record { params = ((Ptr (Struct 0)) ∷ []); result = Int kind.Int }) ∷ []);
      params = ((Ptr (Struct 0)) ∷ []);
      result = Int kind.Int;
      locals = [];
      body =
          Block (Stms' (Return (at 2 19) (Some (Field (Field (Field (Param 0 (Ptr (Struct 0))) (record { at = 0 }) true (Ptr (Struct 0))) (record { at = 0 }) true
          (Ptr (Struct 0))) (record { at = 1 }) true (Int kind.Int)))) NoStms) (at 2 37);
      kept = [];
      sums = [];
      depth = 2;
      reach = 3;
      machine = locking_machine;
      tries = true;
    }

abbrev pub laid : Layout
laid =
    record {
      locations =
          record { type = (Some (Ptr (Struct 0))); origin = origin.Param 0; root = 0; bit = Some 0; state = None; target = Some 1 } ∷
          record { type = (Some (Struct 0)); origin = origin.Target 0; root = 1; bit = None; state = Some 1; target = None } ∷
          record {
            type = (Some (Ptr (Struct 0)));
            origin = origin.Part 1 (step.Field (record { at = 0 }));
            root = 1;
            bit = Some 2;
            state = Some 3;
            target =
                Some 4;
          } ∷
          record {
            type = (Some (Int kind.Int));
            origin = origin.Part 1 (step.Field (record { at = 1 }));
            root = 1;
            bit = Some 4;
            state = Some 36;
            target =
                None;
          } ∷
          record { type = (Some (Struct 0)); origin = origin.Target 2; root = 4; bit = None; state = Some 37; target = None } ∷
          record {
            type = (Some (Ptr (Struct 0)));
            origin = origin.Part 4 (step.Field (record { at = 0 }));
            root = 4;
            bit = Some 38;
            state = Some 39;
            target =
                Some 7;
          } ∷
          record {
            type = (Some (Int kind.Int));
            origin = origin.Part 4 (step.Field (record { at = 1 }));
            root = 4;
            bit = Some 40;
            state = Some 72;
            target =
                None;
          } ∷
          record { type = (Some (Struct 0)); origin = origin.Target 5; root = 7; bit = None; state = Some 73; target = None } ∷
          record {
            type = (Some (Ptr (Struct 0)));
            origin = origin.Part 7 (step.Field (record { at = 0 }));
            root = 7;
            bit = Some 74;
            state = Some 75;
            target =
                Some 10;
          } ∷
          record {
            type = (Some (Int kind.Int));
            origin = origin.Part 7 (step.Field (record { at = 1 }));
            root = 7;
            bit = Some 76;
            state = Some 108;
            target =
                None;
          } ∷
          record { type = None; origin = origin.Target 8; root = 10; bit = None; state = None; target = None } ∷
          [];
      sites = [];
      occurrences = [];
      spots = [];
      bits = 109;
    }

abbrev pub choice_ones : List Bool
choice_ones = (true ∷ true ∷ true ∷ true ∷ true ∷ true ∷ true ∷ true ∷ true ∷ true ∷ true ∷ true ∷ true ∷ true ∷ true ∷ true ∷ true ∷ true ∷ true ∷ true ∷
    true ∷ true ∷ true ∷ true ∷ true ∷ true ∷ true ∷ true ∷ true ∷ true ∷ true ∷ true ∷ true ∷ true ∷ true ∷ true ∷ true ∷ true ∷ true ∷ true ∷ true ∷ true ∷
    true ∷ true ∷ true ∷ true ∷ true ∷ true ∷ true ∷ true ∷ true ∷ true ∷ true ∷ true ∷ true ∷ true ∷ true ∷ true ∷ true ∷ true ∷ true ∷ true ∷ true ∷ true ∷
    true ∷ true ∷ true ∷ true ∷ true ∷ true ∷ true ∷ true ∷ true ∷ true ∷ true ∷ true ∷ true ∷ true ∷ true ∷ true ∷ true ∷ true ∷ true ∷ true ∷ true ∷ true ∷
    true ∷ true ∷ true ∷ true ∷ true ∷ true ∷ true ∷ true ∷ true ∷ true ∷ true ∷ true ∷ true ∷ true ∷ true ∷ true ∷ true ∷ true ∷ true ∷ true ∷ true ∷ true ∷
    true ∷ [])

abbrev pub run_ones : Result Cell Ended × List Event
run_ones = (Ok (Number 32 4294967295), ((record { line = 2; col = 19; what = what.Return }) ∷ []))

abbrev pub choice_zeros : List Bool
choice_zeros = (false ∷ false ∷ false ∷ false ∷ false ∷ false ∷ false ∷ false ∷ false ∷ false ∷ false ∷ false ∷ false ∷ false ∷ false ∷ false ∷ false ∷ false
    ∷ false ∷ false ∷ false ∷ false ∷ false ∷ false ∷ false ∷ false ∷ false ∷ false ∷ false ∷ false ∷ false ∷ false ∷ false ∷ false ∷ false ∷ false ∷ false ∷
    false ∷ false ∷ false ∷ false ∷ false ∷ false ∷ false ∷ false ∷ false ∷ false ∷ false ∷ false ∷ false ∷ false ∷ false ∷ false ∷ false ∷ false ∷ false ∷
    false ∷ false ∷ false ∷ false ∷ false ∷ false ∷ false ∷ false ∷ false ∷ false ∷ false ∷ false ∷ false ∷ false ∷ false ∷ false ∷ false ∷ false ∷ false ∷
    false ∷ false ∷ false ∷ false ∷ false ∷ false ∷ false ∷ false ∷ false ∷ false ∷ false ∷ false ∷ false ∷ false ∷ false ∷ false ∷ false ∷ false ∷ false ∷
    false ∷ false ∷ false ∷ false ∷ false ∷ false ∷ false ∷ false ∷ false ∷ false ∷ false ∷ false ∷ false ∷ false ∷ false ∷ [])

abbrev pub run_zeros : Result Cell Ended × List Event
run_zeros = (Err (Aside reason.Null), [])
