-- A struct with an array, a global, a string and a function as values, and a loop with calls.
--     struct e{int a;char b[3];int c;};struct e g;int k(int);
--     int*q(char*);
--     int f(struct e*p,int n){int i;char*s="x";int(*h)(int)=k;for(i=0;i<n;i++)if(p->b[i]==g.c)return h(k(i));return*q(s)+p->a;}
use Rattle.std.specs.Prelude.{ℕ, Bool, true, false, Some, None, List, [], ◌∷◌, Result, Ok, Err, codes}
use Rattle.run_store.specs.Concrete.{Cell, Number}
use Rattle.sc_tree.specs.declared.op.BinaryOp.TheVariants as binary
use Rattle.sc_tree.specs.declared.op.UnaryOp.TheVariants as unary
use Rattle.sc_tree.specs.declared.op.Step.TheVariants as steps
use Rattle.sc_tree.specs.declared.ctype.IntKind.TheVariants as kind
use Rattle.sc_tree.specs.declared.ctype.Widths.TheVariants as widths
use Rattle.sc_typed.specs.declared.stmt.Declared.TheVariants as declared
use Rattle.sum_rows.specs.declared.path.Step.TheVariants as step
use Rattle.sum_rows.specs.declared.report.Event.{Event}
use Rattle.sum_rows.specs.declared.report.What.TheVariants as what
use Rattle.sc_world.specs.declared.run.Origin.TheVariants as origin
use Rattle.sc_world.specs.declared.run.Reason.TheVariants as reason
use Rattle.sc_world.specs.Tree.{Void, Int, Ptr, Array, Struct, Func, NoTypes, Types, Assign, Binary, Unary, PostInc, Index, Call, Field, Param, Local, Global, Function, Number as Constant, Str, Convert, NoExps, Exps', NoInit, One, Begin, Block, Decl, If, For, Return, NoStms, Stms'}
use Rattle.sc_world.specs.Source.{Source, Unknown}
use Rattle.sc_world.specs.Layout.{Layout}
use Rattle.sc_world.specs.World.{Ended, Aside}
use Rattle.world_rows.specs.Rows.{at, locking_machine}

abbrev pub names : List (List ℕ)
names = ((codes "q") ∷ (codes "a") ∷ (codes "b") ∷ (codes "c") ∷ (codes "k") ∷ (codes "p") ∷ (codes "n") ∷ (codes "g") ∷ (codes "i") ∷ (codes "s") ∷ (codes
    "h") ∷ [])

abbrev pub given : Source
given =
    record {
      widths = widths.Ilp32;
      names = names;
      structs = ((record {
        union = false;
        members = ((record { name = (Some (record { at = 1 })); type = Int kind.Int }) ∷ (record {
          name = (Some (record {
            at = 2;
          }));
          type = Array (Int kind.Char) (Some 3);
        }) ∷ (record { name = (Some (record { at = 3 })); type = Int kind.Int }) ∷ []);
      }) ∷ []);
      globals = ((Struct 0) ∷ []);
      functions = ((record { params = ((Ptr (Struct 0)) ∷ (Int kind.Int) ∷ []); result = Int kind.Int }) ∷ []);
      params = ((Ptr (Struct 0)) ∷ (Int kind.Int) ∷ []);
      result = Int kind.Int;
      locals = ((Int kind.Int) ∷ (Ptr (Int kind.Char)) ∷ (Ptr (Func (Int kind.Int) true (Types (Int kind.Int) NoTypes) false)) ∷ []);
      body =
          Block (Stms' (Decl ((record { declared = declared.Local 0; init = NoInit }) ∷ [])) (Stms' (Decl ((record {
            declared = declared.Local 1;
            init = One
                (Convert (Str (record { token = (at 3 38); first = (at 3 38) }) (Array (Int kind.Char) (Some 2))) (Ptr (Int kind.Char)));
          }) ∷ [])) (Stms' (Decl
          ((record {
            declared = declared.Local 2;
            init = One (Convert (Function (record { at = 4 }) None (Func (Int kind.Int) true (Types (Int kind.Int) NoTypes)
                false)) (Ptr (Func (Int kind.Int) true (Types (Int kind.Int) NoTypes) false)));
          }) ∷ [])) (Stms' (For (at 3 57) (Begin (Assign None (Int kind.Int)
          (Local 0 (Int kind.Int)) (Constant 0 (Int kind.Int)) (Int kind.Int))) (Some (Binary binary.Less (Local 0 (Int kind.Int)) (Param 1 (Int kind.Int)) (Int
          kind.Int))) (Some (PostInc steps.Up (Local 0 (Int kind.Int)) (Int kind.Int))) (If (at 3 73) (Binary binary.Equal (Convert (Index (Field (Param 0 (Ptr
          (Struct 0))) (record { at = 2 }) true (Array (Int kind.Char) (Some 3))) (Local 0 (Int kind.Int)) (Int kind.Char)) (Int kind.Int)) (Field (Global 0
          (Struct 0)) (record { at = 3 }) false (Int kind.Int)) (Int kind.Int)) (Return (at 3 89) (Some (Call (record { token = (at 3 96); first = (at 3 96) })
          (Local 2 (Ptr (Func (Int kind.Int) true (Types (Int kind.Int) NoTypes) false))) (Exps' (Call (record { token = (at 3 99); first = (at 3 98) })
          (Function (record { at = 4 }) None (Func (Int kind.Int) true (Types (Int kind.Int) NoTypes) false)) (Exps' (Local 0 (Int kind.Int)) NoExps) (Int
          kind.Int)) NoExps) (Int kind.Int)))))) (Stms' (Return (at 3 104) (Some (Binary binary.Add (Unary unary.Deref (Call (record {
            token = (at 3 112);
            first
                = (at 3 111);
          }) (Function (record { at = 0 }) None (Func (Ptr (Int kind.Int)) true (Types (Ptr (Int kind.Char)) NoTypes) false)) (Exps' (Local 1 (Ptr
          (Int kind.Char))) NoExps) (Ptr (Int kind.Int))) (Int kind.Int)) (Field (Param 0 (Ptr (Struct 0))) (record { at = 1 }) true (Int kind.Int)) (Int
          kind.Int)))) NoStms))))) (at 3 121);
      kept = [];
      sums = [];
      depth = 2;
      reach = 1;
      machine = locking_machine;
      tries = true;
    }

abbrev pub laid : Layout
laid =
    record {
      locations =
          record { type = (Some (Ptr (Struct 0))); origin = origin.Param 0; root = 0; bit = Some 0; state = None; target = Some 14 } ∷
          record { type = (Some (Int kind.Int)); origin = origin.Param 1; root = 1; bit = Some 1; state = None; target = None } ∷
          record { type = (Some (Struct 0)); origin = origin.Global 0; root = 2; bit = None; state = Some 33; target = None } ∷
          record {
            type = (Some (Int kind.Int));
            origin = origin.Part 2 (step.Field (record { at = 1 }));
            root = 2;
            bit = Some 34;
            state = Some 66;
            target =
                None;
          } ∷
          record {
            type = (Some (Array (Int kind.Char) (Some 3)));
            origin = origin.Part 2 (step.Field (record { at = 2 }));
            root = 2;
            bit = None;
            state = Some
                67;
            target = None;
          } ∷
          record { type = (Some (Int kind.Char)); origin = origin.Part 4 (step.Elem 0); root = 2; bit = Some 68; state = Some 76; target = None } ∷
          record { type = (Some (Int kind.Char)); origin = origin.Part 4 (step.Elem 1); root = 2; bit = Some 77; state = Some 85; target = None } ∷
          record { type = (Some (Int kind.Char)); origin = origin.Part 4 (step.Elem 2); root = 2; bit = Some 86; state = Some 94; target = None } ∷
          record {
            type = (Some (Int kind.Int));
            origin = origin.Part 2 (step.Field (record { at = 3 }));
            root = 2;
            bit = Some 95;
            state = Some 127;
            target =
                None;
          } ∷
          record { type = (Some (Int kind.Int)); origin = origin.Local 0; root = 9; bit = None; state = None; target = None } ∷
          record { type = (Some (Ptr (Int kind.Char))); origin = origin.Local 1; root = 10; bit = None; state = None; target = None } ∷
          record {
            type = (Some (Ptr (Func (Int kind.Int) true (Types (Int kind.Int) NoTypes) false)));
            origin = origin.Local 2;
            root = 11;
            bit = None;
            state =
                None;
            target = None;
          } ∷
          record { type = None; origin = origin.Literal (at 3 38); root = 12; bit = None; state = None; target = None } ∷
          record { type = None; origin = origin.Function (record { at = 4 }); root = 13; bit = None; state = None; target = None } ∷
          record { type = (Some (Struct 0)); origin = origin.Target 0; root = 14; bit = None; state = Some 128; target = None } ∷
          record {
            type = (Some (Int kind.Int));
            origin = origin.Part 14 (step.Field (record { at = 1 }));
            root = 14;
            bit = Some 129;
            state = Some 161;
            target
                = None;
          } ∷
          record {
            type = (Some (Array (Int kind.Char) (Some 3)));
            origin = origin.Part 14 (step.Field (record { at = 2 }));
            root = 14;
            bit = None;
            state =
                Some 162;
            target = None;
          } ∷
          record { type = (Some (Int kind.Char)); origin = origin.Part 16 (step.Elem 0); root = 14; bit = Some 163; state = Some 171; target = None } ∷
          record { type = (Some (Int kind.Char)); origin = origin.Part 16 (step.Elem 1); root = 14; bit = Some 172; state = Some 180; target = None } ∷
          record { type = (Some (Int kind.Char)); origin = origin.Part 16 (step.Elem 2); root = 14; bit = Some 181; state = Some 189; target = None } ∷
          record {
            type = (Some (Int kind.Int));
            origin = origin.Part 14 (step.Field (record { at = 3 }));
            root = 14;
            bit = Some 190;
            state = Some 222;
            target
                = None;
          } ∷
          record { type = (Some (Int kind.Int)); origin = origin.Call 4; root = 21; bit = Some 352; state = None; target = None } ∷
          [];
      sites = ((record { pos = (at 3 96); bracket = (at 3 96); turns = 2; effect = Unknown; result = Int kind.Int; object = Void }) ∷ (record {
        pos = (at 3
            98);
        bracket = (at 3 99);
        turns = 2;
        effect = Unknown;
        result = Int kind.Int;
        object = Void;
      }) ∷ (record {
        pos = (at 3 111);
        bracket = (at 3 112);
        turns = 1;
        effect = Unknown;
        result = Ptr (Int kind.Int);
        object = Int kind.Int;
      }) ∷ []);
      occurrences = ((record { site = 0; object = None; bit = 223; spot = 0 }) ∷ (record { site = 0; object = None; bit = 255; spot = 0 }) ∷ (record {
        site =
            1;
        object = None;
        bit = 287;
        spot = 0;
      }) ∷ (record { site = 1; object = None; bit = 319; spot = 0 }) ∷ (record {
        site = 2;
        object = Some 21;
        bit =
            351;
        spot = 0;
      }) ∷ []);
      spots = [];
      bits = 384;
    }

abbrev pub choice_ones : List Bool
choice_ones = (true ∷ true ∷ true ∷ true ∷ true ∷ true ∷ true ∷ true ∷ true ∷ true ∷ true ∷ true ∷ true ∷ true ∷ true ∷ true ∷ true ∷ true ∷ true ∷ true ∷
    true ∷ true ∷ true ∷ true ∷ true ∷ true ∷ true ∷ true ∷ true ∷ true ∷ true ∷ true ∷ true ∷ true ∷ true ∷ true ∷ true ∷ true ∷ true ∷ true ∷ true ∷ true ∷
    true ∷ true ∷ true ∷ true ∷ true ∷ true ∷ true ∷ true ∷ true ∷ true ∷ true ∷ true ∷ true ∷ true ∷ true ∷ true ∷ true ∷ true ∷ true ∷ true ∷ true ∷ true ∷
    true ∷ true ∷ true ∷ true ∷ true ∷ true ∷ true ∷ true ∷ true ∷ true ∷ true ∷ true ∷ true ∷ true ∷ true ∷ true ∷ true ∷ true ∷ true ∷ true ∷ true ∷ true ∷
    true ∷ true ∷ true ∷ true ∷ true ∷ true ∷ true ∷ true ∷ true ∷ true ∷ true ∷ true ∷ true ∷ true ∷ true ∷ true ∷ true ∷ true ∷ true ∷ true ∷ true ∷ true ∷
    true ∷ true ∷ true ∷ true ∷ true ∷ true ∷ true ∷ true ∷ true ∷ true ∷ true ∷ true ∷ true ∷ true ∷ true ∷ true ∷ true ∷ true ∷ true ∷ true ∷ true ∷ true ∷
    true ∷ true ∷ true ∷ true ∷ true ∷ true ∷ true ∷ true ∷ true ∷ true ∷ true ∷ true ∷ true ∷ true ∷ true ∷ true ∷ true ∷ true ∷ true ∷ true ∷ true ∷ true ∷
    true ∷ true ∷ true ∷ true ∷ true ∷ true ∷ true ∷ true ∷ true ∷ true ∷ true ∷ true ∷ true ∷ true ∷ true ∷ true ∷ true ∷ true ∷ true ∷ true ∷ true ∷ true ∷
    true ∷ true ∷ true ∷ true ∷ true ∷ true ∷ true ∷ true ∷ true ∷ true ∷ true ∷ true ∷ true ∷ true ∷ true ∷ true ∷ true ∷ true ∷ true ∷ true ∷ true ∷ true ∷
    true ∷ true ∷ true ∷ true ∷ true ∷ true ∷ true ∷ true ∷ true ∷ true ∷ true ∷ true ∷ true ∷ true ∷ true ∷ true ∷ true ∷ true ∷ true ∷ true ∷ true ∷ true ∷
    true ∷ true ∷ true ∷ true ∷ true ∷ true ∷ true ∷ true ∷ true ∷ true ∷ true ∷ true ∷ true ∷ true ∷ true ∷ true ∷ true ∷ true ∷ true ∷ true ∷ true ∷ true ∷
    true ∷ true ∷ true ∷ true ∷ true ∷ true ∷ true ∷ true ∷ true ∷ true ∷ true ∷ true ∷ true ∷ true ∷ true ∷ true ∷ true ∷ true ∷ true ∷ true ∷ true ∷ true ∷
    true ∷ true ∷ true ∷ true ∷ true ∷ true ∷ true ∷ true ∷ true ∷ true ∷ true ∷ true ∷ true ∷ true ∷ true ∷ true ∷ true ∷ true ∷ true ∷ true ∷ true ∷ true ∷
    true ∷ true ∷ true ∷ true ∷ true ∷ true ∷ true ∷ true ∷ true ∷ true ∷ true ∷ true ∷ true ∷ true ∷ true ∷ true ∷ true ∷ true ∷ true ∷ true ∷ true ∷ true ∷
    true ∷ true ∷ true ∷ true ∷ true ∷ true ∷ true ∷ true ∷ true ∷ true ∷ true ∷ true ∷ true ∷ true ∷ true ∷ true ∷ true ∷ true ∷ true ∷ true ∷ true ∷ true ∷
    true ∷ true ∷ true ∷ true ∷ true ∷ true ∷ true ∷ true ∷ true ∷ true ∷ true ∷ true ∷ true ∷ true ∷ true ∷ true ∷ true ∷ true ∷ true ∷ true ∷ true ∷ true ∷
    true ∷ true ∷ true ∷ true ∷ true ∷ true ∷ true ∷ true ∷ true ∷ true ∷ true ∷ true ∷ true ∷ true ∷ true ∷ true ∷ true ∷ true ∷ true ∷ true ∷ true ∷ true ∷
    true ∷ true ∷ true ∷ true ∷ true ∷ true ∷ true ∷ true ∷ true ∷ true ∷ true ∷ true ∷ [])

abbrev pub run_ones : Result Cell Ended × List Event
run_ones = (
  Ok (Number 32 4294967294),
  ((record { line = 3; col = 57; what = what.Loop false }) ∷ (record {
    line = 3;
    col = 111;
    what = what.Call (Some
        (record { at = 0 }));
  }) ∷ (record { line = 3; col = 104; what = what.Return }) ∷ []),
)

abbrev pub choice_zeros : List Bool
choice_zeros = (false ∷ false ∷ false ∷ false ∷ false ∷ false ∷ false ∷ false ∷ false ∷ false ∷ false ∷ false ∷ false ∷ false ∷ false ∷ false ∷ false ∷ false
    ∷ false ∷ false ∷ false ∷ false ∷ false ∷ false ∷ false ∷ false ∷ false ∷ false ∷ false ∷ false ∷ false ∷ false ∷ false ∷ false ∷ false ∷ false ∷ false ∷
    false ∷ false ∷ false ∷ false ∷ false ∷ false ∷ false ∷ false ∷ false ∷ false ∷ false ∷ false ∷ false ∷ false ∷ false ∷ false ∷ false ∷ false ∷ false ∷
    false ∷ false ∷ false ∷ false ∷ false ∷ false ∷ false ∷ false ∷ false ∷ false ∷ false ∷ false ∷ false ∷ false ∷ false ∷ false ∷ false ∷ false ∷ false ∷
    false ∷ false ∷ false ∷ false ∷ false ∷ false ∷ false ∷ false ∷ false ∷ false ∷ false ∷ false ∷ false ∷ false ∷ false ∷ false ∷ false ∷ false ∷ false ∷
    false ∷ false ∷ false ∷ false ∷ false ∷ false ∷ false ∷ false ∷ false ∷ false ∷ false ∷ false ∷ false ∷ false ∷ false ∷ false ∷ false ∷ false ∷ false ∷
    false ∷ false ∷ false ∷ false ∷ false ∷ false ∷ false ∷ false ∷ false ∷ false ∷ false ∷ false ∷ false ∷ false ∷ false ∷ false ∷ false ∷ false ∷ false ∷
    false ∷ false ∷ false ∷ false ∷ false ∷ false ∷ false ∷ false ∷ false ∷ false ∷ false ∷ false ∷ false ∷ false ∷ false ∷ false ∷ false ∷ false ∷ false ∷
    false ∷ false ∷ false ∷ false ∷ false ∷ false ∷ false ∷ false ∷ false ∷ false ∷ false ∷ false ∷ false ∷ false ∷ false ∷ false ∷ false ∷ false ∷ false ∷
    false ∷ false ∷ false ∷ false ∷ false ∷ false ∷ false ∷ false ∷ false ∷ false ∷ false ∷ false ∷ false ∷ false ∷ false ∷ false ∷ false ∷ false ∷ false ∷
    false ∷ false ∷ false ∷ false ∷ false ∷ false ∷ false ∷ false ∷ false ∷ false ∷ false ∷ false ∷ false ∷ false ∷ false ∷ false ∷ false ∷ false ∷ false ∷
    false ∷ false ∷ false ∷ false ∷ false ∷ false ∷ false ∷ false ∷ false ∷ false ∷ false ∷ false ∷ false ∷ false ∷ false ∷ false ∷ false ∷ false ∷ false ∷
    false ∷ false ∷ false ∷ false ∷ false ∷ false ∷ false ∷ false ∷ false ∷ false ∷ false ∷ false ∷ false ∷ false ∷ false ∷ false ∷ false ∷ false ∷ false ∷
    false ∷ false ∷ false ∷ false ∷ false ∷ false ∷ false ∷ false ∷ false ∷ false ∷ false ∷ false ∷ false ∷ false ∷ false ∷ false ∷ false ∷ false ∷ false ∷
    false ∷ false ∷ false ∷ false ∷ false ∷ false ∷ false ∷ false ∷ false ∷ false ∷ false ∷ false ∷ false ∷ false ∷ false ∷ false ∷ false ∷ false ∷ false ∷
    false ∷ false ∷ false ∷ false ∷ false ∷ false ∷ false ∷ false ∷ false ∷ false ∷ false ∷ false ∷ false ∷ false ∷ false ∷ false ∷ false ∷ false ∷ false ∷
    false ∷ false ∷ false ∷ false ∷ false ∷ false ∷ false ∷ false ∷ false ∷ false ∷ false ∷ false ∷ false ∷ false ∷ false ∷ false ∷ false ∷ false ∷ false ∷
    false ∷ false ∷ false ∷ false ∷ false ∷ false ∷ false ∷ false ∷ false ∷ false ∷ false ∷ false ∷ false ∷ false ∷ false ∷ false ∷ false ∷ false ∷ false ∷
    false ∷ false ∷ false ∷ false ∷ false ∷ false ∷ false ∷ false ∷ false ∷ false ∷ false ∷ false ∷ false ∷ false ∷ false ∷ false ∷ false ∷ false ∷ false ∷
    false ∷ false ∷ false ∷ false ∷ false ∷ false ∷ false ∷ false ∷ false ∷ false ∷ false ∷ false ∷ false ∷ false ∷ false ∷ false ∷ false ∷ false ∷ false ∷
    false ∷ false ∷ false ∷ false ∷ false ∷ [])

abbrev pub run_zeros : Result Cell Ended × List Event
run_zeros = (
  Err (Aside reason.Null),
  ((record { line = 3; col = 57; what = what.Loop false }) ∷ (record {
    line = 3;
    col = 111;
    what = what.Call (Some
        (record { at = 0 }));
  }) ∷ []),
)
