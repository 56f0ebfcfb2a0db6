-- A function that fits its layout: what the laws on types ask can be met.
--     struct s{int n;};
--     int f(struct s*p){int k=p->n;if(p)k=k+1;return k;}
use Rattle.std.specs.Prelude.{ℕ, true, false, Option, Some, None, [], ◌∷◌, codes}
use Rattle.fsm_spec.specs.Lock.{lock_operations}
use Rattle.sc_base.specs.declared.pos.Pos.{Pos}
use Rattle.sc_base.specs.declared.pos.NameId.{NameId}
use Rattle.sc_tree.specs.declared.op.BinaryOp.TheVariants as binary
use Rattle.sc_tree.specs.declared.ctype.IntKind.TheVariants as kind
use Rattle.sc_tree.specs.declared.ctype.Widths.TheVariants as widths
use Rattle.sc_typed.specs.declared.stmt.Declared.TheVariants as declared
use Rattle.sum_rows.specs.declared.path.Step.TheVariants as step
use Rattle.sc_world.specs.declared.run.Origin.{Origin}
use Rattle.sc_world.specs.declared.run.Origin.TheVariants as origin
use Rattle.sc_world.specs.Tree.{Ty, Exp, Int, Ptr, Struct, Assign, Binary, Field, Param, Local, Number, One, Block, Decl, Evaluate, If, Return, NoStms, Stms'}
use Rattle.sc_world.specs.Source.{Source}
use Rattle.sc_world.specs.Layout.{Layout, Location}

abbrev pub place : (line col : ℕ) → Pos
place line col = record { file = 0; line = line; col = col }

abbrev pub int : Ty
int = Int kind.Int

abbrev pub member_name : NameId
member_name = record { at = 0 }

-- the parameter, the local and the member
abbrev pub p : Exp
p = Param 0 (Ptr (Struct 0))

abbrev pub k : Exp
k = Local 0 int

abbrev pub member_of_p : Exp
member_of_p = Field p member_name true int

abbrev pub given : Source
given =
    record {
      widths = widths.Ilp32;
      names = codes "n" ∷ [];
      structs = record { union = false; members = record { name = Some member_name; type = int } ∷ [] } ∷ [];
      globals = [];
      functions = record { params = Ptr (Struct 0) ∷ []; result = int } ∷ [];
      params = Ptr (Struct 0) ∷ [];
      result = int;
      locals = int ∷ [];
      body =
          Block
          (Stms' (Decl (record { declared = declared.Local 0; init = One member_of_p } ∷ []))
          (Stms' (If (place 2 31) p
          (Evaluate (Some (Assign None int k (Binary binary.Add k (Number 1 int) int) int))))
          (Stms' (Return (place 2 43) (Some k)) NoStms))) (place 2 52);
      kept = [];
      sums = [];
      depth = 2;
      reach = 2;
      machine = record { name = codes "lock"; states = codes "U" ∷ codes "L" ∷ []; operations = lock_operations };
      tries = true;
    }

abbrev pub cell : Ty → Origin → (root : ℕ) → (bit state target : Option ℕ) → Location
cell t o root bit state target =
    record { type = Some t; origin = o; root = root; bit = bit; state = state; target = target }

abbrev pub laid : Layout
laid =
    record {
      locations =
          cell (Ptr (Struct 0)) (origin.Param 0) 0 (Some 0) None (Some 2)
          ∷ cell int (origin.Local 0) 1 None None None
          ∷ cell (Struct 0) (origin.Target 0) 2 None (Some 1) None
          ∷ cell int (origin.Part 2 (step.Field member_name)) 2 (Some 2) (Some 34) None
          ∷ [];
      sites = [];
      occurrences = [];
      spots = [];
      bits = 35;
    }
