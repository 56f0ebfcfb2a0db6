-- What locations and runs read of a typed program: the trees of one function and of what it calls, as plain trees.
use Rattle.std.specs.Prelude.{ℕ, Bool, true, false, Option, Some, None, List, [], ◌∷◌, map, slice_get}
use Rattle.fsm_spec.specs.declared.table.MachineSpec.{MachineSpec}
use Rattle.fsm_spec.specs.Lock.{locks}
use Rattle.sc_base.specs.declared.pos.Pos.{Pos}
use Rattle.sc_typed.specs.declared.program.Program.{Program}
use Rattle.sc_typed.specs.declared.program.StructDef.{StructDef}
use Rattle.sc_typed.specs.declared.program.FieldDef.{FieldDef}
use Rattle.sc_typed.specs.declared.program.Function.{Function}
use Rattle.sc_typed.specs.declared.program.Param.{Param}
use Rattle.sc_typed.specs.declared.program.TBody.{TBody}
use Rattle.sc_typed.specs.declared.program.TBody.TheVariants as body
use Rattle.sum_rows.specs.declared.report.Verdict.{Verdict}
use Rattle.sum_rows.specs.declared.report.Verdict.TheVariants as verdict
use Rattle.sum_rows.specs.declared.row.Summary.{Summary}
use Rattle.sc_world.specs.Tree.{Ty, Void, Stm, Block, NoStms}
use Rattle.sc_world.specs.Source.{Source, Struct, Member, Signature}
use Rattle.sc_world.specs.View.{type, stm}

abbrev pub member : FieldDef → Member
member f = record { name = f.name; type = type f.ctype }

-- an incomplete struct has no members
abbrev pub members : Option (List FieldDef) → List Member
members None = []
members (Some fs) = map member fs

abbrev pub struct : StructDef → Struct
struct s = record { union = s.union; members = members s.fields }

abbrev pub types_of : List Param → List Ty
types_of ps = map (λ p. type p.ctype) ps

abbrev pub signature : Function → Signature
signature f = record { params = types_of f.params; result = type f.result }

abbrev pub no_pos : Pos
no_pos = record { file = 0; line = 0; col = 0 }

-- a body that is not taken has no trees: an empty block stands for it
abbrev pub no_body : Stm
no_body = Block NoStms no_pos

abbrev pub body_of : List Struct → TBody → Stm
body_of structs (body.Tree s) = stm structs s
body_of structs (body.Skipped skip) = no_body

-- the machine of a program: that of locks where none is given, and then functions may also try to lock
abbrev pub machine_or_locks : Option MachineSpec → MachineSpec
machine_or_locks None = locks
machine_or_locks (Some m) = m

abbrev pub is_of_locks : Option MachineSpec → Bool
is_of_locks None = true
is_of_locks (Some m) = false

-- the summary of a callee; none of one that is skipped
abbrev pub summary : Verdict → Option Summary
summary (verdict.Skipped skip) = None
summary (verdict.Done sum reports) = Some sum

-- what a function has of its own: the types of its parameters, its result and its locals, and its body
pub record Own : Type 0 where
  pub params : List Ty
  pub result : Ty
  pub locals : List Ty
  pub body : Stm

abbrev pub own : List Struct → Option Function → Own
own structs None = record { params = []; result = Void; locals = []; body = no_body }
own structs (Some f) =
    record {
      params = types_of f.params;
      result = type f.result;
      locals = types_of f.locals;
      body = body_of structs f.body;
    }

abbrev pub structs_of : Program → List Struct
structs_of program = map struct program.structs

-- What is read of the function with that number: with the machine, its kept callees, ascending, the verdict of each,
-- and the options.
unfoldable pub source_by : Program → MachineSpec → (tries : Bool) → (function : ℕ) → (kept : List ℕ) → List Verdict → (depth reach : ℕ) → Source
source_by program machine tries f kept verdicts depth reach =
    let mine = own (structs_of program) (slice_get program.functions f) in
    record {
      widths = program.widths;
      names = program.names;
      structs = structs_of program;
      globals = map (λ g. type g.ctype) program.globals;
      functions = map signature program.functions;
      params = mine.params;
      result = mine.result;
      locals = mine.locals;
      body = mine.body;
      kept = kept;
      sums = map summary verdicts;
      depth = depth;
      reach = reach;
      machine = machine;
      tries = tries;
    }

-- the same with the machine of the program
abbrev pub source : Program → (function : ℕ) → (kept : List ℕ) → List Verdict → (depth reach : ℕ) → Source
source program f kept verdicts depth reach =
    source_by program (machine_or_locks program.machine) (is_of_locks program.machine) f kept verdicts depth reach
