-- What contracts see of the data of the code: as what the definitions are made of.
use Rattle.std.specs.Prelude.{ℕ, zero, suc, [], ◌∷◌, if◌then◌else◌, Bool, true, false, Option, Some, None, List, map}
use Rattle.sc_base.specs.declared.pos.Pos.{Pos}
use Rattle.sc_tree.specs.declared.ctype.CType.{CType}
use Rattle.sc_typed.specs.declared.expr.TExpr.{TExpr}
use Rattle.sc_typed.specs.declared.stmt.TStmt.{TStmt}
use Rattle.sc_gather.specs.declared.context.Context.{Context}
use Rattle.sc_gather.specs.declared.effect.Effect.{Effect}
use Rattle.sc_gather.specs.declared.effect.Effect.TheVariants as code
use Rattle.sc_gather.specs.declared.found.Found.{Found}
use Rattle.sc_gather.specs.declared.found.Site.{Site}
use Rattle.sc_gather.specs.declared.found.Stands.{Stands}
use Rattle.sc_gather.specs.declared.found.Stands.TheVariants as stands
use Rattle.sc_gather.specs.declared.found.Round.{Round}
use Rattle.sum_rows.specs.declared.row.Summary.{Summary}
use Rattle.sc_world.specs.Tree.{Ty, Stm, Stms, Exps}
use Rattle.sc_world.specs.Source.{Source, Struct, Effect as Meaning, Operation, Try, Allocate, Release, Ends, Expect, Known, Unknown}
use Rattle.sc_world.specs.View.{type, exp, exps, stm, stms}
use Rattle.sc_world.specs.Programs.{source_by, no_body}
use Rattle.sc_world.specs.Gather.{Found as Finds, Site as Called, Stands as Standing, Plain, Named, GivenAs, Round as Rounds, declared_object, is_later}
use denote.Ref.{Bor}

unfoldable pub source_of : Context → Source
source_of c = source_by c.program.now c.machine.now c.tries c.function c.kept.now c.verdicts.now c.depth c.reach

abbrev pub type_if : Option (Bor CType) → Option Ty
type_if None = None
type_if (Some t) = Some (type t.now)

-- no body stands for an empty block
abbrev pub body_of : List Struct → Option (Bor TStmt) → Stm
body_of structs None = no_body
body_of structs (Some s) = stm structs s.now

abbrev pub arguments_of : List Struct → List TExpr → Exps
arguments_of structs es = exps (map (exp structs) es)

abbrev pub statements_of : List Struct → List TStmt → Stms
statements_of structs ss = stms (map (stm structs) ss)

abbrev pub is_summary : Option Summary → Bool
is_summary None = false
is_summary (Some sum) = true

abbrev pub meaning : Effect → Meaning
meaning (code.Operation n) = Operation n
meaning (code.Try success failure) = Try success failure
meaning (code.Allocate zeroed) = Allocate zeroed
meaning code.Release = Release
meaning code.Ends = Ends
meaning code.Expect = Expect
meaning (code.Known k) = Known k
meaning code.Unknown = Unknown

abbrev pub meaning_if : Option Effect → Option Meaning
meaning_if None = None
meaning_if (Some e) = Some (meaning e)

abbrev pub standing : Stands → Standing
standing stands.Plain = Plain
standing stands.Named = Named
standing (stands.GivenAs t) = GivenAs (type_if t)

abbrev pub round : Round → Rounds
round r = record { factor = r.factor; turns = r.turns }

abbrev pub call : Site → Called
call s =
    record {
      pos = s.pos;
      bracket = s.bracket;
      turns = s.turns;
      effect = meaning s.effect;
      result = type s.result.now;
      object = declared_object (type_if s.object);
    }

-- how many calls stand before one at that place
abbrev pub calls_before : Pos → List Site → ℕ
calls_before p [] = zero
calls_before p (s ∷ ss) = if is_later p s.pos then zero else suc (calls_before p ss)

unfoldable pub found : Found → Finds
found f =
    record {
      nodes = f.nodes;
      fields = f.fields.items;
      globals = f.globals.items;
      literals = f.literals.items;
      sites = map call f.sites.items;
    }
