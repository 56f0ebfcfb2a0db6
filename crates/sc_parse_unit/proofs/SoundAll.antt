-- What is read is spelled: the laws.
use Rattle.std.proofs.Common.{◌≡◌, ℕ, List, Some}
use Rattle.sc_base.specs.declared.pos.NameId.{NameId}
use Rattle.sc_tree.specs.declared.token.Token.{Token}
use Rattle.sc_tree.specs.declared.decl.Decl.{Decl}
use Rattle.sc_parse_expr.specs.Read.{Read}
use Rattle.sc_parse_expr.proofs.SoundReading as exprs
use Rattle.sc_parse_unit.specs.Reading.{body_declaration, Outlined, outline_of}
use Rattle.sc_parse_unit.specs.Laws.{TakesDecl, IsSound, Outlines}
use Rattle.sc_parse_unit.proofs.SoundInit.{init_took}
use Rattle.sc_parse_unit.proofs.SoundDecl.{declaration_took}
use Rattle.sc_parse_unit.proofs.SoundStmt.{statement_took}
use Rattle.sc_parse_unit.proofs.SoundOutline.{outline_took}

declarations : (types : List NameId) (limit : ℕ) (ts : List Token) (x : Read Decl) → body_declaration types limit ts ≡ Some x → TakesDecl types limit ts x
declarations types limit ts x is = declaration_took types limit (exprs.sound types limit) (λ us i e. init_took types (exprs.sound types) limit us i e) ts x is

pub sound : (types : List NameId) (limit : ℕ) → IsSound types limit
sound types limit = record {
  init = λ ts x is. init_took types (exprs.sound types) limit ts x is;
  declaration = λ ts x is. declarations types limit ts x is;
  statement = λ ts x is. statement_took types (exprs.sound types) (declarations types) limit ts x is;
}

pub outline_sound : (types : List NameId) (ts : List Token) (o : Outlined) → outline_of types ts ≡ Some o → Outlines types ts o.it o.types o.inside
outline_sound types ts o is = outline_took exprs.sound types ts o is
