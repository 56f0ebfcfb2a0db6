-- What is spelled is read: the laws. And tokens spell at most one initialiser, declaration and statement.
use Rattle.std.proofs.Common.{◌≡◌, ℕ, suc, max, Bool, List, [], ◌++◌, Some, refl, sym, ap, ◌∙◌, arith}
use Rattle.sc_base.specs.declared.pos.NameId.{NameId}
use Rattle.sc_tree.specs.declared.token.Token.{Token}
use Rattle.sc_tree.specs.declared.decl.Init.{Init}
use Rattle.sc_tree.specs.declared.decl.Decl.{Decl}
use Rattle.sc_tree.specs.declared.stmt.Stmt.{Stmt}
use Rattle.sc_tree.specs.Statements.{Initialises, ADeclaration, States}
use Rattle.sc_parse_expr.specs.Read.{Read, read, Parse}
use Rattle.sc_parse_expr.proofs.Completeness as exprs
use Rattle.sc_parse_unit.specs.Reading.{initialiser, body_declaration, statement}
use Rattle.sc_parse_unit.specs.Laws.{IsComplete, IsOutline}
use Rattle.sc_parse_unit.proofs.SoundAll.{outline_sound}
use Rattle.sc_parse_unit.proofs.CompleteInit.{initialiser_read}
use Rattle.sc_parse_unit.proofs.CompleteDecl.{declaration_read}
use Rattle.sc_parse_unit.proofs.CompleteStmt.{statement_read}
use Rattle.sc_parse_unit.proofs.CompleteOutline.{declaration_outlined, function_outlined}

pub complete : (types : List NameId) (limit : ℕ) → IsComplete types limit
complete types limit = record {
  init = initialiser_read types (exprs.complete types) limit;
  declaration = declaration_read types (exprs.complete types) limit;
  statement = statement_read types (exprs.complete types) limit;
}

pub outline : (types : List NameId) (ts : List Token) → IsOutline types ts
outline types ts = record {
  sound = outline_sound types ts;
  declaration = declaration_outlined exprs.complete types ts;
  function = function_outlined exprs.complete types ts;
}

-- ---- at most one

-- what is read with nothing behind it is one
same_read : {A : Type 0} (f : Parse A) (s : List Token) (x y : A) (h m : ℕ) → f (s ++ []) ≡ Some (read x h []) → f (s ++ [])
    ≡ Some (read y m []) → (x ≡ y) × (h ≡ m)
same_read f s x y h m a b = both x y h m (sym a ∙ b)
  where
    both : {A : Type 0} (x y : A) (h m : ℕ) → Some (read x h []) ≡ Some (read y m []) → (x ≡ y) × (h ≡ m)
    both x y h m e = (ap (λ r. r.it) (given (read x h []) (read y m []) e), ap (λ r. r.height) (given (read x h []) (read y m []) e))
      where
        given : {A : Type 0} (r s : Read A) → Some r ≡ Some s → r ≡ s
        given r s e = cc

pub one_initialiser : (types : List NameId) (h m : ℕ) (x y : Init) (s : List Token) → Initialises types h x s → Initialises types m y s → (x ≡ y) × (h ≡ m)
one_initialiser types h m x y s a b =
    let all = complete types (max h m) in
    same_read (λ ts. initialiser types (max h m) ts) s x y h m (all.init h x s [] a (omega arith) refl) (all.init m y s [] b (omega arith) refl)

pub one_declaration : (types : List NameId) (h m : ℕ) (x y : Decl) (s : List Token) → ADeclaration types h x s → ADeclaration types m y s → (x ≡ y) × (h ≡ m)
one_declaration types h m x y s a b =
    let all = complete types (suc (max h m)) in
    same_read (λ ts. body_declaration types (suc (max h m)) ts) s x y h m (all.declaration h x s [] a (omega arith) (omega arith))
    (all.declaration m y s [] b (omega arith) (omega arith))

pub one_statement : (types : List NameId) (b c : Bool) (h m : ℕ) (x y : Stmt) (s : List Token) → States types b h x s → States types c m y s → (x ≡ y) × (h ≡ m)
one_statement types b c h m x y s d e =
    let all = complete types (max h m) in
    same_read (λ ts. statement types (max h m) ts) s x y h m (all.statement b h x s [] d (omega arith) (λ f. refl))
    (all.statement c m y s [] e (omega arith) (λ f. refl))
