-- Tokens spell at most one tree of a kind: both are what is read of them.
use Rattle.std.proofs.Common.{◌≡◌, ℕ, max, true, List, [], Option, Some, refl, ap, arith}
use Rattle.sc_base.specs.declared.pos.NameId.{NameId}
use Rattle.sc_tree.specs.declared.token.Token.{Token}
use Rattle.sc_tree.specs.declared.expr.Expr.{Expr}
use Rattle.sc_tree.specs.declared.expr.Declarator.{Declarator}
use Rattle.sc_tree.specs.declared.grammar.Level.{Level}
use Rattle.sc_tree.specs.declared.grammar.Level.TheVariants.{Primary, Postfix, Prefix, Cast, Operators, Choice, Assignment, Whole}
use Rattle.sc_tree.specs.declared.grammar.Naming.{Naming}
use Rattle.sc_tree.specs.declared.grammar.Core.{Core}
use Rattle.sc_tree.specs.declared.grammar.Specified.{Specified}
use Rattle.sc_tree.specs.Grammar.{Spells, Specifies, Declares}
use Rattle.sc_parse_expr.specs.Read.{Read, read}
use Rattle.sc_parse_expr.specs.Reading.{operand, declared}
use Rattle.sc_parse_expr.specs.Laws.{ends_expr}
use Rattle.sc_parse_expr.proofs.Completeness.{complete}

same_read : {A : Type 0} (o : Option (Read A)) (x y : Read A) → o ≡ Some x → o ≡ Some y → x ≡ y
same_read o x y e f = cc

at_end : (level : Level) → ends_expr level [] ≡ true
at_end Primary = refl
at_end Postfix = refl
at_end Prefix = refl
at_end Cast = refl
at_end (Operators l) = refl
at_end Choice = refl
at_end Assignment = refl
at_end Whole = refl

pub one_tree : (types : List NameId) (level : Level) (h m : ℕ) (a b : Expr) (s : List Token) → Spells types level h a s
    → Spells types level m b s → (a ≡ b) × (h ≡ m)
one_tree types level h m a b s d x =
    let c = complete types (max h m) in
    let one = c.expr level h a s [] d (omega arith) (at_end level) in
    let two = c.expr level m b s [] x (omega arith) (at_end level) in
    let same = same_read _ (read (operand a one.0) h []) (read (operand b two.0) m []) one.1 two.1 in
    (ap (λ r. r.it.tree) same, ap (λ r. r.height) same)

pub one_type : (types : List NameId) (h m : ℕ) (a b : Specified) (s : List Token) → Specifies types h a s → Specifies types m b s → (a ≡ b) × (h ≡ m)
one_type types h m a b s d x =
    let c = complete types (max 1 (max h m)) in
    let one = c.specs h a s [] d (omega arith) (omega arith) refl in
    let two = c.specs m b s [] x (omega arith) (omega arith) refl in
    let same = same_read _ (read a h []) (read b m []) one two in
    (ap (λ r. r.it) same, ap (λ r. r.height) same)

pub one_declarator : (types : List NameId) (n : Naming) (c e : Core) (h m : ℕ) (a b : Declarator) (s : List Token)
    → Declares types n c h a s → Declares types n e m b s → (a ≡ b) × (c ≡ e) × (h ≡ m)
one_declarator types n c e h m a b s d x =
    let it = complete types (max h m) in
    let one = it.declarator n c h a s [] d (omega arith) refl in
    let two = it.declarator n e m b s [] x (omega arith) refl in
    let same = same_read _ (read (declared a c) h []) (read (declared b e) m []) one two in
    (ap (λ r. r.it.declarator) same, ap (λ r. r.it.core) same, ap (λ r. r.height) same)
