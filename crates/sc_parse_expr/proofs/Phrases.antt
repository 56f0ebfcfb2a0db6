-- Which phrase is read is the one that is wanted.
use Rattle.std.proofs.Common.{◌≡◌, ℕ, zero, suc, true, List, Some, refl}
use Rattle.sc_base.specs.declared.pos.NameId.{NameId}
use Rattle.sc_tree.specs.declared.token.Token.{Token}
use Rattle.sc_tree.specs.declared.grammar.Level.{Level}
use Rattle.sc_tree.specs.declared.grammar.Naming.{Naming}
use Rattle.sc_parse_expr.specs.declared.found.Wanted.TheVariants as want
use Rattle.sc_parse_expr.specs.declared.found.Phrase.{Phrase}
use Rattle.sc_parse_expr.specs.Read.{Read, read}
use Rattle.sc_parse_expr.specs.Reading as r
use Rattle.sc_parse_expr.specs.Reading.{parse, as_expr, as_specs, as_declarator, is_expr, are_specs, is_declarator}
use Rattle.sc_parse_expr.proofs.Tools.{bind_some, given}

pub expr_is_read : (types : List NameId) (limit : ℕ) (level : Level) (ts : List Token) (x : Phrase) (h : ℕ) (rest : List Token)
    → parse types limit (want.Expr level) ts ≡ Some (read x h rest) → is_expr x ≡ true
unfolding r.wanted parse
expr_is_read types zero level ts x h rest is = absurd cc
expr_is_read types (suc n) level ts x h rest is =
    let a = bind_some (r.at_level types (suc n) (λ v us. parse types n v us) level ts) as_expr (read x h rest) is in
    given (λ (y : Read Phrase). is_expr y.it ≡ true) _ (read x h rest) a.gives refl

pub specs_are_read : (types : List NameId) (limit : ℕ) (ts : List Token) (x : Phrase) (h : ℕ) (rest : List Token)
    → parse types limit want.Specs ts ≡ Some (read x h rest) → are_specs x ≡ true
unfolding r.wanted parse
specs_are_read types zero ts x h rest is = absurd cc
specs_are_read types (suc n) ts x h rest is =
    let a = bind_some (r.specs types (suc n) (λ v us. parse types n v us) ts) as_specs (read x h rest) is in
    given (λ (y : Read Phrase). are_specs y.it ≡ true) _ (read x h rest) a.gives refl

pub declarator_is_read : (types : List NameId) (limit : ℕ) (m : Naming) (ts : List Token) (x : Phrase) (h : ℕ) (rest : List Token)
    → parse types limit (want.Declarator m) ts ≡ Some (read x h rest) → is_declarator x ≡ true
unfolding r.wanted parse
declarator_is_read types zero m ts x h rest is = absurd cc
declarator_is_read types (suc n) m ts x h rest is =
    let a = bind_some (r.declarator types (suc n) (λ v us. parse types n v us) m ts) as_declarator (read x h rest) is in
    given (λ (y : Read Phrase). is_declarator y.it ≡ true) _ (read x h rest) a.gives refl
