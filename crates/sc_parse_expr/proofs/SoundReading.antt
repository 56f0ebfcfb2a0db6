-- What is read is spelled, at each limit.
use Rattle.std.proofs.Common.{◌≡◌, ℕ, zero, suc, List, Some}
use Rattle.sc_base.specs.declared.pos.NameId.{NameId}
use Rattle.sc_tree.specs.declared.grammar.Specified.{Specified}
use Rattle.sc_parse_expr.specs.declared.found.Wanted.{Wanted}
use Rattle.sc_parse_expr.specs.declared.found.Wanted.TheVariants as want
use Rattle.sc_parse_expr.specs.declared.found.Phrase.{Phrase}
use Rattle.sc_parse_expr.specs.declared.found.Operand.{Operand}
use Rattle.sc_parse_expr.specs.declared.found.Declared.{Declared}
use Rattle.sc_parse_expr.specs.Read.{Read, Parse}
use Rattle.sc_parse_expr.specs.Reading as r
use Rattle.sc_parse_expr.specs.Reading.{parse, expr_at, specs_at, declarator_at, expr_in, specs_in, declarator_in, as_expr, as_specs, as_declarator}
use Rattle.sc_parse_expr.specs.Laws.{TakesExpr, TakesSpecs, TakesDeclarator, IsSound}
use Rattle.sc_parse_expr.proofs.Tools.{bind_some, given}
use Rattle.sc_parse_expr.proofs.SoundExpr.{SoundParts, took_is, at_level_took}
use Rattle.sc_parse_expr.proofs.SoundSpecs.{specs_took}
use Rattle.sc_parse_expr.proofs.SoundDeclarator.{declarator_took}

-- with a parser of the parts that is sound at one less, the reading is sound
above : (types : List NameId) (n : ℕ) → IsSound types n → IsSound types (suc n)
unfolding r.wanted parse
above types n s =
    let inner : Wanted → Parse Phrase = (λ v us. parse types n v us) in
    let parts : SoundParts types n (suc n) inner = record { expr = s.expr; specs = s.specs; declarator = s.declarator } in
    record {
      expr = λ level ts x is.
          let w = bind_some (parse types (suc n) (want.Expr level) ts) expr_in x is in
          let a = bind_some (r.at_level types (suc n) inner level ts) as_expr w.value w.is in
          let same = given (λ (y : Read Phrase). expr_in y ≡ Some x → TakesExpr types (suc n) level ts x) _ w.value a.gives in
          same (λ here. given (λ (y : Read Operand). TakesExpr types (suc n) level ts y) a.value x here
          (took_is (at_level_took types (suc n) n inner parts level ts a.value a.is))) w.gives;
      specs = λ ts x is.
          let w = bind_some (parse types (suc n) want.Specs ts) specs_in x is in
          let a = bind_some (r.specs types (suc n) inner ts) as_specs w.value w.is in
          let same = given (λ (y : Read Phrase). specs_in y ≡ Some x → TakesSpecs types (suc n) ts x) _ w.value a.gives in
          same (λ here. given (λ (y : Read Specified). TakesSpecs types (suc n) ts y) a.value x here
          (specs_took types (suc n) n inner parts ts a.value a.is)) w.gives;
      declarator = λ m ts x is.
          let w = bind_some (parse types (suc n) (want.Declarator m) ts) declarator_in x is in
          let a = bind_some (r.declarator types (suc n) inner m ts) as_declarator w.value w.is in
          let same = given (λ (y : Read Phrase). declarator_in y ≡ Some x → TakesDeclarator types (suc n) m ts x) _ w.value a.gives in
          same (λ here. given (λ (y : Read Declared). TakesDeclarator types (suc n) m ts y) a.value x here
          (declarator_took types (suc n) n inner parts m ts a.value a.is)) w.gives;
    }

pub sound : (types : List NameId) (limit : ℕ) → IsSound types limit
unfolding parse
sound types zero = record { expr = λ level ts x is. absurd cc; specs = λ ts x is. absurd cc; declarator = λ m ts x is. absurd cc }
sound types (suc n) = above types n (sound types n)
