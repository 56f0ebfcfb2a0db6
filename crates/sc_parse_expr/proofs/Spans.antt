-- From what is read to what is spelled, by the two laws.
use Rattle.std.proofs.Common.{◌≡◌, ℕ, ◌-◌, take, drop, Result, Ok, Err, IfOk, List, [], ◌∷◌, ◌++◌, Option, Some, None, refl, sym, ap, subst, ◌∙◌}
use Rattle.std.proofs.lemmas.List.{append-nil}
use Rattle.sc_base.specs.declared.pos.NameId.{NameId}
use Rattle.sc_base.specs.declared.fault.OutOfMemory.{OutOfMemory}
use Rattle.sc_parse_expr.proofs.SoundReading.{sound}
use Rattle.sc_parse_expr.proofs.Completeness.{complete}
use Rattle.sc_tree.specs.declared.token.Token.{Token}
use Rattle.sc_tree.specs.declared.expr.Expr.{Expr}
use Rattle.sc_tree.specs.declared.grammar.Level.TheVariants.{Whole}
use Rattle.sc_tree.specs.Grammar.{Spells}
use Rattle.sc_tree.specs.Trees.{IsExpr}
use Rattle.sc_parse_expr.specs.declared.found.Operand.{Operand}
use Rattle.sc_parse_expr.specs.declared.span.Parsed.{Parsed}
use Rattle.sc_parse_expr.specs.declared.span.Parsed.TheVariants.{Tree, Not}
use Rattle.sc_parse_expr.specs.Read.{Read, read}
use Rattle.sc_parse_expr.specs.Reading.{operand, expr_at}
use Rattle.sc_parse_expr.specs.Laws.{IsSound, IsComplete, TakesExpr}
use Rattle.sc_parse_expr.specs.Spans.{IsParsed, Answers, alone, of_all}

module _ (types : List NameId) (span : List Token) (sound_there : IsSound types 128) (complete_there : IsComplete types 128) where
  spelled_by : (t : Expr) (rest : List Token) (r : Read Operand) → TakesExpr types 128 Whole span r → r.rest ≡ rest → alone rest r.it.tree
      ≡ Some t → IsExpr types Whole span t
  spelled_by t [] r takes none is =
      let tree : r.it.tree ≡ t = (cc) in
      let whole : takes.span ≡ span = sym (append-nil takes.span) ∙ ap (λ ts. takes.span ++ ts) (sym none) ∙ sym takes.split in
      record {
        height = r.height;
        low = takes.low;
        spelled = subst (λ s. Spells types Whole r.height t s) whole
            (subst (λ x. Spells types Whole r.height x takes.span) tree takes.spelled);
      }
  spelled_by t (x ∷ xs) r takes none is = (cc)

  spelled : (t : Expr) (o : Option (Read Operand)) → expr_at types 128 Whole span ≡ o → of_all o ≡ Some t → IsExpr types Whole span t
  spelled t (Some r) e is = spelled_by t r.rest r (sound_there.expr Whole span r e) refl is
  spelled t None e is = (cc)

  not_spelled : of_all (expr_at types 128 Whole span) ≡ None → (t : Expr) → IsExpr types Whole span t → ⊥
  not_spelled none t x =
      let found = complete_there.expr Whole x.height t span [] x.spelled x.low refl in
      let at_span : expr_at types 128 Whole span ≡ Some (read (operand t found.0) x.height []) =
      ap (λ s. expr_at types 128 Whole s) (sym (append-nil span)) ∙ found.1 in
      let some : of_all (expr_at types 128 Whole span) ≡ Some t = ap of_all at_span in
      (cc)

  is_parsed : (p : Parsed Expr) → Answers (expr_at types 128 Whole span) p → IsParsed types span p
  is_parsed (Tree t) answers = spelled t (expr_at types 128 Whole span) refl answers
  is_parsed Not answers = not_spelled answers

-- the answer by what is read is the answer by what is spelled
pub span_parsed : (types : List NameId) (r : Result (Parsed Expr) OutOfMemory) (from to : ℕ) (ts us : List Token) → us ≡ ts
    → IfOk r (Answers (expr_at types 128 Whole (take (to - from) (drop from us)))) → IfOk r (IsParsed types (take (to - from) (drop from ts)))
span_parsed types (Ok p) from to ts us same given =
    subst (λ vs. IsParsed types (take (to - from) (drop from vs)) p) same
    (is_parsed types (take (to - from) (drop from us)) (sound types 128) (complete types 128) p given)
span_parsed types (Err e) from to ts us same given = tt
