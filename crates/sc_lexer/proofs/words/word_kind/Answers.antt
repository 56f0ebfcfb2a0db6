use Rattle.std.proofs.Common.{List, Option, ℕ, sym, ap, ◌∙◌, ◌++◌}
use Rattle.sc_base.specs.Names.{place_of, with_text}
use Rattle.sc_lexer.specs.Naming.{with_word}
use Rattle.sc_tree.specs.declared.token.Reserved.{Reserved}
use Rattle.sc_lexer.proofs.WordProofs.{word_reserved, word_named}
use Rattle.sc_lexer.proofs.words.word_kind.Goals as goal

pub returns-in-Some-clause-kind : goal.returns-in-Some-clause-kind
returns-in-Some-clause-kind c = λ more. word_reserved (c.args.names.now ++ more) c.args.word.now c.in-Some.word (sym c.in-Some.ensures)

pub returns-clause-kind : goal.returns-clause-kind
returns-clause-kind c = λ more.
    word_named c.args.names.now c.intern.new.self more c.args.word.now c.in_ok-name.name (sym c.in_default.ensures)
    (c.in_ok-name.ensures.place ∙ ap (λ (t : List ℕ). place_of t c.args.names.now) c.text_of.ensures)
    (c.in_ok-name.ensures.texts ∙ ap (λ (t : List ℕ). with_text c.args.names.now t) c.text_of.ensures)

pub returns-in-Some-clause-named : goal.returns-in-Some-clause-named
returns-in-Some-clause-named c = ap (λ (r : Option Reserved). with_word r c.args.names.now c.args.word.now) c.in-Some.ensures

pub returns-clause-named : goal.returns-clause-named
returns-clause-named c =
    c.in_ok-name.ensures.texts ∙ ap (λ (t : List ℕ). with_text c.args.names.now t) c.text_of.ensures
    ∙ ap (λ (r : Option Reserved). with_word r c.args.names.now c.args.word.now) c.in_default.ensures
