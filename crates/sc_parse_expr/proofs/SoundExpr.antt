-- Expressions: what is read is spelled.
use Rattle.std.proofs.Common.{◌≡◌, ℕ, zero, suc, ◌≤◌, max, Bool, true, false, List, [], ◌∷◌, ◌++◌, length, Option, Some, None, refl, sym}
use Rattle.std.proofs.Common.{ap, subst, ◌∙◌, append_assoc, arith, ⊎_elim}
use Rattle.std.specs.Prelude.{◌&&◌}
use Rattle.std.proofs.lemmas.Bool.{and_parts}
use Rattle.std.proofs.lemmas.List.{append-nil}
use Rattle.sc_base.specs.declared.pos.Pos.{Pos}
use Rattle.sc_base.specs.declared.pos.NameId.{NameId}
use Rattle.sc_tree.specs.declared.token.Token.{Token}
use Rattle.sc_tree.specs.declared.token.Kind.{Kind}
use Rattle.sc_tree.specs.declared.token.Kind.TheVariants as k
use Rattle.sc_tree.specs.declared.token.Punct.{Punct}
use Rattle.sc_tree.specs.declared.token.Punct.TheVariants as sign
use Rattle.sc_tree.specs.declared.token.Reserved.TheVariants as key
use Rattle.sc_tree.specs.declared.token.StrToken.{StrToken}
use Rattle.sc_tree.specs.declared.op.BinaryOp.{BinaryOp}
use Rattle.sc_tree.specs.declared.op.UnaryOp.{UnaryOp}
use Rattle.sc_tree.specs.declared.op.AssignOp.{AssignOp}
use Rattle.sc_tree.specs.declared.op.Step.{Step}
use Rattle.sc_tree.specs.declared.expr.Expr.{Expr}
use Rattle.sc_tree.specs.declared.expr.Expr.TheVariants as e
use Rattle.sc_tree.specs.declared.expr.Head.{roll-Head}
use Rattle.sc_tree.specs.declared.grammar.Level.{Level}
use Rattle.sc_tree.specs.declared.grammar.Level.TheVariants.{Primary, Postfix, Prefix, Cast, Operators, Choice, Assignment, Whole}
use Rattle.sc_tree.specs.declared.grammar.Naming.{Naming}
use Rattle.sc_tree.specs.declared.grammar.Naming.TheVariants as naming
use Rattle.sc_tree.specs.declared.grammar.Gathered.{Gathered}
use Rattle.sc_tree.specs.declared.grammar.Specified.{Specified}
use Rattle.sc_tree.specs.Specifiers.{no_pieces, finished}
use Rattle.sc_tree.specs.declared.grammar.Piece.{Piece}
use Rattle.sc_tree.specs.Tables.{◌>>=◌}
use Rattle.sc_tree.specs.Tokens.{token, word, punct, first_pos, at, is_type}
use Rattle.sc_tree.specs.Operators.{unary}
use Rattle.sc_tree.specs.Grammar.{is_named, Strings, one_string, more_strings, Spells, Arguments, Heads, Specifies, Declares, a_name}
use Rattle.sc_tree.specs.Grammar.{an_int, a_char, an_odd, a_string, brackets, a_primary, an_index, a_call, a_field, a_step_behind}
use Rattle.sc_tree.specs.Grammar.{a_postfix, a_unary, a_step_before, a_size, a_size_of_type, a_prefix, a_cast, an_operand, stronger}
use Rattle.sc_tree.specs.Grammar.{a_binary, no_choice, a_choice, no_assignment, an_assignment, no_comma, a_comma, no_arguments, arguments}
use Rattle.sc_tree.specs.Grammar.{one_argument, more_arguments, a_head, pieces, no_piece, more_pieces, APiece, a_storage_word, a_type_word}
use Rattle.sc_tree.specs.Grammar.{a_typedef_name, a_record, a_record_body, a_record_whole, an_enum, an_enum_body, an_enum_whole}
use Rattle.sc_tree.specs.Grammar as grammar
use Rattle.sc_parse_expr.specs.declared.found.Wanted.{Wanted}
use Rattle.sc_parse_expr.specs.declared.found.Phrase.{Phrase}
use Rattle.sc_parse_expr.specs.declared.found.Operand.{Operand}
use Rattle.sc_parse_expr.specs.declared.found.Declared.{Declared}
use Rattle.sc_parse_expr.specs.declared.found.Headed.{Headed}
use Rattle.sc_parse_front.specs.Front.{front, front_word, front_reserved, behind, is_left_paren, is_right_paren, is_right_bracket, is_comma}
use Rattle.sc_parse_front.specs.Front.{is_colon, is_question, is_sizeof, begins_type, binary_at, unary_at, step_at, assign_at, Suffix}
use Rattle.sc_parse_front.specs.Front.{Indexing, Calling, Fielding, Stepping, NoSuffix, suffix}
use Rattle.sc_parse_expr.specs.Read.{Read, read, Parse, node, taking, Listed, commas}
use Rattle.sc_parse_expr.specs.Reading as r
use Rattle.sc_parse_expr.specs.Reading.{operand, place, strings, past_strings, joined, passed, with_tree, never}
use Rattle.sc_parse_expr.specs.Laws.{TakesExpr, TakesSpecs, TakesDeclarator}
use Rattle.sc_parse_expr.proofs.Tools.{bind_some, if_is, test_is, given, node_is, Splits, none, glue, One, front_is, front_word_is}
use Rattle.sc_parse_expr.proofs.Tools.{front_reserved_is, left_paren, right_paren, right_bracket, comma, colon, question, sizeof, taken}
use Rattle.sc_parse_expr.proofs.Tools.{unary_is, step_is, assign_is, binary_is, index_there, call_there, field_there, step_there}
use Rattle.sc_parse_expr.proofs.SoundLists.{Item, Chained, last, more, Ending, plain, with_comma, all_added, TookListed, commas_took}

-- What the parser of the parts takes, with trees of at most that height.
pub record SoundParts (types : List NameId) (below : ℕ) (limit : ℕ) (inner : Wanted → Parse Phrase) : Type 0 where
  pub expr : (level : Level) (ts : List Token) (x : Read Operand) → r.inner_expr types limit inner level ts ≡ Some x → TakesExpr types below level ts x
  pub specs : (ts : List Token) (x : Read Specified) → r.inner_specs types limit inner ts ≡ Some x → TakesSpecs types below ts x
  pub declarator : (n : Naming) (ts : List Token) (x : Read Declared) → r.inner_declarator types limit inner n ts ≡ Some x → TakesDeclarator types below n ts x

-- An expression was taken, and at least one token.
pub record Took (types : List NameId) (limit : ℕ) (level : Level) (ts : List Token) (x : Read Operand) : Type 0 where
  pub first : Token
  pub others : List Token
  pub split : Splits ts (first ∷ others) x.rest
  pub spelled : Spells types level x.height x.it.tree (first ∷ others)
  pub prefixed : x.it.unary ≡ true → Spells types Prefix x.height x.it.tree (first ∷ others)
  pub low : x.height ≤ limit

-- What a head took.
pub record TookHead (types : List NameId) (n : Naming) (ts : List Token) (x : Read Headed) : Type 0 where
  pub span : List Token
  pub split : Splits ts span x.rest
  pub spelled : Heads types n x.it.named x.height x.it.head span

pub record TookArguments (types : List NameId) (ts : List Token) (x : Read (List Expr)) : Type 0 where
  pub span : List Token
  pub split : Splits ts span x.rest
  pub spelled : Arguments types x.height x.it span

-- ---- the place where a phrase begins

pub first_is : {ts rest others : List Token} {first : Token} → Splits ts (first ∷ others) rest → first.pos ≡ first_pos ts
first_is a = sym (ap first_pos a.is)

moved : {types : List NameId} {level : Level} {h : ℕ} {s : List Token} (make : Pos → Expr) {p q : Pos} → p ≡ q
    → Spells types level h (make p) s → Spells types level h (make q) s
moved {types = types} {level = level} {h = h} {s = s} make e x = subst (λ (p : Pos). Spells types level h (make p) s) e x

pub took_is : {types : List NameId} {limit : ℕ} {level : Level} {ts : List Token} {x : Read Operand} → Took types limit level ts x
    → TakesExpr types limit level ts x
took_is t = record { span = t.first ∷ t.others; split = t.split.is; spelled = t.spelled; prefixed = t.prefixed; low = t.low }

-- specifiers are not empty
piece_begins : {types : List NameId} {h : ℕ} {x : Piece} {s : List Token} → APiece types h x s → (r : List Token) → first_pos (s ++ r) ≡ first_pos s
piece_begins (a_storage_word w x p e) r = refl
piece_begins (a_type_word w x p e) r = refl
piece_begins (a_typedef_name w p e) r = refl
piece_begins (a_record w u tag p q e) r = refl
piece_begins (a_record_body w u p q o e ms) r = refl
piece_begins (a_record_whole w u tag p q o v e ms) r = refl
piece_begins (an_enum tag p q) r = refl
piece_begins (an_enum_body p q o xs) r = refl
piece_begins (an_enum_whole tag p q o v xs) r = refl

nothing : (g : Gathered) (f : Specified) → Some no_pieces ≡ Some g → finished g ≡ Some f → ⊥
nothing g f w is = given (λ (h : Gathered). finished h ≡ Some f → ⊥) no_pieces g w (λ bad. absurd cc) is

pub specs_begin : {types : List NameId} {h : ℕ} {f : Specified} {s : List Token} → Specifies types h f s → (r : List Token) → first_pos (s ++ r) ≡ first_pos s
specs_begin (pieces no_piece w f) r = absurd (nothing _ _ w f)
specs_begin (pieces (more_pieces {s = s} {r = t} x xs) w f) r = rw append_assoc (piece_begins x (t ++ r) ∙ sym (piece_begins x t))

-- ---- string literals

record TookStrings (us : List Token) : Type 0 where
  pub span : List Token
  pub split : Splits us span (past_strings us)
  pub spelled : (y : StrToken) (p : Pos) → Strings (y ∷ strings us) (token (k.Str y) p ∷ span)

strings_by : (x : Kind) (q : Pos) (us : List Token) → TookStrings us → TookStrings (token x q ∷ us)
unfolding strings past_strings
strings_by (k.Str z) q us t = record {
  span = token (k.Str z) q ∷ t.span;
  split =
      record { is = ap (λ (v : List Token). token (k.Str z) q ∷ v) t.split.is };
  spelled = λ y p. more_strings y p (t.spelled z q);
}
strings_by x q us t = record { span = []; split = none (token x q ∷ us); spelled = λ y p. one_string y p }

strings_took : (us : List Token) → TookStrings us
unfolding strings past_strings
strings_took [] = record { span = []; split = none []; spelled = λ y p. one_string y p }
strings_took (t ∷ us) = strings_by t.kind t.pos us (strings_took us)

-- ---- arguments

abbrev trees : List Operand → List Expr
trees [] = []
trees (x ∷ xs) = x.tree ∷ trees xs

all_trees : (before : List Expr) (xs : List Operand) → all_added with_tree before xs ≡ before ++ trees xs
all_trees before [] = sym (append-nil before)
all_trees before (x ∷ xs) = all_trees (before ++ x.tree ∷ []) xs ∙ append_assoc before (x.tree ∷ []) (trees xs)

-- ---- expressions

module _ (types : List NameId) (limit below : ℕ) (inner : Wanted → Parse Phrase) (parts : SoundParts types below limit inner) where
  -- a node that was made over what was taken
  made : (level : Level) (ts : List Token) (t : Expr) (u : Bool) (h : ℕ) (rest : List Token) (x : Read Operand)
      → node limit (operand t u) h rest ≡ Some x → {first : Token} {others : List Token}
      → Splits ts (first ∷ others) rest → Spells types level (suc h) t (first ∷ others)
      → (u ≡ true → Spells types Prefix (suc h) t (first ∷ others)) → Took types limit level ts x
  made level ts t u h rest x is split spelled prefixed = node_is (λ (y : Read Operand). Took types limit level ts y) limit (operand t u) h rest x is
      (λ low. record { first = _; others = _; split = split; spelled = spelled; prefixed = prefixed; low = low })

  -- one of a level that an assignment may not stand behind
  made_loose : (level : Level) (ts : List Token) (t : Expr) (h : ℕ) (rest : List Token) (x : Read Operand)
      → node limit (operand t false) h rest ≡ Some x → {first : Token} {others : List Token}
      → Splits ts (first ∷ others) rest → Spells types level (suc h) t (first ∷ others) → Took types limit level ts x
  made_loose level ts t h rest x is split spelled = made level ts t false h rest x is split spelled (λ u. absurd cc)

  pub head_took : (n : Naming) (ts : List Token) (x : Read Headed) → r.inner_head types limit inner n ts ≡ Some x → TookHead types n ts x
  unfolding r.inner_head r.headed
  head_took n ts x is =
      let a = bind_some (r.inner_specs types limit inner ts) _ x is in
      let b = bind_some (r.inner_declarator types limit inner n a.value.rest) _ x a.gives in
      let s = parts.specs ts a.value a.is in
      let d = parts.declarator n a.value.rest b.value b.is in
      let from : first_pos s.span ≡ first_pos ts = sym (specs_begin s.spelled a.value.rest) ∙ sym (ap first_pos s.split) in
      given (λ (y : Read Headed). TookHead types n ts y) (r.headed types limit inner ts a.value b.value) x b.gives
      (record {
        span = s.span ++ d.span;
        split = glue (record { is = s.split }) (record { is = d.split });
        spelled = subst (λ (p : Pos). Heads types n (is_named b.value.it.core) (max a.value.height b.value.height)
            (roll-Head (record { pos = p; specs = a.value.it.specs; declarator = b.value.it.declarator })) (s.span ++ d.span)) from
            (a_head s.spelled d.spelled);
      })

  -- ---- operands

  atom_took : (tok : Token) (us : List Token) (t : Expr) (x : Read Operand) → Spells types Primary 1 t (tok ∷ [])
      → node limit (operand t true) 0 us ≡ Some x → Took types limit Primary (tok ∷ us) x
  atom_took tok us t x spelled is = made Primary (tok ∷ us) t true 0 us x is (record { is = refl }) spelled (λ u. a_postfix (a_primary spelled))

  named_took : (w : NameId) (p : Pos) (us : List Token) (x : Read Operand) (b : Bool) → is_type types w ≡ b
      → r.named_atom types limit inner b w p us ≡ Some x → Took types limit Primary (word w p ∷ us) x
  named_took w p us x true b is = absurd cc
  named_took w p us x false b is = atom_took (word w p) us (e.Name w (at p)) x (a_name w p b) is

  string_took : (y : StrToken) (p : Pos) (us : List Token) (x : Read Operand)
      → node limit (operand (e.Str (y ∷ strings us) (at p)) true) 0 (past_strings us) ≡ Some x → Took types limit Primary (token (k.Str y) p ∷ us) x
  string_took y p us x is = let t = strings_took us in
      let spelled : Spells types Primary 1 (e.Str (y ∷ strings us) (at p)) (token (k.Str y) p ∷ t.span) = a_string (t.spelled y p) in
      made Primary (token (k.Str y) p ∷ us) (e.Str (y ∷ strings us) (at p)) true 0 (past_strings us) x is
      (record { is = ap (λ (v : List Token). token (k.Str y) p ∷ v) t.split.is }) spelled (λ u. a_postfix (a_primary spelled))

  bracketed_took : (ts : List Token) (us : List Token) (a x : Read Operand) → One ts (punct sign.LeftParen (first_pos ts)) us
      → TakesExpr types below Whole us a → r.bracketed types limit inner a ≡ Some x → Took types limit Primary ts x
  unfolding r.bracketed
  bracketed_took ts us a x before w is =
      let c = bind_some (taking is_right_paren a.rest) _ x is in
      let close = taken is_right_paren sign.RightParen right_paren a.rest c.value c.is in
      let spelled = brackets (first_pos ts) (first_pos a.rest) w.spelled in
      made Primary ts a.it.tree true a.height c.value x c.gives (glue before (glue (record { is = w.split }) close)) spelled
      (λ u. a_postfix (a_primary spelled))

  round_took : (o : Punct) (p : Pos) (us : List Token) (x : Read Operand) → r.in_round types limit inner (Some o) us ≡ Some x
      → Took types limit Primary (punct o p ∷ us) x
  round_took o p us x is =
      let t = test_is (is_left_paren (Some o)) (r.inner_expr types limit inner Whole us >>= r.bracketed types limit inner) x is in
      let a = bind_some (r.inner_expr types limit inner Whole us) (r.bracketed types limit inner) x t.1 in
      bracketed_took (punct o p ∷ us) us a.value x (front_is (punct o p ∷ us) sign.LeftParen (left_paren (Some o) t.0))
      (parts.expr Whole us a.value a.is) a.gives

  kind_took : (kind : Kind) (p : Pos) (us : List Token) (x : Read Operand) → r.primary_by types limit inner kind p us ≡ Some x
      → Took types limit Primary (token kind p ∷ us) x
  unfolding r.primary_by
  kind_took (k.Word w) p us x is = named_took w p us x (is_type types w) refl is
  kind_took (k.Int i) p us x is = atom_took (token (k.Int i) p) us (e.Int i (at p)) x (an_int i p) is
  kind_took (k.Char c) p us x is = atom_took (token (k.Char c) p) us (e.Char c (at p)) x (a_char c p) is
  kind_took k.Odd p us x is = atom_took (token k.Odd p) us (e.Odd (at p)) x (an_odd p) is
  kind_took (k.Str y) p us x is = string_took y p us x is
  kind_took (k.Punct o) p us x is = round_took o p us x is
  kind_took (k.Reserved w) p us x is = absurd cc

  primary_took : (ts : List Token) (x : Read Operand) → r.primary types limit inner ts ≡ Some x → Took types limit Primary ts x
  unfolding r.primary
  primary_took [] x is = absurd cc
  primary_took (t ∷ us) x is = kind_took t.kind t.pos us x is

  -- ---- what stands behind an operand

  listed_of : (xs : List Operand) (h : ℕ) (s : List Token) → Chained (λ (a : Operand) m u. Spells types Assignment m a.tree u) xs h s
      → grammar.Listed types h (trees xs) s
  listed_of _ _ _ (last g) = one_argument g
  listed_of _ _ _ (more {xs = xs} {m = m} {r = u} p g c) = more_arguments p g (listed_of xs m u c)

  argument_took : (ts : List Token) (a : Read Operand) → r.inner_expr types limit inner Assignment ts ≡ Some a
      → Item (λ (b : Operand) m u. Spells types Assignment m b.tree u) ts a
  argument_took ts a is = let t = parts.expr Assignment ts a is in record { span = t.span; split = record { is = t.split }; good = t.spelled }

  no_tail : (b : Bool) (tail rest : List Token) → Ending never b tail rest → tail ≡ []
  no_tail _ _ _ (plain rest) = refl
  no_tail _ _ _ (with_comma p rest bad) = absurd cc

  some_arguments : (ts : List Token) (y : Read (Listed (List Expr)))
      → TookListed with_tree never (λ (a : Operand) m u. Spells types Assignment m a.tree u) [] 0 ts y
      → TookArguments types ts (read y.it.items y.height y.rest)
  some_arguments ts y t =
      let items : trees t.xs ≡ y.it.items = sym (t.whole ∙ all_trees [] t.xs) in
      let tall : t.height ≡ y.height = (let h = t.tall in omega arith) in
      record {
        span = t.span ++ t.tail;
        split = t.split;
        spelled = subst (λ (u : List Token). Arguments types y.height y.it.items u)
            (sym (ap (λ (u : List Token). t.span ++ u) (no_tail y.it.comma t.tail y.rest t.ending) ∙ append-nil t.span))
            (subst (λ (m : ℕ). Arguments types m y.it.items t.span) tall
            (subst (λ (xs : List Expr). Arguments types t.height xs t.span) items (arguments (listed_of t.xs t.height t.span t.chained))));
      }

  arguments_took : (ts : List Token) (x : Read (List Expr)) → r.arguments types limit inner ts ≡ Some x → TookArguments types ts x
  unfolding r.arguments
  arguments_took ts x is = ⊎_elim
      (λ t. given (λ (y : Read (List Expr)). TookArguments types ts y) (read [] 0 ts) x t.1 (record { span = []; split = none ts; spelled = no_arguments }))
      (λ t. let a = bind_some (commas (r.inner_expr types limit inner Assignment) with_tree never (length ts) [] 0 ts)
      (λ y. Some (read y.it.items y.height y.rest)) x t.1 in
      given (λ (y : Read (List Expr)). TookArguments types ts y) (read a.value.it.items a.value.height a.value.rest) x a.gives
      (some_arguments ts a.value (commas_took (r.inner_expr types limit inner Assignment) with_tree never
      (λ (b : Operand) m u. Spells types Assignment m b.tree u) argument_took (length ts) [] 0 ts a.value a.is)))
      (if_is (is_right_paren (front ts)) (Some (read [] 0 ts))
      (commas (r.inner_expr types limit inner Assignment) with_tree never (length ts) [] 0 ts >>= λ y.
      Some (read y.it.items y.height y.rest)) (Some x) is)

  indexed_took : (ts : List Token) (a : Read Operand) → Took types limit Postfix ts a → suffix (front a.rest) ≡ Indexing
      → (x : Read Operand) → r.indexed types limit inner (first_pos ts) a ≡ Some x → Took types limit Postfix ts x
  unfolding r.indexed
  indexed_took ts a t there x is =
      let b = bind_some (r.inner_expr types limit inner Whole (behind a.rest)) _ x is in
      let c = bind_some (taking is_right_bracket b.value.rest) _ x b.gives in
      let w = parts.expr Whole (behind a.rest) b.value b.is in
      let close = taken is_right_bracket sign.RightBracket right_bracket b.value.rest c.value c.is in
      let spelled = moved (λ p. e.Index a.it.tree b.value.it.tree (place p (first_pos a.rest))) (first_is t.split)
      (an_index (first_pos a.rest) (first_pos b.value.rest) t.spelled w.spelled) in
      made Postfix ts (e.Index a.it.tree b.value.it.tree (place (first_pos ts) (first_pos a.rest))) true (max a.height b.value.height) c.value x c.gives
      (glue t.split (glue (index_there a.rest there) (glue (record { is = w.split }) close))) spelled (λ u. a_postfix spelled)

  calling_took : (ts : List Token) (a : Read Operand) → Took types limit Postfix ts a → suffix (front a.rest) ≡ Calling → (x : Read Operand)
      → r.calling types limit inner (first_pos ts) a ≡ Some x → Took types limit Postfix ts x
  unfolding r.calling
  calling_took ts a t there x is =
      let b = bind_some (r.arguments types limit inner (behind a.rest)) _ x is in
      let c = bind_some (taking is_right_paren b.value.rest) _ x b.gives in
      let w = arguments_took (behind a.rest) b.value b.is in
      let close = taken is_right_paren sign.RightParen right_paren b.value.rest c.value c.is in
      let spelled = moved (λ p. e.Call a.it.tree b.value.it (place p (first_pos a.rest))) (first_is t.split)
      (a_call (first_pos a.rest) (first_pos b.value.rest) t.spelled w.spelled) in
      made Postfix ts (e.Call a.it.tree b.value.it (place (first_pos ts) (first_pos a.rest))) true (max a.height b.value.height) c.value x c.gives
      (glue t.split (glue (call_there a.rest there) (glue w.split close))) spelled (λ u. a_postfix spelled)

  fielded_took : (arrow : Bool) (ts : List Token) (a : Read Operand) → Took types limit Postfix ts a → suffix (front a.rest)
      ≡ Fielding arrow → (x : Read Operand) → r.fielded types limit inner (first_pos ts) arrow a ≡ Some x → Took types limit Postfix ts x
  unfolding r.fielded
  fielded_took arrow ts a t there x is =
      let o = field_there a.rest arrow there in
      let w = bind_some (front_word (behind a.rest)) _ x is in
      let q = first_pos (behind a.rest) in
      let spelled = moved (λ p. e.Field a.it.tree w.value arrow (place p q)) (first_is t.split)
      (a_field o.sign arrow w.value (first_pos a.rest) q o.row t.spelled) in
      made Postfix ts (e.Field a.it.tree w.value arrow (place (first_pos ts) q)) true a.height (behind (behind a.rest)) x w.gives
      (glue t.split (glue o.there (front_word_is (behind a.rest) w.value w.is))) spelled (λ u. a_postfix spelled)

  stepped_took : (by : Step) (ts : List Token) (a : Read Operand) → Took types limit Postfix ts a → suffix (front a.rest) ≡ Stepping by
      → (x : Read Operand) → r.stepped types limit inner (first_pos ts) by a ≡ Some x → Took types limit Postfix ts x
  unfolding r.stepped
  stepped_took by ts a t there x is =
      let o = step_there a.rest by there in
      let spelled = moved (λ p. e.PostInc by a.it.tree (place p (first_pos a.rest))) (first_is t.split)
      (a_step_behind o.sign by (first_pos a.rest) o.row t.spelled) in
      made Postfix ts (e.PostInc by a.it.tree (place (first_pos ts) (first_pos a.rest))) true a.height (behind a.rest) x is
      (glue t.split o.there) spelled (λ u. a_postfix spelled)

  suffixed_took : (go : Read Operand → Option (Read Operand)) (ts : List Token)
      → ((b y : Read Operand) → Took types limit Postfix ts b → go b ≡ Some y → Took types limit Postfix ts y)
      → (a : Read Operand) → Took types limit Postfix ts a → (s : Suffix) → suffix (front a.rest) ≡ s → (x : Read Operand)
      → r.suffixed types limit inner go (first_pos ts) s a ≡ Some x → Took types limit Postfix ts x
  unfolding r.suffixed
  suffixed_took go ts ih a t Indexing there x is = let b = bind_some (r.indexed types limit inner (first_pos ts) a) go x is in
      ih b.value x (indexed_took ts a t there b.value b.is) b.gives
  suffixed_took go ts ih a t Calling there x is = let b = bind_some (r.calling types limit inner (first_pos ts) a) go x is in
      ih b.value x (calling_took ts a t there b.value b.is) b.gives
  suffixed_took go ts ih a t (Fielding arrow) there x is = let b = bind_some (r.fielded types limit inner (first_pos ts) arrow a) go x is in
      ih b.value x (fielded_took arrow ts a t there b.value b.is) b.gives
  suffixed_took go ts ih a t (Stepping by) there x is = let b = bind_some (r.stepped types limit inner (first_pos ts) by a) go x is in
      ih b.value x (stepped_took by ts a t there b.value b.is) b.gives
  suffixed_took go ts ih a t NoSuffix there x is = given (λ (y : Read Operand). Took types limit Postfix ts y) a x is t

  suffixes_took : (n : ℕ) (ts : List Token) (a x : Read Operand) → Took types limit Postfix ts a
      → r.suffixes types limit inner n (first_pos ts) a ≡ Some x → Took types limit Postfix ts x
  unfolding r.suffixes
  suffixes_took zero ts a x t is = suffixed_took (λ y. None) ts (λ b y u bad. absurd cc) a t (suffix (front a.rest)) refl x is
  suffixes_took (suc n) ts a x t is = suffixed_took (λ y. r.suffixes types limit inner n (first_pos ts) y) ts
      (λ b y u more_is. suffixes_took n ts b y u more_is) a t (suffix (front a.rest)) refl x is

  -- what is of a stronger level is of the weaker one
  weaker : (l m : Level) → ((h : ℕ) (t : Expr) (s : List Token) → Spells types l h t s → Spells types m h t s)
      → {ts : List Token} {x : Read Operand} → Took types limit l ts x → Took types limit m ts x
  weaker l m up {x = x} t = record {
    first = t.first;
    others = t.others;
    split = t.split;
    spelled =
        up x.height x.it.tree (t.first ∷ t.others) t.spelled;
    prefixed = t.prefixed;
    low = t.low;
  }

  postfix_took : (ts : List Token) (x : Read Operand) → r.postfix types limit inner ts ≡ Some x → Took types limit Postfix ts x
  unfolding r.postfix
  postfix_took ts x is =
      let a = bind_some (r.primary types limit inner ts) (r.suffixes types limit inner limit (first_pos ts)) x is in
      suffixes_took limit ts a.value x (weaker Primary Postfix (λ h t s p. a_primary p) (primary_took ts a.value a.is)) a.gives

  -- ---- operators before their operand

  applied_took : (op : UnaryOp) (ts : List Token) (x : Read Operand) → unary_at (front ts) ≡ Some op → r.applied types limit inner op ts
      ≡ Some x → Took types limit Prefix ts x
  unfolding r.applied
  applied_took op ts x there is =
      let o = unary_is ts op there in
      let a = bind_some (r.inner_expr types limit inner Cast (behind ts)) _ x is in
      let w = parts.expr Cast (behind ts) a.value a.is in
      let spelled = a_unary o.sign op (first_pos ts) o.row w.spelled in
      made Prefix ts (e.Unary op a.value.it.tree (at (first_pos ts))) true a.value.height a.value.rest x a.gives
      (glue o.there (record { is = w.split })) spelled (λ u. spelled)

  stepped_first_took : (by : Step) (ts : List Token) (x : Read Operand) → step_at (front ts) ≡ Some by
      → r.stepped_first types limit inner by ts ≡ Some x → Took types limit Prefix ts x
  unfolding r.stepped_first
  stepped_first_took by ts x there is =
      let o = step_is ts by there in
      let a = bind_some (r.inner_expr types limit inner Prefix (behind ts)) _ x is in
      let w = parts.expr Prefix (behind ts) a.value a.is in
      let spelled = a_step_before o.sign by (first_pos ts) o.row w.spelled in
      made Prefix ts (e.PreInc by a.value.it.tree (at (first_pos ts))) true a.value.height a.value.rest x a.gives
      (glue o.there (record { is = w.split })) spelled (λ u. spelled)

  size_of_type_took : (ts : List Token) (x : Read Operand) → is_sizeof (front_reserved ts) ≡ true → is_left_paren (front (behind ts)) ≡ true
      → r.size_of_type types limit inner ts ≡ Some x → Took types limit Prefix ts x
  unfolding r.size_of_type
  size_of_type_took ts x size round is =
      let o = front_reserved_is ts key.Sizeof (sizeof (front_reserved ts) size) in
      let l = front_is (behind ts) sign.LeftParen (left_paren (front (behind ts)) round) in
      let t = bind_some (r.inner_head types limit inner naming.Absent (behind (behind ts))) _ x is in
      let c = bind_some (taking is_right_paren t.value.rest) _ x t.gives in
      let w = head_took naming.Absent (behind (behind ts)) t.value t.is in
      let close = taken is_right_paren sign.RightParen right_paren t.value.rest c.value c.is in
      let spelled = a_size_of_type (first_pos ts) (first_pos (behind ts)) (first_pos t.value.rest) w.spelled in
      made Prefix ts (e.SizeofType t.value.it.head (at (first_pos ts))) true t.value.height c.value x c.gives
      (glue o (glue l (glue w.split close))) spelled (λ u. spelled)

  size_of_took : (ts : List Token) (x : Read Operand) → is_sizeof (front_reserved ts) ≡ true → r.size_of types limit inner ts ≡ Some x
      → Took types limit Prefix ts x
  unfolding r.size_of
  size_of_took ts x size is =
      let o = front_reserved_is ts key.Sizeof (sizeof (front_reserved ts) size) in
      let a = bind_some (r.inner_expr types limit inner Prefix (behind ts)) _ x is in
      let w = parts.expr Prefix (behind ts) a.value a.is in
      let spelled = a_size (first_pos ts) w.spelled in
      made Prefix ts (e.SizeofExpr a.value.it.tree (at (first_pos ts))) true a.value.height a.value.rest x a.gives
      (glue o (record { is = w.split })) spelled (λ u. spelled)

  sized_took : (ts : List Token) (x : Read Operand) → is_sizeof (front_reserved ts) ≡ true → r.sized types limit inner ts ≡ Some x
      → Took types limit Prefix ts x
  unfolding r.sized
  sized_took ts x size is = ⊎_elim
      (λ t. size_of_type_took ts x size (and_parts (is_left_paren (front (behind ts))) (begins_type types (behind (behind ts))) t.0).0 t.1)
      (λ t. size_of_took ts x size t.1)
      (if_is (is_left_paren (front (behind ts)) && begins_type types (behind (behind ts))) (r.size_of_type types limit inner ts)
      (r.size_of types limit inner ts) (Some x) is)

  prefix_by_took : (op : Option UnaryOp) (by : Option Step) (size : Bool) (ts : List Token) (x : Read Operand) → unary_at (front ts) ≡ op
      → step_at (front ts) ≡ by → is_sizeof (front_reserved ts) ≡ size
      → r.prefix_by types limit inner op by size ts ≡ Some x → Took types limit Prefix ts x
  unfolding r.prefix_by
  prefix_by_took (Some op) by size ts x a b c is = applied_took op ts x a is
  prefix_by_took None (Some by) size ts x a b c is = stepped_first_took by ts x b is
  prefix_by_took None None true ts x a b c is = sized_took ts x c is
  prefix_by_took None None false ts x a b c is = weaker Postfix Prefix (λ h t s p. a_postfix p) (postfix_took ts x is)

  prefix_took : (ts : List Token) (x : Read Operand) → r.prefix types limit inner ts ≡ Some x → Took types limit Prefix ts x
  unfolding r.prefix
  prefix_took ts x is = prefix_by_took (unary_at (front ts)) (step_at (front ts)) (is_sizeof (front_reserved ts)) ts x refl refl refl is

  -- ---- casts

  -- a cast, from its parts
  cast_made : (ts us vs : List Token) (t : Read Headed) (a x : Read Operand) → One ts (punct sign.LeftParen (first_pos ts)) us
      → TookHead types naming.Absent us t
      → One t.rest (punct sign.RightParen (first_pos t.rest)) vs → TakesExpr types below Cast vs a
      → node limit (operand (e.Cast t.it.head a.it.tree (at (first_pos ts))) false) (max t.height a.height) a.rest ≡ Some x → Took types limit Cast ts x
  cast_made ts us vs t a x l w close v is = made_loose Cast ts (e.Cast t.it.head a.it.tree (at (first_pos ts))) (max t.height a.height) a.rest x is
      (glue l (glue w.split (glue close (record { is = v.split })))) (a_cast (first_pos ts) (first_pos t.rest) w.spelled v.spelled)

  cast_took : (ts : List Token) (x : Read Operand) → is_left_paren (front ts) ≡ true → r.cast types limit inner ts ≡ Some x → Took types limit Cast ts x
  unfolding r.cast
  cast_took ts x round is =
      let t = bind_some (r.inner_head types limit inner naming.Absent (behind ts)) _ x is in
      let c = bind_some (taking is_right_paren t.value.rest) _ x t.gives in
      let a = bind_some (r.inner_expr types limit inner Cast c.value) _ x c.gives in
      cast_made ts (behind ts) c.value t.value a.value x (front_is ts sign.LeftParen (left_paren (front ts) round))
      (head_took naming.Absent (behind ts) t.value t.is)
      (taken is_right_paren sign.RightParen right_paren t.value.rest c.value c.is) (parts.expr Cast c.value a.value a.is) a.gives

  casts_took : (ts : List Token) (x : Read Operand) → r.casts types limit inner ts ≡ Some x → Took types limit Cast ts x
  unfolding r.casts
  casts_took ts x is = ⊎_elim
      (λ t. cast_took ts x (and_parts (is_left_paren (front ts)) (begins_type types (behind ts)) t.0).0 t.1)
      (λ t. weaker Prefix Cast (λ h t s p. a_prefix p) (prefix_took ts x t.1))
      (if_is (is_left_paren (front ts) && begins_type types (behind ts)) (r.cast types limit inner ts) (r.prefix types limit inner ts) (Some x) is)

  -- ---- operators between operands

  combined_took : (l : ℕ) (op : BinaryOp) (ts : List Token) (a : Read Operand) → Took types limit (Operators (suc l)) ts a
      → binary_at (suc l) (front a.rest) ≡ Some op
      → (x : Read Operand) → r.combined types limit inner l (first_pos ts) op a ≡ Some x → Took types limit (Operators (suc l)) ts x
  unfolding r.combined
  combined_took l op ts a t there x is =
      let o = binary_is (suc l) a.rest op there in
      let b = bind_some (r.inner_expr types limit inner (Operators l) (behind a.rest)) _ x is in
      let w = parts.expr (Operators l) (behind a.rest) b.value b.is in
      made_loose (Operators (suc l)) ts (e.Binary op a.it.tree b.value.it.tree (place (first_pos ts) (first_pos a.rest)))
      (max a.height b.value.height) b.value.rest x b.gives
      (glue t.split (glue o.there (record { is = w.split })))
      (moved (λ p. e.Binary op a.it.tree b.value.it.tree (place p (first_pos a.rest))) (first_is t.split)
      (a_binary o.sign op (first_pos a.rest) o.row t.spelled w.spelled))

  chained_took : (go : Read Operand → Option (Read Operand)) (l : ℕ) (ts : List Token)
      → ((b y : Read Operand) → Took types limit (Operators (suc l)) ts b → go b ≡ Some y → Took types limit (Operators (suc l)) ts y)
      → (a : Read Operand) → Took types limit (Operators (suc l)) ts a → (o : Option BinaryOp) → binary_at (suc l) (front a.rest) ≡ o
      → (x : Read Operand) → r.chained types limit inner go l (first_pos ts) o a ≡ Some x
      → Took types limit (Operators (suc l)) ts x
  unfolding r.chained
  chained_took go l ts ih a t (Some op) there x is = let b = bind_some (r.combined types limit inner l (first_pos ts) op a) go x is in
      ih b.value x (combined_took l op ts a t there b.value b.is) b.gives
  chained_took go l ts ih a t None there x is = given (λ (y : Read Operand). Took types limit (Operators (suc l)) ts y) a x is t

  chain_took : (n l : ℕ) (ts : List Token) (a x : Read Operand) → Took types limit (Operators (suc l)) ts a
      → r.chain types limit inner n l (first_pos ts) a ≡ Some x → Took types limit (Operators (suc l)) ts x
  unfolding r.chain
  chain_took zero l ts a x t is = chained_took (λ y. None) l ts (λ b y u bad. absurd cc) a t (binary_at (suc l) (front a.rest)) refl x is
  chain_took (suc n) l ts a x t is = chained_took (λ y. r.chain types limit inner n l (first_pos ts) y) l ts
      (λ b y u more_is. chain_took n l ts b y u more_is) a t (binary_at (suc l) (front a.rest)) refl x is

  operators_took : (l : ℕ) (ts : List Token) (x : Read Operand) → r.operators types limit inner l ts ≡ Some x → Took types limit (Operators l) ts x
  unfolding r.operators
  operators_took zero ts x is = weaker Cast (Operators 0) (λ h t s p. an_operand p) (casts_took ts x is)
  operators_took (suc l) ts x is =
      let a = bind_some (r.operators types limit inner l ts) (r.chain types limit inner limit l (first_pos ts)) x is in
      chain_took limit l ts a.value x (weaker (Operators l) (Operators (suc l)) (λ h t s p. stronger p) (operators_took l ts a.value a.is)) a.gives

  -- ---- conditional, assignment, comma

  -- a conditional, from its parts
  conditional_made : (ts us vs : List Token) (a b c x : Read Operand) → Took types limit (Operators 10) ts a
      → One a.rest (punct sign.Question (first_pos a.rest)) us → TakesExpr types below Whole us b
      → One b.rest (punct sign.Colon (first_pos b.rest)) vs → TakesExpr types below Choice vs c
      → node limit (operand (e.Cond a.it.tree b.it.tree c.it.tree (place (first_pos ts) (first_pos a.rest))) false)
      (max a.height (max b.height c.height)) c.rest ≡ Some x → Took types limit Choice ts x
  conditional_made ts us vs a b c x t o w between v is =
      made_loose Choice ts (e.Cond a.it.tree b.it.tree c.it.tree (place (first_pos ts) (first_pos a.rest))) (max a.height (max b.height c.height)) c.rest x is
      (glue t.split (glue o (glue (record { is = w.split }) (glue between (record { is = v.split })))))
      (moved (λ p. e.Cond a.it.tree b.it.tree c.it.tree (place p (first_pos a.rest))) (first_is t.split)
      (a_choice (first_pos a.rest) (first_pos b.rest) t.spelled w.spelled v.spelled))

  conditioned_took : (ts : List Token) (a : Read Operand) → Took types limit (Operators 10) ts a → is_question (front a.rest) ≡ true
      → (x : Read Operand) → r.conditioned types limit inner (first_pos ts) a ≡ Some x → Took types limit Choice ts x
  unfolding r.conditioned
  conditioned_took ts a t there x is =
      let b = bind_some (r.inner_expr types limit inner Whole (behind a.rest)) _ x is in
      let c = bind_some (taking is_colon b.value.rest) _ x b.gives in
      let d = bind_some (r.inner_expr types limit inner Choice c.value) _ x c.gives in
      conditional_made ts (behind a.rest) c.value a b.value d.value x t (front_is a.rest sign.Question (question (front a.rest) there))
      (parts.expr Whole (behind a.rest) b.value b.is)
      (taken is_colon sign.Colon colon b.value.rest c.value c.is) (parts.expr Choice c.value d.value d.is) d.gives

  conditioning_took : (ts : List Token) (a : Read Operand) → Took types limit (Operators 10) ts a → (x : Read Operand)
      → r.conditioning types limit inner (first_pos ts) a ≡ Some x → Took types limit Choice ts x
  unfolding r.conditioning
  conditioning_took ts a t x is = ⊎_elim
      (λ y. conditioned_took ts a t y.0 x y.1)
      (λ y. given (λ (z : Read Operand). Took types limit Choice ts z) a x y.1 (weaker (Operators 10) Choice (λ h t s p. no_choice p) t))
      (if_is (is_question (front a.rest)) (r.conditioned types limit inner (first_pos ts) a) (Some a) (Some x) is)

  conditional_took : (ts : List Token) (x : Read Operand) → r.conditional types limit inner ts ≡ Some x → Took types limit Choice ts x
  unfolding r.conditional
  conditional_took ts x is =
      let a = bind_some (r.operators types limit inner 10 ts) (r.conditioning types limit inner (first_pos ts)) x is in
      conditioning_took ts a.value (operators_took 10 ts a.value a.is) x a.gives

  assigned_took : (op : AssignOp) (ts : List Token) (a : Read Operand) → Took types limit Choice ts a → a.it.unary ≡ true → assign_at (front a.rest) ≡ Some op
      → (x : Read Operand) → r.assigned types limit inner (first_pos ts) op a ≡ Some x → Took types limit Assignment ts x
  unfolding r.assigned
  assigned_took op ts a t unary there x is =
      let o = assign_is a.rest op there in
      let b = bind_some (r.inner_expr types limit inner Assignment (behind a.rest)) _ x is in
      let w = parts.expr Assignment (behind a.rest) b.value b.is in
      made_loose Assignment ts (e.Assign op a.it.tree b.value.it.tree (place (first_pos ts) (first_pos a.rest)))
      (max a.height b.value.height) b.value.rest x b.gives
      (glue t.split (glue o.there (record { is = w.split })))
      (moved (λ p. e.Assign op a.it.tree b.value.it.tree (place p (first_pos a.rest))) (first_is t.split)
      (an_assignment o.sign op (first_pos a.rest) o.row (t.prefixed unary) w.spelled))

  assigning_took : (ts : List Token) (a : Read Operand) → Took types limit Choice ts a → (u : Bool) → a.it.unary ≡ u → (o : Option AssignOp)
      → assign_at (front a.rest) ≡ o
      → (x : Read Operand) → r.assigning types limit inner (first_pos ts) u o a ≡ Some x → Took types limit Assignment ts x
  unfolding r.assigning
  assigning_took ts a t true u (Some op) there x is = assigned_took op ts a t u there x is
  assigning_took ts a t true u None there x is = given (λ (z : Read Operand). Took types limit Assignment ts z) a x is
      (weaker Choice Assignment (λ h t s p. no_assignment p) t)
  assigning_took ts a t false u o there x is = given (λ (z : Read Operand). Took types limit Assignment ts z) a x is
      (weaker Choice Assignment (λ h t s p. no_assignment p) t)

  assignment_took : (ts : List Token) (x : Read Operand) → r.assignment types limit inner ts ≡ Some x → Took types limit Assignment ts x
  unfolding r.assignment
  assignment_took ts x is =
      let a = bind_some (r.conditional types limit inner ts) (λ y. r.assigning types limit inner (first_pos ts) y.it.unary (assign_at (front y.rest)) y) x is in
      assigning_took ts a.value (conditional_took ts a.value a.is) a.value.it.unary refl (assign_at (front a.value.rest)) refl x a.gives

  sequenced_took : (ts : List Token) (a : Read Operand) → Took types limit Whole ts a → is_comma (front a.rest) ≡ true → (x : Read Operand)
      → r.sequenced types limit inner (first_pos ts) a ≡ Some x → Took types limit Whole ts x
  unfolding r.sequenced
  sequenced_took ts a t there x is =
      let o = front_is a.rest sign.Comma (comma (front a.rest) there) in
      let b = bind_some (r.inner_expr types limit inner Assignment (behind a.rest)) _ x is in
      let w = parts.expr Assignment (behind a.rest) b.value b.is in
      made_loose Whole ts (e.Comma a.it.tree b.value.it.tree (place (first_pos ts) (first_pos a.rest))) (max a.height b.value.height) b.value.rest x b.gives
      (glue t.split (glue o (record { is = w.split })))
      (moved (λ p. e.Comma a.it.tree b.value.it.tree (place p (first_pos a.rest))) (first_is t.split) (a_comma (first_pos a.rest) t.spelled w.spelled))

  sequencing_took : (go : Read Operand → Option (Read Operand)) (ts : List Token)
      → ((b y : Read Operand) → Took types limit Whole ts b → go b ≡ Some y → Took types limit Whole ts y)
      → (a : Read Operand) → Took types limit Whole ts a → (c : Bool) → is_comma (front a.rest) ≡ c → (x : Read Operand)
      → r.sequencing types limit inner go (first_pos ts) c a ≡ Some x → Took types limit Whole ts x
  unfolding r.sequencing
  sequencing_took go ts ih a t true there x is = let b = bind_some (r.sequenced types limit inner (first_pos ts) a) go x is in
      ih b.value x (sequenced_took ts a t there b.value b.is) b.gives
  sequencing_took go ts ih a t false there x is = given (λ (y : Read Operand). Took types limit Whole ts y) a x is t

  sequence_took : (n : ℕ) (ts : List Token) (a x : Read Operand) → Took types limit Whole ts a
      → r.sequence types limit inner n (first_pos ts) a ≡ Some x → Took types limit Whole ts x
  unfolding r.sequence
  sequence_took zero ts a x t is = sequencing_took (λ y. None) ts (λ b y u bad. absurd cc) a t (is_comma (front a.rest)) refl x is
  sequence_took (suc n) ts a x t is = sequencing_took (λ y. r.sequence types limit inner n (first_pos ts) y) ts
      (λ b y u more_is. sequence_took n ts b y u more_is) a t (is_comma (front a.rest)) refl x is

  whole_took : (ts : List Token) (x : Read Operand) → r.whole types limit inner ts ≡ Some x → Took types limit Whole ts x
  unfolding r.whole
  whole_took ts x is =
      let a = bind_some (r.assignment types limit inner ts) (r.sequence types limit inner limit (first_pos ts)) x is in
      sequence_took limit ts a.value x (weaker Assignment Whole (λ h t s p. no_comma p) (assignment_took ts a.value a.is)) a.gives

  pub at_level_took : (level : Level) (ts : List Token) (x : Read Operand) → r.at_level types limit inner level ts ≡ Some x → Took types limit level ts x
  unfolding r.at_level
  at_level_took Primary ts x is = primary_took ts x is
  at_level_took Postfix ts x is = postfix_took ts x is
  at_level_took Prefix ts x is = prefix_took ts x is
  at_level_took Cast ts x is = casts_took ts x is
  at_level_took (Operators l) ts x is = operators_took l ts x is
  at_level_took Choice ts x is = conditional_took ts x is
  at_level_took Assignment ts x is = assignment_took ts x is
  at_level_took Whole ts x is = whole_took ts x is
