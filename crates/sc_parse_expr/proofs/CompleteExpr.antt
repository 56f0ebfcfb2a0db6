-- What is spelled is read: expressions. By recursion on what spells them; parts under a node are read by
-- `inner`.
use Rattle.std.proofs.Common.{◌≡◌, ℕ, zero, suc, ◌+◌, ◌≤◌, max, nat_eq, Bool, true, false, not, ◌&&◌, List, [], ◌∷◌, ◌++◌, length, Option}
use Rattle.std.proofs.Common.{Some, None, refl, sym, ap, ◌∙◌, ap₂, append_assoc, arith, length-append, ne_eqb, eq-eqb, le-leb}
use Rattle.std.proofs.lemmas.Bool.{and_parts, leb-true, not-true}
use Rattle.sc_base.specs.declared.pos.Pos.{Pos}
use Rattle.sc_base.specs.declared.pos.NameId.{NameId}
use Rattle.sc_tree.specs.declared.token.Token.{Token}
use Rattle.sc_tree.specs.declared.token.Kind.{Kind}
use Rattle.sc_tree.specs.declared.token.StrToken.{StrToken}
use Rattle.sc_tree.specs.declared.token.Punct.{Punct}
use Rattle.sc_tree.specs.declared.token.Punct.TheVariants as sign
use Rattle.sc_tree.specs.declared.op.BinaryOp.{BinaryOp}
use Rattle.sc_tree.specs.declared.op.AssignOp.{AssignOp}
use Rattle.sc_tree.specs.declared.op.Step.{Step}
use Rattle.sc_tree.specs.declared.op.Step.TheVariants as steps
use Rattle.sc_tree.specs.declared.expr.Expr.{Expr}
use Rattle.sc_tree.specs.declared.expr.Expr.TheVariants as e
use Rattle.sc_tree.specs.declared.grammar.Level.{Level}
use Rattle.sc_tree.specs.declared.grammar.Level.TheVariants.{Primary, Postfix, Prefix, Cast, Operators, Choice, Assignment, Whole}
use Rattle.sc_tree.specs.Operators.{Binding, binding, binary, unary, step, assign, field}
use Rattle.sc_tree.specs.Tokens.{word, punct, first_pos, at, after}
use Rattle.sc_tree.specs.Tables.{◌>>=◌}
use Rattle.sc_tree.specs.Grammar as g
use Rattle.sc_tree.specs.Grammar.{Strings, one_string, more_strings, Spells, Arguments, Listed, one_argument, more_arguments, Heads}
use Rattle.sc_parse_expr.specs.declared.found.Wanted.{Wanted}
use Rattle.sc_parse_expr.specs.declared.found.Phrase.{Phrase}
use Rattle.sc_parse_expr.specs.declared.found.Operand.{Operand}
use Rattle.sc_parse_front.specs.Front.{string_of, is_left_paren, begins_type, front, front_string, behind, is_comma, is_question, is_some}
use Rattle.sc_parse_front.specs.Front.{at_level, binary_at, assign_at, Suffix, Fielding, Stepping, NoSuffix, suffix}
use Rattle.sc_parse_expr.specs.Read.{Read, read, Parse, commas}
use Rattle.sc_parse_expr.specs.Reading
use Rattle.sc_parse_expr.specs.Reading.{operand, strings, past_strings, with_tree, never, inner_expr, inner_head, bracketed, primary_by}
use Rattle.sc_parse_expr.specs.Reading.{primary, arguments, indexed, calling, fielded, stepped, suffixed, suffixes, postfix, applied}
use Rattle.sc_parse_expr.specs.Reading.{stepped_first, size_of_type, size_of, sized, prefix_by, prefix, cast, casts, combined, chained}
use Rattle.sc_parse_expr.specs.Reading.{chain, operators, conditioned, conditioning, conditional, assigned, assigning, assignment}
use Rattle.sc_parse_expr.specs.Reading.{sequenced, sequencing, sequence, whole}
use Rattle.sc_parse_expr.specs.Laws.{is_no_suffix, is_weaker, ends_operators, ends_conditional, ends_assignment, ends_expr, opens_expr}
use Rattle.sc_parse_expr.proofs.Begins.{Begins, longer, not_empty, first_stays, expr_begins, postfix_begins, prefix_no_cast, no_right_paren}
use Rattle.sc_parse_expr.proofs.Begins.{no_unary, no_step, no_sizeof, head_begins, is_a_type}
use Rattle.sc_parse_expr.proofs.Inner.{no_value, node_is, has_turn, commas_last, commas_more, IsInner, head_read}

-- ---- what follows

no_suffix_is : (x : Suffix) → is_no_suffix x ≡ true → x ≡ NoSuffix
no_suffix_is NoSuffix e = refl
no_suffix_is _ e = absurd cc

ends_string : (l : ℕ) (ts : List Token) → ends_operators l ts ≡ true → not (is_some (front_string ts)) ≡ true
ends_string l ts e = (and_parts (not (is_some (front_string ts))) _ e).0

ends_suffix : (l : ℕ) (ts : List Token) → ends_operators l ts ≡ true → suffix (front ts) ≡ NoSuffix
ends_suffix l ts e = no_suffix_is (suffix (front ts)) (and_parts (is_no_suffix (suffix (front ts))) _ (and_parts (not (is_some (front_string ts))) _ e).1).0

ends_weaker : (l : ℕ) (ts : List Token) → ends_operators l ts ≡ true → is_weaker l (front ts >>= binary) ≡ true
ends_weaker l ts e = (and_parts (is_no_suffix (suffix (front ts))) _ (and_parts (not (is_some (front_string ts))) _ e).1).1

weaker_down : (l : ℕ) (b : Option Binding) → is_weaker (suc l) b ≡ true → is_weaker l b ≡ true
weaker_down l None e = refl
weaker_down l (Some b) e =
    let low = leb-true (suc (suc l)) b.level e in
    le-leb (suc l) b.level (omega arith)

ends_down : (l : ℕ) (ts : List Token) → ends_operators (suc l) ts ≡ true → ends_operators l ts ≡ true
ends_down l ts e = rw (ends_string (suc l) ts e, ends_suffix (suc l) ts e, weaker_down l (front ts >>= binary) (ends_weaker (suc l) ts e)) refl

-- no operator of that level stands there
not_at : (l : ℕ) (b : Option Binding) → is_weaker l b ≡ true → (b >>= λ x. at_level l x) ≡ None
not_at l None e = refl
not_at l (Some b) e =
    let low = leb-true (suc l) b.level e in
    let other : nat_eq b.level l ≡ false = ne_eqb b.level l (λ same. omega arith) in
    rw other refl

no_binary : (l : ℕ) (o : Option Punct) → is_weaker l (o >>= binary) ≡ true → binary_at l o ≡ None
no_binary l None e = refl
no_binary l (Some p) e = not_at l (binary p) e

ends_binary : (l : ℕ) (ts : List Token) → ends_operators l ts ≡ true → binary_at l (front ts) ≡ None
ends_binary l ts e = no_binary l (front ts) (ends_weaker l ts e)

-- ---- string literals

no_strings : (t : Token) (ts : List Token) → string_of t.kind ≡ None → (strings (t ∷ ts) ≡ []) × (past_strings (t ∷ ts) ≡ t ∷ ts)
unfolding strings past_strings
no_strings t ts e = (rw e refl, rw e refl)

ended_strings : (rest : List Token) → not (is_some (front_string rest)) ≡ true → (strings rest ≡ []) × (past_strings rest ≡ rest)
unfolding strings past_strings
ended_strings [] e = (refl, refl)
ended_strings (t ∷ ts) e = no_strings t ts (no_value (string_of t.kind) (not-true (is_some (string_of t.kind)) e))

strings_read : {xs : List StrToken} {s : List Token} → Strings xs s → (rest : List Token) → not (is_some (front_string rest)) ≡ true
    → (strings (s ++ rest) ≡ xs) × (past_strings (s ++ rest) ≡ rest)
unfolding strings past_strings
strings_read (one_string x p) rest e = (ap (λ (z : List StrToken). x ∷ z) (ended_strings rest e).0, (ended_strings rest e).1)
strings_read (more_strings x p more) rest e =
    let ih = strings_read more rest e in
    (ap (λ (z : List StrToken). x ∷ z) ih.0, ih.1)

-- ---- left recursion: the reading comes to its loop with the tree in hand

pub record Comes (limit : ℕ) (f : Parse Operand) (loop : ℕ → Pos → Read Operand → Option (Read Operand)) (h : ℕ) (t : Expr) (u : Bool)
    (s rest : List Token) : Type 0 where
  pub turns : ℕ
  pub enough : limit ≤ h + turns
  pub comes : f (s ++ rest) ≡ loop turns (first_pos s) (read (operand t u) h rest)

-- one turn more
further : (below : ℕ) (f : Parse Operand) (loop : ℕ → Pos → Read Operand → Option (Read Operand)) (test : Kind → Bool)
    (h : ℕ) (t : Expr) (u : Bool) (s tail : List Token) → Begins test s → Comes (suc below) f loop h t u s tail → h ≤ below
    → (high : ℕ) (t2 : Expr) (u2 : Bool) (x rest : List Token) → x ++ rest ≡ tail → h ≤ high
    → ((n : ℕ) → loop (suc n) (first_pos s) (read (operand t u) h tail) ≡ loop n (first_pos s) (read (operand t2 u2) (suc high) rest))
    → Comes (suc below) f loop (suc high) t2 u2 (s ++ x) rest
further below f loop test h t u s tail begins c low high t2 u2 x rest flat rise step =
    let many = c.enough in
    let turn = has_turn c.turns (omega (arith, many)) in
    let same = turn.1 in
    record {
      turns = turn.0;
      enough = omega (arith, many, same);
      comes = ap f (append_assoc s x rest ∙ ap (λ (z : List Token). s ++ z) flat)
          ∙ (c.comes
          ∙ (ap (λ (z : ℕ). loop z (first_pos s) (read (operand t u) h tail)) same
          ∙ (step turn.0
          ∙ ap (λ (z : Pos). loop turn.0 z (read (operand t2 u2) (suc high) rest)) (sym (first_stays begins x)))));
    }

-- ---- steps of the reading

module _ (types : List NameId) (below : ℕ) (inner : Wanted → Parse Phrase) where
  index_step : (n : ℕ) (begin p q : Pos) (a b : Expr) (u : Bool) (h m : ℕ) (r rest : List Token) → max h m ≤ below
      → inner_expr types (suc below) inner Whole (r ++ punct sign.RightBracket q ∷ rest) ≡ Some (read (operand b u) m (punct sign.RightBracket q ∷ rest))
      → suffixes types (suc below) inner (suc n) begin (read (operand a true) h (punct sign.LeftBracket p ∷ (r ++ punct sign.RightBracket q ∷ rest)))
      ≡ suffixes types (suc below) inner n begin (read (operand (e.Index a b (record { token = p; first = begin })) true) (suc (max h m)) rest)
  unfolding suffixes suffixed indexed
  index_step n begin p q a b u h m r rest low one =
      rw (one, node_is below (operand (e.Index a b (record { token = p; first = begin })) true) (max h m) rest low) refl

  call_step : (n : ℕ) (begin p q : Pos) (a : Expr) (bs : List Expr) (h m : ℕ) (r rest : List Token) → max h m ≤ below
      → arguments types (suc below) inner (r ++ punct sign.RightParen q ∷ rest) ≡ Some (read bs m (punct sign.RightParen q ∷ rest))
      → suffixes types (suc below) inner (suc n) begin (read (operand a true) h (punct sign.LeftParen p ∷ (r ++ punct sign.RightParen q ∷ rest)))
      ≡ suffixes types (suc below) inner n begin (read (operand (e.Call a bs (record { token = p; first = begin })) true) (suc (max h m)) rest)
  unfolding suffixes suffixed calling
  call_step n begin p q a bs h m r rest low one =
      rw (one, node_is below (operand (e.Call a bs (record { token = p; first = begin })) true) (max h m) rest low) refl

  field_step : (n : ℕ) (begin p q : Pos) (o : Punct) (arrow : Bool) (w : NameId) (a : Expr) (h : ℕ) (rest : List Token) → h ≤ below
      → suffix (Some o) ≡ Fielding arrow
      → suffixes types (suc below) inner (suc n) begin (read (operand a true) h (punct o p ∷ word w q ∷ rest))
      ≡ suffixes types (suc below) inner n begin (read (operand (e.Field a w arrow (record { token = q; first = begin })) true) (suc h) rest)
  unfolding suffixes suffixed fielded
  field_step n begin p q o arrow w a h rest low one =
      rw (one, node_is below (operand (e.Field a w arrow (record { token = q; first = begin })) true) h rest low) refl

  step_step : (n : ℕ) (begin p : Pos) (o : Punct) (by : Step) (a : Expr) (h : ℕ) (rest : List Token) → h ≤ below → suffix (Some o) ≡ Stepping by
      → suffixes types (suc below) inner (suc n) begin (read (operand a true) h (punct o p ∷ rest))
      ≡ suffixes types (suc below) inner n begin (read (operand (e.PostInc by a (record { token = p; first = begin })) true) (suc h) rest)
  unfolding suffixes suffixed stepped
  step_step n begin p o by a h rest low one =
      rw (one, node_is below (operand (e.PostInc by a (record { token = p; first = begin })) true) h rest low) refl

  suffix_stop : (n : ℕ) (begin : Pos) (a : Read Operand) → suffix (front a.rest) ≡ NoSuffix → suffixes types (suc below) inner n begin a ≡ Some a
  unfolding suffixes suffixed
  suffix_stop zero begin a one = rw one refl
  suffix_stop (suc n) begin a one = rw one refl

  chain_step : (n l : ℕ) (begin p : Pos) (o : Punct) (op : BinaryOp) (a b : Expr) (u v : Bool) (h m : ℕ) (r rest : List Token) → max h m ≤ below
      → binary_at (suc l) (Some o) ≡ Some op
      → inner_expr types (suc below) inner (Operators l) (r ++ rest) ≡ Some (read (operand b v) m rest)
      → chain types (suc below) inner (suc n) l begin (read (operand a u) h (punct o p ∷ (r ++ rest)))
      ≡ chain types (suc below) inner n l begin (read (operand (e.Binary op a b (record { token = p; first = begin })) false) (suc (max h m)) rest)
  unfolding chain chained combined
  chain_step n l begin p o op a b u v h m r rest low is one =
      rw (is, one, node_is below (operand (e.Binary op a b (record { token = p; first = begin })) false) (max h m) rest low) refl

  chain_stop : (n l : ℕ) (begin : Pos) (a : Read Operand) → binary_at (suc l) (front a.rest) ≡ None → chain types (suc below) inner n l begin a ≡ Some a
  unfolding chain chained
  chain_stop zero l begin a one = rw one refl
  chain_stop (suc n) l begin a one = rw one refl

  sequence_step : (n : ℕ) (begin p : Pos) (a b : Expr) (u v : Bool) (h m : ℕ) (r rest : List Token) → max h m ≤ below
      → inner_expr types (suc below) inner Assignment (r ++ rest) ≡ Some (read (operand b v) m rest)
      → sequence types (suc below) inner (suc n) begin (read (operand a u) h (punct sign.Comma p ∷ (r ++ rest)))
      ≡ sequence types (suc below) inner n begin (read (operand (e.Comma a b (record { token = p; first = begin })) false) (suc (max h m)) rest)
  unfolding sequence sequencing sequenced
  sequence_step n begin p a b u v h m r rest low one =
      rw (one, node_is below (operand (e.Comma a b (record { token = p; first = begin })) false) (max h m) rest low) refl

  sequence_stop : (n : ℕ) (begin : Pos) (a : Read Operand) → is_comma (front a.rest) ≡ false → sequence types (suc below) inner n begin a ≡ Some a
  unfolding sequence sequencing
  sequence_stop zero begin a one = rw one refl
  sequence_stop (suc n) begin a one = rw one refl

  conditional_stop : (ts : List Token) (a : Read Operand) → operators types (suc below) inner 10 ts ≡ Some a → is_question (front a.rest)
      ≡ false → conditional types (suc below) inner ts ≡ Some a
  unfolding conditional conditioning
  conditional_stop ts a one two = rw (one, two) refl

  no_assign : (begin : Pos) (u : Bool) (a : Read Operand) → assigning types (suc below) inner begin u None a ≡ Some a
  unfolding assigning
  no_assign begin true a = refl
  no_assign begin false a = refl

  assignment_stop : (ts : List Token) (a : Read Operand) → conditional types (suc below) inner ts ≡ Some a → assign_at (front a.rest) ≡ None
      → assignment types (suc below) inner ts ≡ Some a
  unfolding assignment
  assignment_stop ts a one two = rw (one, two) (no_assign (first_pos ts) a.it.unary a)

  string_read : {xs : List StrToken} {s : List Token} → Strings xs s → (rest : List Token) → not (is_some (front_string rest)) ≡ true
      → primary types (suc below) inner (s ++ rest) ≡ Some (read (operand (e.Str xs (at (first_pos s))) true) 1 rest)
  unfolding primary primary_by
  string_read (one_string x p) rest ends =
      let is = ended_strings rest ends in
      rw (is.0, is.1) (node_is below (operand (e.Str (x ∷ []) (at p)) true) 0 rest (omega arith))
  string_read (more_strings {xs = xs} x p more) rest ends =
      let is = strings_read more rest ends in
      rw (is.0, is.1) (node_is below (operand (e.Str (x ∷ xs) (at p)) true) 0 rest (omega arith))

-- ---- operators

binary_no_suffix : (o : Punct) (b : Binding) → binary o ≡ Some b → suffix (Some o) ≡ NoSuffix
binary_no_suffix sign.LeftBracket b e = absurd cc
binary_no_suffix sign.LeftParen b e = absurd cc
binary_no_suffix sign.Dot b e = absurd cc
binary_no_suffix sign.Arrow b e = absurd cc
binary_no_suffix sign.PlusPlus b e = absurd cc
binary_no_suffix sign.MinusMinus b e = absurd cc
binary_no_suffix _ b e = refl

binary_ends : (l : ℕ) (o : Punct) (op : BinaryOp) (p : Pos) (ts : List Token) → binary o ≡ binding (suc l) op → ends_operators l (punct o p ∷ ts) ≡ true
binary_ends l o op p ts e = rw (binary_no_suffix o (record { level = suc l; op = op }) e, e) (le-leb (suc l) (suc l) (omega arith))

binary_is_at : (l : ℕ) (o : Punct) (op : BinaryOp) → binary o ≡ binding (suc l) op → binary_at (suc l) (Some o) ≡ Some op
binary_is_at l o op e = rw (e, eq-eqb (suc l) (suc l) refl) refl

step_not_unary : (o : Punct) (by : Step) → step o ≡ Some by → unary o ≡ None
step_not_unary sign.PlusPlus by e = refl
step_not_unary sign.MinusMinus by e = refl
step_not_unary _ by e = absurd cc

field_suffix : (o : Punct) (arrow : Bool) → field o ≡ Some arrow → suffix (Some o) ≡ Fielding arrow
field_suffix sign.Dot arrow e = let same : false ≡ arrow = cc in ap (λ (z : Bool). Fielding z) same
field_suffix sign.Arrow arrow e = let same : true ≡ arrow = cc in ap (λ (z : Bool). Fielding z) same
field_suffix _ arrow e = absurd cc

step_suffix : (o : Punct) (by : Step) → step o ≡ Some by → suffix (Some o) ≡ Stepping by
step_suffix sign.PlusPlus by e = let same : steps.Up ≡ by = cc in ap (λ (z : Step). Stepping z) same
step_suffix sign.MinusMinus by e = let same : steps.Down ≡ by = cc in ap (λ (z : Step). Stepping z) same
step_suffix _ by e = absurd cc

record IsAssign (o : Punct) : Type 0 where
  no_suffix : suffix (Some o) ≡ NoSuffix
  no_operator : binary o ≡ None
  no_question : is_question (Some o) ≡ false

assign_is : (o : Punct) (op : AssignOp) → assign o ≡ Some op → IsAssign o
assign_is sign.Assign op e = record { no_suffix = refl; no_operator = refl; no_question = refl }
assign_is sign.StarAssign op e = record { no_suffix = refl; no_operator = refl; no_question = refl }
assign_is sign.SlashAssign op e = record { no_suffix = refl; no_operator = refl; no_question = refl }
assign_is sign.PercentAssign op e = record { no_suffix = refl; no_operator = refl; no_question = refl }
assign_is sign.PlusAssign op e = record { no_suffix = refl; no_operator = refl; no_question = refl }
assign_is sign.MinusAssign op e = record { no_suffix = refl; no_operator = refl; no_question = refl }
assign_is sign.ShiftLeftAssign op e = record { no_suffix = refl; no_operator = refl; no_question = refl }
assign_is sign.ShiftRightAssign op e = record { no_suffix = refl; no_operator = refl; no_question = refl }
assign_is sign.AmpAssign op e = record { no_suffix = refl; no_operator = refl; no_question = refl }
assign_is sign.CaretAssign op e = record { no_suffix = refl; no_operator = refl; no_question = refl }
assign_is sign.PipeAssign op e = record { no_suffix = refl; no_operator = refl; no_question = refl }
assign_is _ op e = absurd cc

assign_ends : (l : ℕ) (o : Punct) (op : AssignOp) (p : Pos) (ts : List Token) → assign o ≡ Some op → ends_operators l (punct o p ∷ ts) ≡ true
assign_ends l o op p ts e = let is = assign_is o op e in rw (is.no_suffix, is.no_operator) refl

-- ---- how each level comes up to the next

module _ (types : List NameId) (below : ℕ) (inner : Wanted → Parse Phrase) where
  -- an operand of an assignment is so at each level up to that of assignments
  prefix_up : (l : ℕ) (ts : List Token) (a : Read Operand) → prefix types (suc below) inner ts ≡ Some a
      → (is_left_paren (front ts) && begins_type types (behind ts)) ≡ false → ((j : ℕ) → ends_operators j a.rest ≡ true)
      → operators types (suc below) inner l ts ≡ Some a
  unfolding operators casts
  prefix_up zero ts a e no_cast ends = rw (no_cast, e) refl
  prefix_up (suc l) ts a e no_cast ends =
      rw (prefix_up l ts a e no_cast ends) (chain_stop types below inner (suc below) l (first_pos ts) a (ends_binary (suc l) a.rest (ends (suc l))))

  assignment_step : (begin : Pos) (ts : List Token) (o : Punct) (op : AssignOp) (p : Pos) (a b : Expr) (v : Bool) (h m : ℕ)
      (r rest : List Token) → max h m ≤ below
      → assign o ≡ Some op → first_pos ts ≡ begin
      → conditional types (suc below) inner ts ≡ Some (read (operand a true) h (punct o p ∷ (r ++ rest)))
      → inner_expr types (suc below) inner Assignment (r ++ rest) ≡ Some (read (operand b v) m rest)
      → assignment types (suc below) inner ts ≡ Some (read (operand (e.Assign op a b (record { token = p; first = begin })) false) (suc (max h m)) rest)
  unfolding assignment assigning assigned
  assignment_step begin ts o op p a b v h m r rest low is start one two =
      rw (one, is, two, start) (node_is below (operand (e.Assign op a b (record { token = p; first = begin })) false) (max h m) rest low)

  conditional_step : (begin : Pos) (ts : List Token) (p q : Pos) (a b c : Expr) (u v w : Bool) (h m n : ℕ) (r x rest : List Token)
      → max h (max m n) ≤ below → first_pos ts ≡ begin
      → operators types (suc below) inner 10 ts ≡ Some (read (operand a u) h (punct sign.Question p ∷ (r ++ punct sign.Colon q ∷ (x ++ rest))))
      → inner_expr types (suc below) inner Whole (r ++ punct sign.Colon q ∷ (x ++ rest)) ≡ Some (read (operand b v) m (punct sign.Colon q ∷ (x ++ rest)))
      → inner_expr types (suc below) inner Choice (x ++ rest) ≡ Some (read (operand c w) n rest)
      → conditional types (suc below) inner ts ≡ Some (read (operand (e.Cond a b c (record { token = p; first = begin })) false) (suc (max h (max m n))) rest)
  unfolding conditional conditioning conditioned
  conditional_step begin ts p q a b c u v w h m n r x rest low start one two three =
      rw (one, two, three, start) (node_is below (operand (e.Cond a b c (record { token = p; first = begin })) false) (max h (max m n)) rest low)

  -- ---- what is read of a phrase of each level

  abbrev pub Reads : Level → ℕ → Expr → List Token → List Token → Type 0
  Reads Primary h t s rest = ends_expr Primary rest ≡ true → primary types (suc below) inner (s ++ rest) ≡ Some (read (operand t true) h rest)
  Reads Postfix h t s rest = ends_expr Primary rest ≡ true → Comes (suc below) (postfix types (suc below) inner)
      (suffixes types (suc below) inner) h t true s rest
  Reads Prefix h t s rest = ends_operators 0 rest ≡ true → prefix types (suc below) inner (s ++ rest) ≡ Some (read (operand t true) h rest)
  Reads Cast h t s rest = ends_operators 0 rest ≡ true → (u : Bool) × (casts types (suc below) inner (s ++ rest) ≡ Some (read (operand t u) h rest))
  Reads (Operators zero) h t s rest = ends_operators 0 rest ≡ true → (u : Bool)
      × (operators types (suc below) inner 0 (s ++ rest) ≡ Some (read (operand t u) h rest))
  Reads (Operators (suc l)) h t s rest = ends_operators l rest ≡ true
      → (u : Bool) × Comes (suc below) (operators types (suc below) inner (suc l)) (λ n begin a. chain types (suc below) inner n l begin a) h t u s rest
  Reads Choice h t s rest = ends_conditional rest ≡ true → (u : Bool) × (conditional types (suc below) inner (s ++ rest) ≡ Some (read (operand t u) h rest))
  Reads Assignment h t s rest = ends_assignment rest ≡ true → (u : Bool) × (assignment types (suc below) inner (s ++ rest) ≡ Some (read (operand t u) h rest))
  Reads Whole h t s rest = ends_assignment rest ≡ true → (u : Bool)
      × Comes (suc below) (whole types (suc below) inner) (sequence types (suc below) inner) h t u s rest

  operators_read : (l h : ℕ) (t : Expr) (s rest : List Token) → Reads (Operators l) h t s rest → ends_operators l rest ≡ true
      → (u : Bool) × (operators types (suc below) inner l (s ++ rest) ≡ Some (read (operand t u) h rest))
  operators_read zero h t s rest f ends = f ends
  operators_read (suc l) h t s rest f ends =
      let c = f (ends_down l rest ends) in
      (c.0, c.1.comes ∙ chain_stop types below inner c.1.turns l (first_pos s) (read (operand t c.0) h rest) (ends_binary (suc l) rest ends))

  -- the loops begin with what the stronger level reads
  postfix_begun : (test : Kind → Bool) (h : ℕ) (t : Expr) (s rest : List Token) → Begins test s
      → primary types (suc below) inner (s ++ rest) ≡ Some (read (operand t true) h rest)
      → Comes (suc below) (postfix types (suc below) inner) (suffixes types (suc below) inner) h t true s rest
  unfolding postfix
  postfix_begun test h t s rest begins one = record { turns = suc below; enough = omega arith; comes = rw (one, first_stays begins rest) refl }

  operators_begun : (test : Kind → Bool) (l h : ℕ) (t : Expr) (u : Bool) (s rest : List Token) → Begins test s
      → operators types (suc below) inner l (s ++ rest) ≡ Some (read (operand t u) h rest)
      → Comes (suc below) (operators types (suc below) inner (suc l)) (λ n begin a. chain types (suc below) inner n l begin a) h t u s rest
  unfolding operators
  operators_begun test l h t u s rest begins one = record { turns = suc below; enough = omega arith; comes = rw (one, first_stays begins rest) refl }

  whole_begun : (test : Kind → Bool) (h : ℕ) (t : Expr) (u : Bool) (s rest : List Token) → Begins test s
      → assignment types (suc below) inner (s ++ rest) ≡ Some (read (operand t u) h rest)
      → Comes (suc below) (whole types (suc below) inner) (sequence types (suc below) inner) h t u s rest
  unfolding whole
  whole_begun test h t u s rest begins one = record { turns = suc below; enough = omega arith; comes = rw (one, first_stays begins rest) refl }

module _ (types : List NameId) (below : ℕ) (inner : Wanted → Parse Phrase) (parts : IsInner types below inner) where
  -- ---- arguments

  args_listed : {m : ℕ} {ts : List Expr} {s : List Token} → Listed types m ts s → m ≤ below → (n : ℕ) → length s ≤ n
      → (xs : List Expr) (h : ℕ) (q : Pos) (rest : List Token)
      → commas (inner_expr types (suc below) inner Assignment) with_tree never n xs h (s ++ punct sign.RightParen q ∷ rest)
      ≡ Some (read (record { items = xs ++ ts; comma = false }) (max h m) (punct sign.RightParen q ∷ rest))
  args_listed (one_argument {h = m} {t = t} {s = s} d) low n room xs h q rest =
      let one = parts.expr Assignment m t s (punct sign.RightParen q ∷ rest) d low refl in
      let some = not_empty (expr_begins types d) in
      let turn = has_turn n (omega (arith, room, some)) in
      rw turn.1 (commas_last (inner_expr types (suc below) inner Assignment) with_tree never turn.0 xs h
      (s ++ punct sign.RightParen q ∷ rest) (operand t one.0) m (punct sign.RightParen q ∷ rest) one.1 refl)
  args_listed (more_arguments {h = m} {m = j} {t = t} {ts = ts} {s = s} {r = r} p d more) low n room xs h q rest =
      let one = parts.expr Assignment m t s (punct sign.Comma p ∷ (r ++ punct sign.RightParen q ∷ rest)) d (omega arith) refl in
      let long = length-append s (punct sign.Comma p ∷ r) in
      let turn = has_turn n (omega (arith, room, long)) in
      let same = turn.1 in
      let step = commas_more (inner_expr types (suc below) inner Assignment) with_tree never turn.0 xs h
      (s ++ punct sign.Comma p ∷ (r ++ punct sign.RightParen q ∷ rest)) (operand t one.0) m p (r ++ punct sign.RightParen q ∷ rest) one.1 refl in
      let others = args_listed more (omega arith) turn.0 (omega (arith, room, long, same)) (xs ++ t ∷ []) (max h m) q rest in
      rw (same, append_assoc s (punct sign.Comma p ∷ r) (punct sign.RightParen q ∷ rest))
      (step ∙ (others ∙ ap₂ (λ (z : List Expr) (w : ℕ). Some (read (record { items = z; comma = false }) w
      (punct sign.RightParen q ∷ rest))) (append_assoc xs (t ∷ []) ts) (omega arith)))

  listed_begins : {m : ℕ} {ts : List Expr} {s : List Token} → Listed types m ts s → Begins (opens_expr types) s
  listed_begins (one_argument d) = expr_begins types d
  listed_begins (more_arguments p d more) = longer (expr_begins types d) _

  args_read : {m : ℕ} {ts : List Expr} {s : List Token} → Arguments types m ts s → m ≤ below → (q : Pos) (rest : List Token)
      → arguments types (suc below) inner (s ++ punct sign.RightParen q ∷ rest) ≡ Some (read ts m (punct sign.RightParen q ∷ rest))
  unfolding arguments
  args_read g.no_arguments low q rest = refl
  args_read (g.arguments {h = m} {ts = ts} {s = s} d) low q rest =
      let long = length-append s (punct sign.RightParen q ∷ rest) in
      let all = args_listed d low (length (s ++ punct sign.RightParen q ∷ rest)) (omega (arith, long)) [] 0 q rest in
      let high : max 0 m ≡ m = omega arith in
      rw (no_right_paren types (longer (listed_begins d) (punct sign.RightParen q ∷ rest)), all)
      (ap (λ (w : ℕ). Some (read ts w (punct sign.RightParen q ∷ rest))) high)

  -- ---- expressions

  pub read_expr : {level : Level} {h : ℕ} {t : Expr} {s : List Token} → Spells types level h t s → h ≤ suc below → (rest : List Token)
      → Reads types below inner level h t s rest
  unfolding primary primary_by bracketed prefix prefix_by applied stepped_first size_of_type size_of sized casts cast operators
  read_expr (g.a_name w p other) low rest = λ ends. rw other (node_is below (operand (e.Name w (at p)) true) 0 rest (omega arith))
  read_expr (g.an_int i p) low rest = λ ends. node_is below (operand (e.Int i (at p)) true) 0 rest (omega arith)
  read_expr (g.a_char c p) low rest = λ ends. node_is below (operand (e.Char c (at p)) true) 0 rest (omega arith)
  read_expr (g.an_odd p) low rest = λ ends. node_is below (operand (e.Odd (at p)) true) 0 rest (omega arith)
  read_expr (g.a_string d) low rest = λ ends. string_read types below inner d rest ends
  read_expr (g.brackets {h = h} {t = t} {s = s} p q d) low rest = λ ends.
      let one = parts.expr Whole h t s (punct sign.RightParen q ∷ rest) d (omega arith) refl in
      rw (append_assoc s (punct sign.RightParen q ∷ []) rest, one.1) (node_is below (operand t true) h rest (omega arith))
  read_expr (g.a_primary {h = h} {t = t} {s = s} d) low rest = λ ends.
      postfix_begun types below inner (opens_expr types) h t s rest (expr_begins types d) (read_expr d low rest ends)
  read_expr (g.an_index {h = h} {m = m} {a = a} {b = b} {s = s} {r = r} p q d x) low rest = λ ends.
      let tail = punct sign.LeftBracket p ∷ (r ++ punct sign.RightBracket q ∷ rest) in
      let one = parts.expr Whole m b r (punct sign.RightBracket q ∷ rest) x (omega arith) refl in
      further below (postfix types (suc below) inner) (suffixes types (suc below) inner) (opens_expr types) h a true s tail
      (expr_begins types d) (read_expr d (omega arith) tail refl) (omega arith)
      (max h m) (e.Index a b (after s p)) true (punct sign.LeftBracket p ∷ (r ++ punct sign.RightBracket q ∷ [])) rest
      (ap (λ (z : List Token). punct sign.LeftBracket p ∷ z) (append_assoc r (punct sign.RightBracket q ∷ []) rest)) (omega arith)
      (λ n. index_step types below inner n (first_pos s) p q a b one.0 h m r rest (omega arith) one.1)
  read_expr (g.a_call {h = h} {m = m} {a = a} {args = bs} {s = s} {r = r} p q d x) low rest = λ ends.
      let tail = punct sign.LeftParen p ∷ (r ++ punct sign.RightParen q ∷ rest) in
      let one = args_read x (omega arith) q rest in
      further below (postfix types (suc below) inner) (suffixes types (suc below) inner) (opens_expr types) h a true s tail
      (expr_begins types d) (read_expr d (omega arith) tail refl) (omega arith)
      (max h m) (e.Call a bs (after s p)) true (punct sign.LeftParen p ∷ (r ++ punct sign.RightParen q ∷ [])) rest
      (ap (λ (z : List Token). punct sign.LeftParen p ∷ z) (append_assoc r (punct sign.RightParen q ∷ []) rest)) (omega arith)
      (λ n. call_step types below inner n (first_pos s) p q a bs h m r rest (omega arith) one)
  read_expr (g.a_field {h = h} {a = a} {s = s} o arrow w p q is d) low rest = λ ends.
      let tail = punct o p ∷ word w q ∷ rest in
      further below (postfix types (suc below) inner) (suffixes types (suc below) inner) (opens_expr types) h a true s tail
      (expr_begins types d) (read_expr d (omega arith) tail refl) (omega arith)
      h (e.Field a w arrow (after s q)) true (punct o p ∷ word w q ∷ []) rest refl (omega arith)
      (λ n. field_step types below inner n (first_pos s) p q o arrow w a h rest (omega arith) (field_suffix o arrow is))
  read_expr (g.a_step_behind {h = h} {a = a} {s = s} o by p is d) low rest = λ ends.
      let tail = punct o p ∷ rest in
      further below (postfix types (suc below) inner) (suffixes types (suc below) inner) (opens_expr types) h a true s tail
      (expr_begins types d) (read_expr d (omega arith) tail refl) (omega arith)
      h (e.PostInc by a (after s p)) true (punct o p ∷ []) rest refl (omega arith)
      (λ n. step_step types below inner n (first_pos s) p o by a h rest (omega arith) (step_suffix o by is))
  read_expr (g.a_postfix {h = h} {t = t} {s = s} d) low rest = λ ends.
      let c = read_expr d low rest (ends_string 0 rest ends) in
      let b = longer (postfix_begins types d) rest in
      rw (no_unary types b, no_step types b, no_sizeof types b)
      (c.comes ∙ suffix_stop types below inner c.turns (first_pos s) (read (operand t true) h rest) (ends_suffix 0 rest ends))
  read_expr (g.a_unary {h = h} {a = a} {s = s} o op p is d) low rest = λ ends.
      let one = parts.expr Cast h a s rest d (omega arith) ends in
      rw (is, one.1) (node_is below (operand (e.Unary op a (at p)) true) h rest (omega arith))
  read_expr (g.a_step_before {h = h} {a = a} {s = s} o by p is d) low rest = λ ends.
      let one = parts.expr Prefix h a s rest d (omega arith) ends in
      rw (step_not_unary o by is, is, one.1) (node_is below (operand (e.PreInc by a (at p)) true) h rest (omega arith))
  read_expr (g.a_size {h = h} {a = a} {s = s} p d) low rest = λ ends.
      let one = parts.expr Prefix h a s rest d (omega arith) ends in
      rw (prefix_no_cast types d rest, one.1) (node_is below (operand (e.SizeofExpr a (at p)) true) h rest (omega arith))
  read_expr (g.a_size_of_type {h = h} {t = t} {s = s} p q o d) low rest = λ ends.
      let one = head_read types below inner parts d (omega arith) (punct sign.RightParen o ∷ rest) refl refl in
      rw (append_assoc s (punct sign.RightParen o ∷ []) rest, is_a_type types (longer (head_begins types d) (punct sign.RightParen o ∷ rest)), one)
      (node_is below (operand (e.SizeofType t (at p)) true) h rest (omega arith))
  read_expr (g.a_prefix d) low rest = λ ends. (true, rw (prefix_no_cast types d rest) (read_expr d low rest ends))
  read_expr (g.a_cast {h = h} {m = m} {t = t} {a = a} {s = s} {r = r} p q d x) low rest = λ ends.
      let one = head_read types below inner parts d (omega arith) (punct sign.RightParen q ∷ (r ++ rest)) refl refl in
      let two = parts.expr Cast m a r rest x (omega arith) ends in (
        false,
        rw (
          append_assoc s (punct sign.RightParen q ∷ r) rest,
          is_a_type types (longer (head_begins types d) (punct sign.RightParen q ∷ (r ++ rest))),
          one,
          two.1,
        )
            (node_is below (operand (e.Cast t a (at p)) false) (max h m) rest (omega arith)),
      )
  read_expr (g.an_operand d) low rest = λ ends. read_expr d low rest ends
  read_expr (g.stronger {l = l} {h = h} {t = t} {s = s} d) low rest = λ ends.
      let one = operators_read types below inner l h t s rest (read_expr d low rest) ends in
      (one.0, operators_begun types below inner (opens_expr types) l h t one.0 s rest (expr_begins types d) one.1)
  read_expr (g.a_binary {l = l} {h = h} {m = m} {a = a} {b = b} {s = s} {r = r} o op p is d x) low rest = λ ends.
      let tail = punct o p ∷ (r ++ rest) in
      let c = read_expr d (omega arith) tail (binary_ends l o op p (r ++ rest) is) in
      let one = parts.expr (Operators l) m b r rest x (omega arith) ends in (
        false,
        further below (operators types (suc below) inner (suc l)) (λ n begin y. chain types (suc below) inner n l begin y)
            (opens_expr types) h a c.0 s tail (expr_begins types d) c.1 (omega arith)
            (max h m) (e.Binary op a b (after s p)) false (punct o p ∷ r) rest refl (omega arith)
            (λ n. chain_step types below inner n l (first_pos s) p o op a b c.0 one.0 h m r rest (omega arith) (binary_is_at l o op is) one.1),
      )
  read_expr (g.no_choice {h = h} {t = t} {s = s} d) low rest = λ ends.
      let both = and_parts (ends_operators 10 rest) _ ends in
      let one = operators_read types below inner 10 h t s rest (read_expr d low rest) both.0 in
      (one.0, conditional_stop types below inner (s ++ rest) (read (operand t one.0) h rest) one.1 (not-true (is_question (front rest)) both.1))
  read_expr (g.a_choice {h = h} {m = m} {n = n} {a = a} {b = b} {c = c} {s = s} {r = r} {u = x} p q d y z) low rest = λ ends.
      let tail = punct sign.Question p ∷ (r ++ punct sign.Colon q ∷ (x ++ rest)) in
      let one = operators_read types below inner 10 h a s tail (read_expr d (omega arith) tail) refl in
      let two = parts.expr Whole m b r (punct sign.Colon q ∷ (x ++ rest)) y (omega arith) refl in
      let three = parts.expr Choice n c x rest z (omega arith) ends in
      let flat : (s ++ punct sign.Question p ∷ (r ++ punct sign.Colon q ∷ x)) ++ rest ≡ s ++ tail
      = append_assoc s (punct sign.Question p ∷ (r ++ punct sign.Colon q ∷ x)) rest
      ∙ ap (λ (w : List Token). s ++ punct sign.Question p ∷ w) (append_assoc r (punct sign.Colon q ∷ x) rest) in (
        false,
        rw flat (conditional_step types below inner (first_pos s) (s ++ tail) p q a b c one.0 two.0 three.0 h m n r x rest
            (omega arith) (first_stays (expr_begins types d) tail) one.1 two.1 three.1),
      )
  read_expr (g.no_assignment {h = h} {t = t} {s = s} d) low rest = λ ends.
      let both = and_parts (ends_conditional rest) _ ends in
      let one = read_expr d low rest both.0 in (
        one.0,
        assignment_stop types below inner (s ++ rest) (read (operand t one.0) h rest) one.1
            (no_value (assign_at (front rest)) (not-true (is_some (assign_at (front rest))) both.1)),
      )
  read_expr (g.an_assignment {h = h} {m = m} {a = a} {b = b} {s = s} {r = r} o op p is d x) low rest = λ ends.
      let tail = punct o p ∷ (r ++ rest) in
      let one = read_expr d (omega arith) tail (assign_ends 0 o op p (r ++ rest) is) in
      let up = prefix_up types below inner 10 (s ++ tail) (read (operand a true) h tail) one (prefix_no_cast types d tail)
      (λ j. assign_ends j o op p (r ++ rest) is) in
      let conditioned = conditional_stop types below inner (s ++ tail) (read (operand a true) h tail) up (assign_is o op is).no_question in
      let two = parts.expr Assignment m b r rest x (omega arith) ends in (
        false,
        rw (append_assoc s (punct o p ∷ r) rest) (assignment_step types below inner (first_pos s) (s ++ tail) o op p a b two.0 h m r
            rest (omega arith) is (first_stays (expr_begins types d) tail) conditioned two.1),
      )
  read_expr (g.no_comma {h = h} {t = t} {s = s} d) low rest = λ ends.
      let one = read_expr d low rest ends in
      (one.0, whole_begun types below inner (opens_expr types) h t one.0 s rest (expr_begins types d) one.1)
  read_expr (g.a_comma {h = h} {m = m} {a = a} {b = b} {s = s} {r = r} p d x) low rest = λ ends.
      let tail = punct sign.Comma p ∷ (r ++ rest) in
      let c = read_expr d (omega arith) tail refl in
      let one = parts.expr Assignment m b r rest x (omega arith) ends in (
        false,
        further below (whole types (suc below) inner) (sequence types (suc below) inner) (opens_expr types) h a c.0 s tail
            (expr_begins types d) c.1 (omega arith)
            (max h m) (e.Comma a b (after s p)) false (punct sign.Comma p ∷ r) rest refl (omega arith)
            (λ n. sequence_step types below inner n (first_pos s) p a b c.0 one.0 h m r rest (omega arith) one.1),
      )

  -- each level by itself, where what follows does not go on with it
  pub level_read : (level : Level) (h : ℕ) (t : Expr) (s rest : List Token) → Spells types level h t s → h ≤ suc below → ends_expr level rest ≡ true
      → (u : Bool) × (Reading.at_level types (suc below) inner level (s ++ rest) ≡ Some (read (operand t u) h rest))
  unfolding Reading.at_level
  level_read Primary h t s rest d low ends = (true, read_expr d low rest ends)
  level_read Postfix h t s rest d low ends =
      let c = read_expr d low rest (ends_string 0 rest ends) in
      (true, c.comes ∙ suffix_stop types below inner c.turns (first_pos s) (read (operand t true) h rest) (ends_suffix 0 rest ends))
  level_read Prefix h t s rest d low ends = (true, read_expr d low rest ends)
  level_read Cast h t s rest d low ends = read_expr d low rest ends
  level_read (Operators l) h t s rest d low ends = operators_read types below inner l h t s rest (read_expr d low rest) ends
  level_read Choice h t s rest d low ends = read_expr d low rest ends
  level_read Assignment h t s rest d low ends = read_expr d low rest ends
  level_read Whole h t s rest d low ends =
      let both = and_parts (ends_assignment rest) _ ends in
      let c = read_expr d low rest both.0 in
      (c.0, c.1.comes ∙ sequence_stop types below inner c.1.turns (first_pos s) (read (operand t c.0) h rest) (not-true (is_comma (front rest)) both.1))
