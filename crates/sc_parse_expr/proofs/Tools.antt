-- What it means that a step of reading gave something, and what stands at the front of tokens then.
use Rattle.std.proofs.Common.{◌≡◌, ℕ, suc, ◌≤◌, Bool, true, false, List, [], ◌∷◌, ◌++◌, Option, Some, None, ◌⊎◌, inl, inr, refl, sym, ap}
use Rattle.std.proofs.Common.{subst, ◌∙◌, append_assoc, arith}
use Rattle.std.specs.Prelude.{nat_lt, nat_eq, if◌then◌else◌}
use Rattle.std.proofs.lemmas.Bool.{ltb-true, eqb-true}
use Rattle.sc_base.specs.declared.pos.NameId.{NameId}
use Rattle.sc_tree.specs.declared.token.Token.{Token}
use Rattle.sc_tree.specs.declared.token.Kind.{Kind}
use Rattle.sc_tree.specs.declared.token.Kind.TheVariants as k
use Rattle.sc_tree.specs.declared.token.Punct.{Punct}
use Rattle.sc_tree.specs.declared.token.Punct.TheVariants as sign
use Rattle.sc_tree.specs.declared.token.Reserved.{Reserved}
use Rattle.sc_tree.specs.declared.token.Reserved.TheVariants as key
use Rattle.sc_tree.specs.declared.op.BinaryOp.{BinaryOp}
use Rattle.sc_tree.specs.declared.op.UnaryOp.{UnaryOp}
use Rattle.sc_tree.specs.declared.op.AssignOp.{AssignOp}
use Rattle.sc_tree.specs.declared.op.Step.{Step}
use Rattle.sc_tree.specs.Tables.{◌>>=◌}
use Rattle.sc_tree.specs.Tokens.{token, word, punct, reserved, first_pos}
use Rattle.sc_tree.specs.Operators.{Binding, binding, binary, unary, step, assign, field}
use Rattle.sc_parse_front.specs.Front.{punct_of, word_of, reserved_of, front, front_word, front_reserved, behind, is_left_paren}
use Rattle.sc_parse_front.specs.Front.{is_right_paren, is_left_bracket, is_right_bracket, is_left_brace, is_right_brace, is_comma, is_colon}
use Rattle.sc_parse_front.specs.Front.{is_question, is_semicolon, is_star, is_equals, is_ellipsis, is_void_key, is_sizeof, is_enum}
use Rattle.sc_parse_front.specs.Front.{at_level, binary_at, unary_at, step_at, assign_at, Indexing, Calling, Fielding, Stepping, suffix}
use Rattle.sc_parse_expr.specs.Read.{Read, read, node, taking}

-- ---- steps

-- the value of a step that gave one
pub record Bound {A B : Type 0} (o : Option A) (f : A → Option B) (y : B) : Type 0 where
  pub value : A
  pub is : o ≡ Some value
  pub gives : f value ≡ Some y

pub bind_some : {A B : Type 0} (o : Option A) (f : A → Option B) (y : B) → (o >>= f) ≡ Some y → Bound o f y
bind_some (Some x) f y e = record { value = x; is = refl; gives = e }
bind_some None f y e = absurd cc

pub some_is : {A : Type 0} (x y : A) → Some x ≡ Some y → x ≡ y
some_is x y e = cc

-- which side of a test was taken
pub if_is : {A : Type 0} (b : Bool) (x y z : A) → (if b then x else y) ≡ z → ((b ≡ true) × (x ≡ z)) ⊎ ((b ≡ false) × (y ≡ z))
if_is true x y z e = inl (refl, e)
if_is false x y z e = inr (refl, e)

-- a test that did not fail
pub test_is : {A : Type 0} (b : Bool) (o : Option A) (z : A) → (if b then o else None) ≡ Some z → (b ≡ true) × (o ≡ Some z)
test_is true o z e = (refl, e)
test_is false o z e = absurd cc

-- what holds of each value that stands in `Some x` holds of the one that was given
pub given : {A : Type 0} (P : A → Type 0) (x y : A) → Some x ≡ Some y → P x → P y
given P x y e p = subst P (some_is x y e) p

below_is : (a b : ℕ) → nat_lt a b ≡ true → suc a ≤ b
below_is a b e = let l = ltb-true a b e in omega arith

-- a node that was made
pub node_is : {A : Type 0} (P : Read A → Type 0) (limit : ℕ) (x : A) (below : ℕ) (ts : List Token) (r : Read A) → node limit x below ts ≡ Some r
    → (suc below ≤ limit → P (read x (suc below) ts)) → P r
node_is P limit x below ts r e p = let t = test_is (nat_lt below limit) (Some (read x (suc below) ts)) r e in
    given P _ r t.1 (p (below_is below limit t.0))

-- ---- cuts of a list of tokens

-- the tokens are these, and then those that are left
pub record Splits (ts span rest : List Token) : Type 0 where
  pub is : ts ≡ span ++ rest

pub none : (ts : List Token) → Splits ts [] ts
none ts = record { is = refl }

pub glue : {ts s us r vs : List Token} → Splits ts s us → Splits us r vs → Splits ts (s ++ r) vs
glue {s = s} {r = r} {vs = vs} a b = record { is = a.is ∙ ap (λ (x : List Token). s ++ x) b.is ∙ sym (append_assoc s r vs) }

-- one token
abbrev pub One : List Token → Token → List Token → Type 0
One ts t rest = Splits ts (t ∷ []) rest

-- ---- the token at the front

punct_kind : (x : Kind) (p : Punct) → punct_of x ≡ Some p → x ≡ k.Punct p
punct_kind (k.Punct q) p e = ap (λ (o : Punct). k.Punct o) (some_is q p e)
punct_kind _ p e = absurd cc

word_kind : (x : Kind) (w : NameId) → word_of x ≡ Some w → x ≡ k.Word w
word_kind (k.Word v) w e = ap (λ (o : NameId). k.Word o) (some_is v w e)
word_kind _ w e = absurd cc

reserved_kind : (x : Kind) (w : Reserved) → reserved_of x ≡ Some w → x ≡ k.Reserved w
reserved_kind (k.Reserved v) w e = ap (λ (o : Reserved). k.Reserved o) (some_is v w e)
reserved_kind _ w e = absurd cc

one : (t : Token) (ts : List Token) (x : Kind) → t.kind ≡ x → One (t ∷ ts) (token x t.pos) ts
one t ts x e = record { is = ap (λ (y : Kind). token y t.pos ∷ ts) e }

pub front_is : (ts : List Token) (p : Punct) → front ts ≡ Some p → One ts (punct p (first_pos ts)) (behind ts)
front_is [] p e = absurd cc
front_is (t ∷ ts) p e = one t ts (k.Punct p) (punct_kind t.kind p e)

pub front_word_is : (ts : List Token) (w : NameId) → front_word ts ≡ Some w → One ts (word w (first_pos ts)) (behind ts)
front_word_is [] w e = absurd cc
front_word_is (t ∷ ts) w e = one t ts (k.Word w) (word_kind t.kind w e)

pub front_reserved_is : (ts : List Token) (w : Reserved) → front_reserved ts ≡ Some w → One ts (reserved w (first_pos ts)) (behind ts)
front_reserved_is [] w e = absurd cc
front_reserved_is (t ∷ ts) w e = one t ts (k.Reserved w) (reserved_kind t.kind w e)

pub left_paren : (o : Option Punct) → is_left_paren o ≡ true → o ≡ Some sign.LeftParen
left_paren (Some sign.LeftParen) e = refl
left_paren _ e = absurd cc

pub right_paren : (o : Option Punct) → is_right_paren o ≡ true → o ≡ Some sign.RightParen
right_paren (Some sign.RightParen) e = refl
right_paren _ e = absurd cc

pub left_bracket : (o : Option Punct) → is_left_bracket o ≡ true → o ≡ Some sign.LeftBracket
left_bracket (Some sign.LeftBracket) e = refl
left_bracket _ e = absurd cc

pub right_bracket : (o : Option Punct) → is_right_bracket o ≡ true → o ≡ Some sign.RightBracket
right_bracket (Some sign.RightBracket) e = refl
right_bracket _ e = absurd cc

pub left_brace : (o : Option Punct) → is_left_brace o ≡ true → o ≡ Some sign.LeftBrace
left_brace (Some sign.LeftBrace) e = refl
left_brace _ e = absurd cc

pub right_brace : (o : Option Punct) → is_right_brace o ≡ true → o ≡ Some sign.RightBrace
right_brace (Some sign.RightBrace) e = refl
right_brace _ e = absurd cc

pub comma : (o : Option Punct) → is_comma o ≡ true → o ≡ Some sign.Comma
comma (Some sign.Comma) e = refl
comma _ e = absurd cc

pub colon : (o : Option Punct) → is_colon o ≡ true → o ≡ Some sign.Colon
colon (Some sign.Colon) e = refl
colon _ e = absurd cc

pub question : (o : Option Punct) → is_question o ≡ true → o ≡ Some sign.Question
question (Some sign.Question) e = refl
question _ e = absurd cc

pub semicolon : (o : Option Punct) → is_semicolon o ≡ true → o ≡ Some sign.Semicolon
semicolon (Some sign.Semicolon) e = refl
semicolon _ e = absurd cc

pub star : (o : Option Punct) → is_star o ≡ true → o ≡ Some sign.Star
star (Some sign.Star) e = refl
star _ e = absurd cc

pub equals : (o : Option Punct) → is_equals o ≡ true → o ≡ Some sign.Assign
equals (Some sign.Assign) e = refl
equals _ e = absurd cc

pub ellipsis : (o : Option Punct) → is_ellipsis o ≡ true → o ≡ Some sign.Ellipsis
ellipsis (Some sign.Ellipsis) e = refl
ellipsis _ e = absurd cc

pub void_key : (o : Option Reserved) → is_void_key o ≡ true → o ≡ Some key.Void
void_key (Some key.Void) e = refl
void_key _ e = absurd cc

pub sizeof : (o : Option Reserved) → is_sizeof o ≡ true → o ≡ Some key.Sizeof
sizeof (Some key.Sizeof) e = refl
sizeof _ e = absurd cc

pub enum : (o : Option Reserved) → is_enum o ≡ true → o ≡ Some key.Enum
enum (Some key.Enum) e = refl
enum _ e = absurd cc

-- the tokens behind a punctuator that was taken
pub taken : (test : Option Punct → Bool) (p : Punct) → ((o : Option Punct) → test o ≡ true → o ≡ Some p) → (ts rest : List Token) → taking test ts ≡ Some rest
    → One ts (punct p (first_pos ts)) rest
taken test p is ts rest e = let t = test_is (test (front ts)) (Some (behind ts)) rest e in
    given (λ (us : List Token). One ts (punct p (first_pos ts)) us) (behind ts) rest t.1 (front_is ts p (is (front ts) t.0))

-- ---- operators at the front

pub record IsOperator {A : Type 0} (table : Punct → Option A) (ts : List Token) (x : A) : Type 0 where
  pub sign : Punct
  pub row : table sign ≡ Some x
  pub there : One ts (punct sign (first_pos ts)) (behind ts)

operator_is : {A : Type 0} (table : Punct → Option A) (ts : List Token) (x : A) → (front ts >>= table) ≡ Some x → IsOperator table ts x
operator_is table ts x e = let b = bind_some (front ts) table x e in
    record { sign = b.value; row = b.gives; there = front_is ts b.value b.is }

pub unary_is : (ts : List Token) (x : UnaryOp) → unary_at (front ts) ≡ Some x → IsOperator unary ts x
unary_is ts x e = operator_is unary ts x e

pub step_is : (ts : List Token) (x : Step) → step_at (front ts) ≡ Some x → IsOperator step ts x
step_is ts x e = operator_is step ts x e

pub assign_is : (ts : List Token) (x : AssignOp) → assign_at (front ts) ≡ Some x → IsOperator assign ts x
assign_is ts x e = operator_is assign ts x e

levelled : (l : ℕ) (o : Option Binding) (x : BinaryOp) → (o >>= at_level l) ≡ Some x → o ≡ binding l x
levelled l None x e = absurd cc
levelled l (Some b) x e = let t = test_is (nat_eq b.level l) (Some b.op) x e in
    let same : b.level ≡ l = eqb-true b.level l t.0 in
    let op : b.op ≡ x = some_is b.op x t.1 in
    ap (λ (n : ℕ). Some (record b { level = n })) same ∙ ap (λ (y : BinaryOp). binding l y) op

pub binary_is : (l : ℕ) (ts : List Token) (x : BinaryOp) → binary_at l (front ts) ≡ Some x → IsOperator binary ts (record { level = l; op = x })
binary_is l ts x e = let b = bind_some (front ts) (λ p. binary p >>= at_level l) x e in
    record { sign = b.value; row = levelled l (binary b.value) x b.gives; there = front_is ts b.value b.is }

-- ---- what stands behind an operand

indexing : (o : Option Punct) → suffix o ≡ Indexing → o ≡ Some sign.LeftBracket
indexing (Some sign.LeftBracket) e = refl
indexing _ e = absurd cc

calling : (o : Option Punct) → suffix o ≡ Calling → o ≡ Some sign.LeftParen
calling (Some sign.LeftParen) e = refl
calling _ e = absurd cc

fielding : (o : Option Punct) (arrow : Bool) → suffix o ≡ Fielding arrow → (o >>= field) ≡ Some arrow
fielding (Some sign.Dot) arrow e = cc
fielding (Some sign.Arrow) arrow e = cc
fielding _ arrow e = absurd cc

stepping : (o : Option Punct) (by : Step) → suffix o ≡ Stepping by → (o >>= step) ≡ Some by
stepping (Some sign.PlusPlus) by e = cc
stepping (Some sign.MinusMinus) by e = cc
stepping _ by e = absurd cc

pub index_there : (ts : List Token) → suffix (front ts) ≡ Indexing → One ts (punct sign.LeftBracket (first_pos ts)) (behind ts)
index_there ts e = front_is ts sign.LeftBracket (indexing (front ts) e)

pub call_there : (ts : List Token) → suffix (front ts) ≡ Calling → One ts (punct sign.LeftParen (first_pos ts)) (behind ts)
call_there ts e = front_is ts sign.LeftParen (calling (front ts) e)

pub field_there : (ts : List Token) (arrow : Bool) → suffix (front ts) ≡ Fielding arrow → IsOperator field ts arrow
field_there ts arrow e = operator_is field ts arrow (fielding (front ts) arrow e)

pub step_there : (ts : List Token) (by : Step) → suffix (front ts) ≡ Stepping by → IsOperator step ts by
step_there ts by e = operator_is step ts by (stepping (front ts) by e)
