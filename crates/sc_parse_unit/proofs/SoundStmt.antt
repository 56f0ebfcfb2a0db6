-- Statements: what is read is spelled.
use Rattle.std.proofs.Common.{◌≡◌, ℕ, zero, suc, ◌≤◌, max, Bool, true, false, List, [], ◌∷◌, ◌++◌, length, Option, Some, None, refl, sym}
use Rattle.std.proofs.Common.{ap, subst, ◌∙◌, arith, ⊎_elim}
use Rattle.std.specs.Prelude.{not, ◌&&◌}
use Rattle.sc_base.specs.declared.pos.Pos.{Pos}
use Rattle.sc_base.specs.declared.pos.NameId.{NameId}
use Rattle.sc_tree.specs.declared.token.Token.{Token}
use Rattle.sc_tree.specs.declared.token.Punct.{Punct}
use Rattle.sc_tree.specs.declared.token.Punct.TheVariants as sign
use Rattle.sc_tree.specs.declared.token.Reserved.{Reserved}
use Rattle.sc_tree.specs.declared.token.Reserved.TheVariants as key
use Rattle.sc_tree.specs.declared.expr.Expr.{Expr}
use Rattle.sc_tree.specs.declared.decl.Decl.{Decl}
use Rattle.sc_tree.specs.declared.stmt.Stmt.{Stmt}
use Rattle.sc_tree.specs.declared.stmt.Stmt.TheVariants as stmt
use Rattle.sc_tree.specs.declared.stmt.ForStart.{ForStart}
use Rattle.sc_tree.specs.declared.stmt.ForStart.TheVariants as first
use Rattle.sc_tree.specs.declared.grammar.Level.TheVariants.{Choice, Whole}
use Rattle.sc_tree.specs.Tables.{◌>>=◌}
use Rattle.sc_tree.specs.Tokens.{word, punct, reserved, first_pos}
use Rattle.sc_tree.specs.Grammar.{Spells}
use Rattle.sc_tree.specs.Statements as g
use Rattle.sc_tree.specs.Statements.{ADeclaration, for_head, AtMost, left_out, there, Starts, with_nothing, with_expr, with_declaration}
use Rattle.sc_tree.specs.Statements.{States, AnItem, a_statement, a_declared, a_case, a_default}
use Rattle.sc_parse_front.specs.Front.{front, front_word, front_reserved, behind, is_left_paren, is_right_paren, is_left_brace}
use Rattle.sc_parse_front.specs.Front.{is_right_brace, is_colon, is_semicolon, begins_type}
use Rattle.sc_parse_expr.specs.Read.{Read, read, Parse, node, taking}
use Rattle.sc_parse_expr.specs.Reading.Parse.{expr_at}
use Rattle.sc_parse_expr.specs.Laws as lower
use Rattle.sc_parse_expr.proofs.Tools.{bind_some, if_is, test_is, given, node_is, Splits, none, glue, One, front_is, front_word_is}
use Rattle.sc_parse_expr.proofs.Tools.{front_reserved_is, left_paren, right_paren, left_brace, right_brace, colon, semicolon, taken}
use Rattle.sc_parse_expr.proofs.SoundLists.{Item, Row, empty, next}
use Rattle.sc_parse_expr.proofs.Begins.{first_stays, longer, expr_begins}
use Rattle.sc_parse_unit.specs.Reading as u
use Rattle.sc_parse_unit.specs.Reading.{is_while, is_else, taking_word, body_declaration, Keyword, AnIf, AWhile, ADo, AFor, ASwitch, AGoto}
use Rattle.sc_parse_unit.specs.Reading.{ABreak, AContinue, AReturn, NoKeyword, keyword, Marker, ACase, ADefault, NoMarker, marker, label_at}
use Rattle.sc_parse_unit.specs.Reading.{is_label, statement}
use Rattle.sc_parse_unit.specs.Laws.{TakesDecl, TakesStmt}
use Rattle.sc_parse_unit.proofs.Rows.{rows_took}
use Rattle.sc_parse_unit.proofs.SoundDecl.{cut_begins, declaration_begins}

-- ---- reserved words at the front

while_key : (o : Option Reserved) → is_while o ≡ true → o ≡ Some key.While
while_key (Some key.While) e = refl
while_key _ e = absurd cc

else_key : (o : Option Reserved) → is_else o ≡ true → o ≡ Some key.Else
else_key (Some key.Else) e = refl
else_key _ e = absurd cc

if_key : (o : Option Reserved) → keyword o ≡ AnIf → o ≡ Some key.If
if_key (Some key.If) e = refl
if_key _ e = absurd cc

loop_key : (o : Option Reserved) → keyword o ≡ AWhile → o ≡ Some key.While
loop_key (Some key.While) e = refl
loop_key _ e = absurd cc

do_key : (o : Option Reserved) → keyword o ≡ ADo → o ≡ Some key.Do
do_key (Some key.Do) e = refl
do_key _ e = absurd cc

for_key : (o : Option Reserved) → keyword o ≡ AFor → o ≡ Some key.For
for_key (Some key.For) e = refl
for_key _ e = absurd cc

switch_key : (o : Option Reserved) → keyword o ≡ ASwitch → o ≡ Some key.Switch
switch_key (Some key.Switch) e = refl
switch_key _ e = absurd cc

goto_key : (o : Option Reserved) → keyword o ≡ AGoto → o ≡ Some key.Goto
goto_key (Some key.Goto) e = refl
goto_key _ e = absurd cc

break_key : (o : Option Reserved) → keyword o ≡ ABreak → o ≡ Some key.Break
break_key (Some key.Break) e = refl
break_key _ e = absurd cc

continue_key : (o : Option Reserved) → keyword o ≡ AContinue → o ≡ Some key.Continue
continue_key (Some key.Continue) e = refl
continue_key _ e = absurd cc

return_key : (o : Option Reserved) → keyword o ≡ AReturn → o ≡ Some key.Return
return_key (Some key.Return) e = refl
return_key _ e = absurd cc

case_key : (o : Option Reserved) → marker o ≡ ACase → o ≡ Some key.Case
case_key (Some key.Case) e = refl
case_key _ e = absurd cc

default_key : (o : Option Reserved) → marker o ≡ ADefault → o ≡ Some key.Default
default_key (Some key.Default) e = refl
default_key _ e = absurd cc

taken_while : (ts rest : List Token) → taking_word is_while ts ≡ Some rest → One ts (reserved key.While (first_pos ts)) rest
taken_while ts rest e = let t = test_is (is_while (front_reserved ts)) (Some (behind ts)) rest e in
    given (λ (us : List Token). One ts (reserved key.While (first_pos ts)) us) (behind ts) rest t.1
    (front_reserved_is ts key.While (while_key (front_reserved ts) t.0))

-- a statement before an `else` takes none
not_open : (b e : Bool) → (b ≡ true → e ≡ false) → e ≡ true → b ≡ false
not_open true e closed follows = let c = closed refl in absurd cc
not_open false e closed follows = refl

-- ---- the parts of statements

-- What an expression in round brackets took.
record TookCondition (types : List NameId) (limit : ℕ) (ts : List Token) (c : Read Expr) : Type 0 where
  inside : List Token
  span : List Token
  after : List Token
  end : Pos
  opens : One ts (punct sign.LeftParen (first_pos ts)) inside
  split : Splits inside span after
  closes : One after (punct sign.RightParen end) c.rest
  spelled : Spells types Whole c.height c.it span
  low : c.height ≤ limit

record TookStart (types : List NameId) (limit : ℕ) (ts : List Token) (f : Read ForStart) : Type 0 where
  span : List Token
  split : Splits ts span f.rest
  spelled : Starts types f.height f.it span
  low : f.height ≤ limit

record TookAtMost (types : List NameId) (limit : ℕ) (ts : List Token) (a : Read (Option Expr)) : Type 0 where
  span : List Token
  split : Splits ts span a.rest
  spelled : AtMost types a.height a.it span
  low : a.height ≤ limit

module _ (types : List NameId) (below : ℕ) (inner : Parse Stmt) (exprs : lower.IsSound types below)
    (decls : (ts : List Token) (x : Read Decl) → body_declaration types below ts ≡ Some x → TakesDecl types below ts x)
    (parts : (ts : List Token) (x : Read Stmt) → inner ts ≡ Some x → TakesStmt types below ts x) where
  -- a node that was made over what was taken
  made : (b : Bool) (ts : List Token) (t : Stmt) (h : ℕ) (rest : List Token) (x : Read Stmt) → node (suc below) t h rest ≡ Some x
      → {s : List Token} → Splits ts s rest → States types b (suc h) t s
      → (b ≡ true → is_else (front_reserved rest) ≡ false) → TakesStmt types (suc below) ts x
  made b ts t h rest x is split spelled closed = node_is (λ (y : Read Stmt). TakesStmt types (suc below) ts y) (suc below) t h rest x is
      (λ low. record { span = _; split = split.is; is_open = b; spelled = spelled; closed = closed; low = low })

  -- one that no `else` goes on with
  made_whole : (ts : List Token) (t : Stmt) (h : ℕ) (rest : List Token) (x : Read Stmt) → node (suc below) t h rest ≡ Some x
      → {s : List Token} → Splits ts s rest → States types false (suc h) t s
      → TakesStmt types (suc below) ts x
  made_whole ts t h rest x is split spelled = made false ts t h rest x is split spelled (λ bad. absurd cc)

  condition_took : (ts : List Token) (c : Read Expr) → u.condition types below inner ts ≡ Some c → TookCondition types below ts c
  unfolding u.condition
  condition_took ts c is =
      let o = bind_some (taking is_left_paren ts) _ c is in
      let a = bind_some (expr_at types below Whole o.value) _ c o.gives in
      let q = bind_some (taking is_right_paren a.value.rest) _ c a.gives in
      let w = exprs.expr Whole o.value a.value a.is in
      given (λ (y : Read Expr). TookCondition types below ts y) (read a.value.it.tree a.value.height q.value) c q.gives
      (record {
        inside = o.value;
        span = w.span;
        after = a.value.rest;
        end = first_pos a.value.rest;
        opens = taken is_left_paren sign.LeftParen left_paren ts o.value o.is;
        split = record { is = w.split };
        closes = taken is_right_paren sign.RightParen right_paren a.value.rest q.value q.is;
        spelled = w.spelled;
        low = w.low;
      })

  at_most_took : (ends : Option Punct → Bool) (ts : List Token) (a : Read (Option Expr)) → u.at_most types below inner ends ts ≡ Some a
      → TookAtMost types below ts a
  unfolding u.at_most
  at_most_took ends ts a is = ⊎_elim
      (λ t. given (λ (y : Read (Option Expr)). TookAtMost types below ts y) (read None 0 ts) a t.1
      (record { span = []; split = none ts; spelled = left_out; low = omega arith }))
      (λ t. let e = bind_some (expr_at types below Whole ts) _ a t.1 in
      let w = exprs.expr Whole ts e.value e.is in
      given (λ (y : Read (Option Expr)). TookAtMost types below ts y) (read (Some e.value.it.tree) e.value.height e.value.rest) a e.gives
      (record { span = w.span; split = record { is = w.split }; spelled = there w.spelled; low = w.low }))
      (if_is (ends (front ts)) _ _ (Some a) is)

  -- ---- conditions and loops

  if_else_took : (ts : List Token) (c : Read Expr) (y : Read Stmt) → One ts (reserved key.If (first_pos ts)) (behind ts)
      → TookCondition types below (behind ts) c → TakesStmt types below c.rest y
      → is_else (front_reserved y.rest) ≡ true → (x : Read Stmt) → u.if_else types below inner (first_pos ts) c y ≡ Some x → TakesStmt types (suc below) ts x
  unfolding u.if_else
  if_else_took ts c y k d w follows x is =
      let z = bind_some (inner (behind y.rest)) _ x is in
      let v = parts (behind y.rest) z.value z.is in
      let other = front_reserved_is y.rest key.Else (else_key (front_reserved y.rest) follows) in
      let first : States types false y.height y.it w.span = subst (λ (b : Bool). States types b y.height y.it w.span)
      (not_open w.is_open _ w.closed follows) w.spelled in
      made v.is_open ts (stmt.If c.it y.it (Some z.value.it) (first_pos ts)) (max c.height (max y.height z.value.height)) z.value.rest x z.gives
      (glue k (glue d.opens (glue d.split (glue d.closes (glue (record { is = w.split }) (glue other (record { is = v.split })))))))
      (g.an_if_else (first_pos ts) (first_pos (behind ts)) d.end (first_pos y.rest) d.spelled first v.spelled) v.closed

  if_rest_took : (ts : List Token) (c : Read Expr) (y : Read Stmt) → One ts (reserved key.If (first_pos ts)) (behind ts)
      → TookCondition types below (behind ts) c → TakesStmt types below c.rest y
      → (x : Read Stmt) → u.if_rest types below inner (first_pos ts) c y ≡ Some x → TakesStmt types (suc below) ts x
  unfolding u.if_rest
  if_rest_took ts c y k d w x is = ⊎_elim
      (λ t. if_else_took ts c y k d w t.0 x t.1)
      (λ t. made true ts (stmt.If c.it y.it None (first_pos ts)) (max c.height y.height) y.rest x t.1
      (glue k (glue d.opens (glue d.split (glue d.closes (record { is = w.split })))))
      (g.an_if (first_pos ts) (first_pos (behind ts)) d.end d.spelled w.spelled) (λ b. t.0))
      (if_is (is_else (front_reserved y.rest)) _ _ (Some x) is)

  if_took : (ts : List Token) (x : Read Stmt) → One ts (reserved key.If (first_pos ts)) (behind ts)
      → u.an_if types below inner (first_pos ts) (behind ts) ≡ Some x → TakesStmt types (suc below) ts x
  unfolding u.an_if
  if_took ts x k is =
      let c = bind_some (u.condition types below inner (behind ts)) _ x is in
      let y = bind_some (inner c.value.rest) _ x c.gives in
      if_rest_took ts c.value y.value k (condition_took (behind ts) c.value c.is) (parts c.value.rest y.value y.is) x y.gives

  while_took : (ts : List Token) (x : Read Stmt) → One ts (reserved key.While (first_pos ts)) (behind ts)
      → u.a_while types below inner (first_pos ts) (behind ts) ≡ Some x → TakesStmt types (suc below) ts x
  unfolding u.a_while
  while_took ts x k is =
      let c = bind_some (u.condition types below inner (behind ts)) _ x is in
      let y = bind_some (inner c.value.rest) _ x c.gives in
      let d = condition_took (behind ts) c.value c.is in
      let w = parts c.value.rest y.value y.is in
      made w.is_open ts (stmt.While c.value.it y.value.it (first_pos ts)) (max c.value.height y.value.height) y.value.rest x y.gives
      (glue k (glue d.opens (glue d.split (glue d.closes (record { is = w.split })))))
      (g.a_while (first_pos ts) (first_pos (behind ts)) d.end d.spelled w.spelled) w.closed

  do_end_took : (ts us : List Token) (y : Read Stmt) (c : Read Expr) → One ts (reserved key.Do (first_pos ts)) (behind ts) → TakesStmt types below (behind ts) y
      → One y.rest (reserved key.While (first_pos y.rest)) us → TookCondition types below us c → (x : Read Stmt)
      → (taking is_semicolon c.rest >>= λ more. node (suc below) (stmt.Do y.it c.it (first_pos ts)) (max y.height c.height) more) ≡ Some x
      → TakesStmt types (suc below) ts x
  do_end_took ts us y c k w loop d x is =
      let e = bind_some (taking is_semicolon c.rest) _ x is in
      let end = taken is_semicolon sign.Semicolon semicolon c.rest e.value e.is in
      made_whole ts (stmt.Do y.it c.it (first_pos ts)) (max y.height c.height) e.value x e.gives
      (glue k (glue (record { is = w.split }) (glue loop (glue d.opens (glue d.split (glue d.closes end))))))
      (g.a_do (first_pos ts) (first_pos y.rest) (first_pos us) d.end (first_pos c.rest) w.spelled d.spelled)

  do_took : (ts : List Token) (x : Read Stmt) → One ts (reserved key.Do (first_pos ts)) (behind ts)
      → u.a_do types below inner (first_pos ts) (behind ts) ≡ Some x → TakesStmt types (suc below) ts x
  unfolding u.a_do u.do_rest u.do_test
  do_took ts x k is =
      let y = bind_some (inner (behind ts)) _ x is in
      let c = bind_some (u.do_test types below inner y.value.rest) _ x y.gives in
      let l = bind_some (taking_word is_while y.value.rest) _ c.value c.is in
      do_end_took ts l.value y.value c.value k (parts (behind ts) y.value y.is) (taken_while y.value.rest l.value l.is)
      (condition_took l.value c.value l.gives) x c.gives

  for_expr_took : (ts : List Token) (f : Read ForStart) → u.for_expr types below inner ts ≡ Some f → TookStart types below ts f
  unfolding u.for_expr
  for_expr_took ts f is =
      let a = bind_some (expr_at types below Whole ts) _ f is in
      let e = bind_some (taking is_semicolon a.value.rest) _ f a.gives in
      let w = exprs.expr Whole ts a.value a.is in
      given (λ (y : Read ForStart). TookStart types below ts y) (read (first.Expr a.value.it.tree) a.value.height e.value) f e.gives
      (record {
        span = _;
        split = glue (record { is = w.split }) (taken is_semicolon sign.Semicolon semicolon a.value.rest e.value e.is);
        spelled = with_expr (first_pos a.value.rest) w.spelled;
        low = w.low;
      })

  -- a declaration begins where its tokens do
  from : {ts : List Token} {t : Read Decl} → (w : TakesDecl types below ts t) → first_pos w.span ≡ first_pos ts
  from {t = t} w = sym (ap first_pos w.split ∙ declaration_begins types t.height t.it w.span w.spelled t.rest)

  for_local_took : (ts : List Token) (f : Read ForStart) → u.for_local types below inner ts ≡ Some f → TookStart types below ts f
  unfolding u.for_local
  for_local_took ts f is =
      let t = bind_some (body_declaration types below ts) _ f is in
      let w = decls ts t.value t.is in
      node_is (λ (y : Read ForStart). TookStart types below ts y) below (first.Decl t.value.it (first_pos ts)) t.value.height t.value.rest f t.gives
      (λ low. record {
        span = w.span;
        split = record { is = w.split };
        spelled = subst (λ (p : Pos). Starts types (suc t.value.height) (first.Decl t.value.it p) w.span) (from w) (with_declaration w.spelled);
        low = low;
      })

  for_start_took : (ts : List Token) (f : Read ForStart) → u.for_start types below inner ts ≡ Some f → TookStart types below ts f
  unfolding u.for_start
  for_start_took ts f is = ⊎_elim
      (λ t. given (λ (y : Read ForStart). TookStart types below ts y) (read first.Nothing 0 (behind ts)) f t.1
      (record { span = _; split = front_is ts sign.Semicolon (semicolon (front ts) t.0); spelled = with_nothing (first_pos ts); low = omega arith }))
      (λ t. ⊎_elim (λ v. for_local_took ts f v.1) (λ v. for_expr_took ts f v.1) (if_is (begins_type types ts) _ _ (Some f) t.1))
      (if_is (is_semicolon (front ts)) _ _ (Some f) is)

  for_end_took : (ts us vs : List Token) (f : Read ForStart) (c e : Read (Option Expr))
      → One ts (reserved key.For (first_pos ts)) (behind ts) → One (behind ts) (punct sign.LeftParen (first_pos (behind ts))) us
      → TookStart types below us f → TookAtMost types below f.rest c → One c.rest (punct sign.Semicolon (first_pos c.rest)) vs
      → TookAtMost types below vs e → (x : Read Stmt)
      → (taking is_right_paren e.rest >>= λ closed. inner closed >>= λ y.
      node (suc below) (stmt.For (for_head f.it c.it e.it) y.it (first_pos ts)) (max f.height (max c.height (max e.height y.height)))
      y.rest) ≡ Some x
      → TakesStmt types (suc below) ts x
  for_end_took ts us vs f c e k opens s a middle b x is =
      let q = bind_some (taking is_right_paren e.rest) _ x is in
      let y = bind_some (inner q.value) _ x q.gives in
      let closes = taken is_right_paren sign.RightParen right_paren e.rest q.value q.is in
      let w = parts q.value y.value y.is in
      made w.is_open ts (stmt.For (for_head f.it c.it e.it) y.value.it (first_pos ts))
      (max f.height (max c.height (max e.height y.value.height))) y.value.rest x y.gives
      (glue k (glue opens (glue s.split (glue a.split (glue middle (glue b.split (glue closes (record { is = w.split }))))))))
      (g.a_for (first_pos ts) (first_pos (behind ts)) (first_pos c.rest) (first_pos e.rest) s.spelled a.spelled b.spelled w.spelled) w.closed

  for_took : (ts : List Token) (x : Read Stmt) → One ts (reserved key.For (first_pos ts)) (behind ts)
      → u.a_for types below inner (first_pos ts) (behind ts) ≡ Some x → TakesStmt types (suc below) ts x
  unfolding u.a_for u.for_begin u.for_rest u.for_last
  for_took ts x k is =
      let f = bind_some (u.for_begin types below inner (behind ts)) _ x is in
      let o = bind_some (taking is_left_paren (behind ts)) _ f.value f.is in
      let c = bind_some (u.at_most types below inner is_semicolon f.value.rest) _ x f.gives in
      let m = bind_some (taking is_semicolon c.value.rest) _ x c.gives in
      let e = bind_some (u.at_most types below inner is_right_paren m.value) _ x m.gives in
      let opens = taken is_left_paren sign.LeftParen left_paren (behind ts) o.value o.is in
      let middle = taken is_semicolon sign.Semicolon semicolon c.value.rest m.value m.is in
      for_end_took ts o.value m.value f.value c.value e.value k opens (for_start_took o.value f.value o.gives)
      (at_most_took is_semicolon f.value.rest c.value c.is) middle
      (at_most_took is_right_paren m.value e.value e.is) x e.gives

  -- ---- jumps and expressions

  goto_took : (ts : List Token) (x : Read Stmt) → One ts (reserved key.Goto (first_pos ts)) (behind ts)
      → u.a_goto types below inner (first_pos ts) (behind ts) ≡ Some x → TakesStmt types (suc below) ts x
  unfolding u.a_goto
  goto_took ts x k is =
      let w = bind_some (front_word (behind ts)) _ x is in
      let e = bind_some (taking is_semicolon (behind (behind ts))) _ x w.gives in
      let end = taken is_semicolon sign.Semicolon semicolon (behind (behind ts)) e.value e.is in
      made_whole ts (stmt.Goto w.value (first_pos ts)) 0 e.value x e.gives (glue k (glue (front_word_is (behind ts) w.value w.is) end))
      (g.a_goto w.value (first_pos ts) (first_pos (behind ts)) (first_pos (behind (behind ts))))

  break_took : (ts : List Token) (x : Read Stmt) → One ts (reserved key.Break (first_pos ts)) (behind ts)
      → u.a_break types below inner (first_pos ts) (behind ts) ≡ Some x → TakesStmt types (suc below) ts x
  unfolding u.a_break
  break_took ts x k is =
      let e = bind_some (taking is_semicolon (behind ts)) _ x is in
      made_whole ts (stmt.Break (first_pos ts)) 0 e.value x e.gives
      (glue k (taken is_semicolon sign.Semicolon semicolon (behind ts) e.value e.is)) (g.a_break (first_pos ts) (first_pos (behind ts)))

  continue_took : (ts : List Token) (x : Read Stmt) → One ts (reserved key.Continue (first_pos ts)) (behind ts)
      → u.a_continue types below inner (first_pos ts) (behind ts) ≡ Some x → TakesStmt types (suc below) ts x
  unfolding u.a_continue
  continue_took ts x k is =
      let e = bind_some (taking is_semicolon (behind ts)) _ x is in
      made_whole ts (stmt.Continue (first_pos ts)) 0 e.value x e.gives
      (glue k (taken is_semicolon sign.Semicolon semicolon (behind ts) e.value e.is)) (g.a_continue (first_pos ts) (first_pos (behind ts)))

  return_took : (ts : List Token) (x : Read Stmt) → One ts (reserved key.Return (first_pos ts)) (behind ts)
      → u.a_return types below inner (first_pos ts) (behind ts) ≡ Some x → TakesStmt types (suc below) ts x
  unfolding u.a_return
  return_took ts x k is =
      let a = bind_some (u.at_most types below inner is_semicolon (behind ts)) _ x is in
      let e = bind_some (taking is_semicolon a.value.rest) _ x a.gives in
      let w = at_most_took is_semicolon (behind ts) a.value a.is in
      let end = taken is_semicolon sign.Semicolon semicolon a.value.rest e.value e.is in
      made_whole ts (stmt.Return a.value.it (first_pos ts)) a.value.height e.value x e.gives (glue k (glue w.split end))
      (g.a_return (first_pos ts) (first_pos a.value.rest) w.spelled)

  -- an expression or none with its semicolon is a statement
  states_expression : (ts rest : List Token) (h : ℕ) (t : Option Expr) (s : List Token) (p : Pos) → AtMost types h t s
      → Splits ts (s ++ punct sign.Semicolon p ∷ []) rest
      → States types false (suc h) (stmt.Expr t (first_pos ts)) (s ++ punct sign.Semicolon p ∷ [])
  states_expression ts rest _ _ _ p left_out split = subst (λ (q : Pos).
      States types false 1 (stmt.Expr None q) (punct sign.Semicolon p ∷ [])) (sym (ap first_pos split.is)) (g.no_expression p)
  states_expression ts rest _ _ _ p (there {h = h} {t = t} {s = s} d) split =
      subst (λ (q : Pos). States types false (suc h) (stmt.Expr (Some t) q) (s ++ punct sign.Semicolon p ∷ []))
      (sym (first_stays (expr_begins types d) (punct sign.Semicolon p ∷ [])) ∙ cut_begins split (longer (expr_begins types d) _))
      (g.an_expression p d)

  expression_took : (ts : List Token) (x : Read Stmt) → u.expression types below inner ts ≡ Some x → TakesStmt types (suc below) ts x
  unfolding u.expression
  expression_took ts x is =
      let a = bind_some (u.at_most types below inner is_semicolon ts) _ x is in
      let e = bind_some (taking is_semicolon a.value.rest) _ x a.gives in
      let w = at_most_took is_semicolon ts a.value a.is in
      let split = glue w.split (taken is_semicolon sign.Semicolon semicolon a.value.rest e.value e.is) in
      made_whole ts (stmt.Expr a.value.it (first_pos ts)) a.value.height e.value x e.gives split
      (states_expression ts e.value a.value.height a.value.it w.span (first_pos a.value.rest) w.spelled split)

  -- ---- labels

  -- a word and a colon
  label_word : (ts : List Token) (w : NameId) → label_at ts ≡ Some w
      → Splits ts (word w (first_pos ts) ∷ punct sign.Colon (first_pos (behind ts)) ∷ []) (behind (behind ts))
  label_word ts w e = let t = test_is (is_colon (front (behind ts))) (front_word ts) w e in
      glue (front_word_is ts w t.1) (front_is (behind ts) sign.Colon (colon (front (behind ts)) t.0))

  label_took : (w : NameId) (ts : List Token) (x : Read Stmt) → label_at ts ≡ Some w → u.a_label types below inner w ts ≡ Some x
      → TakesStmt types (suc below) ts x
  unfolding u.a_label
  label_took w ts x at is =
      let y = bind_some (inner (behind (behind ts))) _ x is in
      let v = parts (behind (behind ts)) y.value y.is in
      made v.is_open ts (stmt.Label w y.value.it (first_pos ts)) y.value.height y.value.rest x y.gives (glue (label_word ts w at) (record { is = v.split }))
      (g.a_label w (first_pos ts) (first_pos (behind ts)) v.spelled) v.closed

  -- ---- items

  abbrev ItemFits : Bool → Stmt → ℕ → List Token → Type 0
  ItemFits switch x h s = AnItem types switch h x s

  local_took : (switch : Bool) (ts : List Token) (x : Read Stmt) → u.local types below inner ts ≡ Some x → Item (ItemFits switch) ts x
  unfolding u.local
  local_took switch ts x is =
      let t = bind_some (body_declaration types below ts) _ x is in
      let w = decls ts t.value t.is in
      node_is (λ (y : Read Stmt). Item (ItemFits switch) ts y) below (stmt.Decl t.value.it (first_pos ts)) t.value.height t.value.rest x t.gives
      (λ low. record {
        span = w.span;
        split = record { is = w.split };
        good = subst (λ (p : Pos). AnItem types switch (suc t.value.height) (stmt.Decl t.value.it p) w.span) (from w) (a_declared switch w.spelled);
      })

  plain_item_took : (switch : Bool) (ts : List Token) (x : Read Stmt) → u.plain_item types below inner ts ≡ Some x → Item (ItemFits switch) ts x
  unfolding u.plain_item
  plain_item_took switch ts x is = ⊎_elim
      (λ t. local_took switch ts x t.1)
      (λ t. let w = parts ts x t.1 in record { span = w.span; split = record { is = w.split }; good = a_statement switch w.spelled })
      (if_is (begins_type types ts && not (is_label (label_at ts))) _ _ (Some x) is)

  case_took : (ts : List Token) (x : Read Stmt) → One ts (reserved key.Case (first_pos ts)) (behind ts) → u.case_item types below inner ts
      ≡ Some x → Item (ItemFits true) ts x
  unfolding u.case_item
  case_took ts x k is =
      let a = bind_some (expr_at types below Choice (behind ts)) _ x is in
      let e = bind_some (taking is_colon a.value.rest) _ x a.gives in
      let w = exprs.expr Choice (behind ts) a.value a.is in
      let end = taken is_colon sign.Colon colon a.value.rest e.value e.is in
      given (λ (y : Read Stmt). Item (ItemFits true) ts y) (read (stmt.Case a.value.it.tree (first_pos ts)) a.value.height e.value) x e.gives
      (record { span = _; split = glue k (glue (record { is = w.split }) end); good = a_case (first_pos ts) (first_pos a.value.rest) w.spelled })

  default_took : (ts : List Token) (x : Read Stmt) → One ts (reserved key.Default (first_pos ts)) (behind ts)
      → u.default_item types below inner ts ≡ Some x → Item (ItemFits true) ts x
  unfolding u.default_item
  default_took ts x k is =
      let e = bind_some (taking is_colon (behind ts)) _ x is in
      given (λ (y : Read Stmt). Item (ItemFits true) ts y) (read (stmt.Default (first_pos ts)) 0 e.value) x e.gives
      (record { span = _; split = glue k (taken is_colon sign.Colon colon (behind ts) e.value e.is); good = a_default (first_pos ts) (first_pos (behind ts)) })

  marked_took : (m : Marker) (ts : List Token) (x : Read Stmt) → marker (front_reserved ts) ≡ m → u.marked_item types below inner m ts
      ≡ Some x → Item (ItemFits true) ts x
  unfolding u.marked_item
  marked_took ACase ts x at is = case_took ts x (front_reserved_is ts key.Case (case_key (front_reserved ts) at)) is
  marked_took ADefault ts x at is = default_took ts x (front_reserved_is ts key.Default (default_key (front_reserved ts) at)) is
  marked_took NoMarker ts x at is = plain_item_took true ts x is

  item_took : (switch : Bool) (ts : List Token) (x : Read Stmt) → u.an_item types below inner switch ts ≡ Some x → Item (ItemFits switch) ts x
  unfolding u.an_item
  item_took true ts x is = marked_took (marker (front_reserved ts)) ts x refl is
  item_took false ts x is = plain_item_took false ts x is

  items_of : (switch : Bool) (xs : List Stmt) (h : ℕ) (s : List Token) → Row (ItemFits switch) xs h s → g.Items types switch h xs s
  items_of switch _ _ _ empty = g.no_item switch
  items_of switch _ _ _ (next {xs = xs} {m = m} {r = r} d row) = g.more d (items_of switch xs m r row)

  -- What the items took, with the brace behind them.
  record TookItems (switch : Bool) (ts : List Token) (xs : Read (List Stmt)) : Type 0 where
    span : List Token
    split : Splits ts span xs.rest
    spelled : g.Items types switch xs.height xs.it span
    closes : One xs.rest (punct sign.RightBrace (first_pos xs.rest)) (behind xs.rest)

  items_took : (switch : Bool) (ts : List Token) (xs : Read (List Stmt)) → u.items types below inner switch ts ≡ Some xs → TookItems switch ts xs
  unfolding u.items
  items_took switch ts xs is =
      let t = rows_took (u.an_item types below inner switch) is_right_brace (ItemFits switch) (item_took switch) (length ts) ts xs is in
      record {
        span = t.span;
        split = t.split;
        spelled = items_of switch xs.it xs.height t.span t.row;
        closes =
            front_is xs.rest sign.RightBrace (right_brace (front xs.rest) t.ended);
      }

  block_took : (ts : List Token) (x : Read Stmt) → One ts (punct sign.LeftBrace (first_pos ts)) (behind ts) → u.a_block types below inner ts
      ≡ Some x → TakesStmt types (suc below) ts x
  unfolding u.a_block
  block_took ts x k is =
      let xs = bind_some (u.items types below inner false (behind ts)) _ x is in
      let t = items_took false (behind ts) xs.value xs.is in
      made_whole ts (stmt.Block xs.value.it (first_pos ts) (first_pos xs.value.rest)) xs.value.height (behind xs.value.rest) x xs.gives
      (glue k (glue t.split t.closes))
      (g.a_block (first_pos ts) (first_pos xs.value.rest) t.spelled)

  switch_end_took : (ts us : List Token) (c : Read Expr) (xs : Read (List Stmt)) → One ts (reserved key.Switch (first_pos ts)) (behind ts)
      → TookCondition types below (behind ts) c
      → One c.rest (punct sign.LeftBrace (first_pos c.rest)) us → TookItems true us xs → (x : Read Stmt)
      → node (suc below) (stmt.Switch c.it xs.it (first_pos ts) (first_pos xs.rest)) (max c.height xs.height) (behind xs.rest) ≡ Some x
      → TakesStmt types (suc below) ts x
  switch_end_took ts us c xs k d begins t x is = made_whole ts (stmt.Switch c.it xs.it (first_pos ts) (first_pos xs.rest))
      (max c.height xs.height) (behind xs.rest) x is
      (glue k (glue d.opens (glue d.split (glue d.closes (glue begins (glue t.split t.closes))))))
      (g.a_switch (first_pos ts) (first_pos (behind ts)) d.end (first_pos c.rest) (first_pos xs.rest) d.spelled t.spelled)

  switch_took : (ts : List Token) (x : Read Stmt) → One ts (reserved key.Switch (first_pos ts)) (behind ts)
      → u.a_switch types below inner (first_pos ts) (behind ts) ≡ Some x → TakesStmt types (suc below) ts x
  unfolding u.a_switch
  switch_took ts x k is =
      let c = bind_some (u.condition types below inner (behind ts)) _ x is in
      let o = bind_some (taking is_left_brace c.value.rest) _ x c.gives in
      let xs = bind_some (u.items types below inner true o.value) _ x o.gives in
      let begins = taken is_left_brace sign.LeftBrace left_brace c.value.rest o.value o.is in
      switch_end_took ts o.value c.value xs.value k (condition_took (behind ts) c.value c.is) begins (items_took true o.value xs.value xs.is) x xs.gives

  -- ---- all of them

  keyword_took : (k : Keyword) (ts : List Token) (x : Read Stmt) → keyword (front_reserved ts) ≡ k → u.by_keyword types below inner k ts
      ≡ Some x → TakesStmt types (suc below) ts x
  unfolding u.by_keyword
  keyword_took AnIf ts x at is = if_took ts x (front_reserved_is ts key.If (if_key (front_reserved ts) at)) is
  keyword_took AWhile ts x at is = while_took ts x (front_reserved_is ts key.While (loop_key (front_reserved ts) at)) is
  keyword_took ADo ts x at is = do_took ts x (front_reserved_is ts key.Do (do_key (front_reserved ts) at)) is
  keyword_took AFor ts x at is = for_took ts x (front_reserved_is ts key.For (for_key (front_reserved ts) at)) is
  keyword_took ASwitch ts x at is = switch_took ts x (front_reserved_is ts key.Switch (switch_key (front_reserved ts) at)) is
  keyword_took AGoto ts x at is = goto_took ts x (front_reserved_is ts key.Goto (goto_key (front_reserved ts) at)) is
  keyword_took ABreak ts x at is = break_took ts x (front_reserved_is ts key.Break (break_key (front_reserved ts) at)) is
  keyword_took AContinue ts x at is = continue_took ts x (front_reserved_is ts key.Continue (continue_key (front_reserved ts) at)) is
  keyword_took AReturn ts x at is = return_took ts x (front_reserved_is ts key.Return (return_key (front_reserved ts) at)) is
  keyword_took NoKeyword ts x at is = expression_took ts x is

  labelled_took : (l : Option NameId) (ts : List Token) (x : Read Stmt) → label_at ts ≡ l → u.by_label types below inner l ts ≡ Some x
      → TakesStmt types (suc below) ts x
  unfolding u.by_label
  labelled_took (Some w) ts x at is = label_took w ts x at is
  labelled_took None ts x at is = ⊎_elim
      (λ t. block_took ts x (front_is ts sign.LeftBrace (left_brace (front ts) t.0)) t.1)
      (λ t. keyword_took (keyword (front_reserved ts)) ts x refl t.1)
      (if_is (is_left_brace (front ts)) _ _ (Some x) is)

  statement_by_took : (ts : List Token) (x : Read Stmt) → u.statement_by types below inner ts ≡ Some x → TakesStmt types (suc below) ts x
  unfolding u.statement_by
  statement_by_took ts x is = labelled_took (label_at ts) ts x refl is

-- a statement that is read
pub statement_took : (types : List NameId) → ((limit : ℕ) → lower.IsSound types limit)
    → ((limit : ℕ) (ts : List Token) (x : Read Decl) → body_declaration types limit ts ≡ Some x → TakesDecl types limit ts x)
    → (limit : ℕ) (ts : List Token) (x : Read Stmt) → statement types limit ts ≡ Some x → TakesStmt types limit ts x
unfolding statement
statement_took types exprs decls zero ts x is = absurd cc
statement_took types exprs decls (suc n) ts x is = statement_by_took types n (λ us. statement types n us) (exprs n) (decls n)
    (λ us y e. statement_took types exprs decls n us y e) ts x is
