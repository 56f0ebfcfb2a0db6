-- Declarators: what is read is spelled.
use Rattle.std.proofs.Common.{◌≡◌, ℕ, zero, suc, ◌≤◌, max, Bool, true, false, List, [], ◌∷◌, ◌++◌, length, Option, Some, None, refl, sym}
use Rattle.std.proofs.Common.{ap, subst, ◌∙◌, append_assoc, arith, ⊎_elim}
use Rattle.std.specs.Prelude.{if◌then◌else◌, ◌&&◌, ◌||◌, not}
use Rattle.std.proofs.lemmas.Bool.{and_parts}
use Rattle.std.proofs.lemmas.List.{append-nil}
use Rattle.sc_base.specs.declared.pos.NameId.{NameId}
use Rattle.sc_tree.specs.declared.token.Token.{Token}
use Rattle.sc_tree.specs.declared.token.Kind.{Kind}
use Rattle.sc_tree.specs.declared.token.Kind.TheVariants as k
use Rattle.sc_tree.specs.declared.token.Punct.TheVariants as sign
use Rattle.sc_tree.specs.declared.token.Reserved.TheVariants as key
use Rattle.sc_tree.specs.declared.expr.Head.{Head}
use Rattle.sc_tree.specs.declared.expr.Declarator.{Declarator}
use Rattle.sc_tree.specs.declared.expr.Declarator.TheVariants as d
use Rattle.sc_tree.specs.declared.grammar.Level.TheVariants.{Choice}
use Rattle.sc_tree.specs.declared.grammar.Naming.{Naming}
use Rattle.sc_tree.specs.declared.grammar.Naming.TheVariants as naming
use Rattle.sc_tree.specs.declared.grammar.Core.{Core}
use Rattle.sc_tree.specs.declared.grammar.Core.TheVariants as core
use Rattle.sc_tree.specs.Tables.{◌>>=◌}
use Rattle.sc_tree.specs.Tokens.{punct, reserved, first_pos}
use Rattle.sc_tree.specs.Grammar.{may_name, may_lack, covered, called, is_void_word, is_void, Heads, Declares, Directs, Parameters}
use Rattle.sc_tree.specs.Grammar.{ManyHeads, a_direct, a_pointer, a_declared_name, no_name, in_brackets, an_array, an_array_of, a_function}
use Rattle.sc_tree.specs.Grammar.{no_parameters, void_alone, the_parameters, and_more, one_head, more_heads}
use Rattle.sc_parse_expr.specs.declared.found.Wanted.{Wanted}
use Rattle.sc_parse_expr.specs.declared.found.Phrase.{Phrase}
use Rattle.sc_parse_expr.specs.declared.found.Declared.{Declared}
use Rattle.sc_parse_expr.specs.declared.found.Headed.{Headed}
use Rattle.sc_parse_front.specs.Front.{reserved_of, front, front_word, front_reserved, behind, is_left_paren, is_right_paren}
use Rattle.sc_parse_front.specs.Front.{is_right_bracket, is_star, is_ellipsis, is_void_key, begins_type, Suffix, Indexing, Calling, suffix}
use Rattle.sc_parse_expr.specs.Read.{Read, read, Parse, node, taking, Listed, commas}
use Rattle.sc_parse_expr.specs.Reading as r
use Rattle.sc_parse_expr.specs.Reading.{declared, Params, params, Roll, enrolled}
use Rattle.sc_parse_expr.specs.Laws.{TakesDeclarator}
use Rattle.sc_parse_expr.proofs.Tools.{bind_some, if_is, test_is, given, node_is, Splits, none, glue, One, front_is, front_word_is}
use Rattle.sc_parse_expr.proofs.Tools.{front_reserved_is, left_paren, right_paren, right_bracket, star, ellipsis, void_key, taken}
use Rattle.sc_parse_expr.proofs.Tools.{index_there, call_there}
use Rattle.sc_parse_expr.proofs.SoundLists.{Item, Chained, last, more, Ending, plain, with_comma, all_added, commas_took}
use Rattle.sc_parse_expr.proofs.SoundExpr.{SoundParts, head_took}

-- ---- a declarator that must have a name is not empty

not_empty : (s r : List Token) (t : Token) → (s ++ t ∷ r) ≡ [] → ⊥
not_empty [] r t is = absurd cc
not_empty (x ∷ s) r t is = absurd cc

direct_full : {types : List NameId} {n : Naming} {c : Core} {h : ℕ} {t : Declarator} {s : List Token} → Directs types n c h t s → may_lack n
    ≡ false → s ≡ [] → ⊥
direct_full (a_declared_name n w p may) has is = absurd cc
direct_full (no_name n may) has is = absurd cc
direct_full (in_brackets p q x) has is = absurd cc
direct_full (an_array {s = s} p q x) has is = not_empty s (punct sign.RightBracket q ∷ []) (punct sign.LeftBracket p) is
direct_full (an_array_of {s = s} {r = u} p q x l) has is = not_empty s (u ++ punct sign.RightBracket q ∷ []) (punct sign.LeftBracket p) is
direct_full (a_function {s = s} {r = u} p q x ps) has is = not_empty s (u ++ punct sign.RightParen q ∷ []) (punct sign.LeftParen p) is

full : {types : List NameId} {n : Naming} {c : Core} {h : ℕ} {t : Declarator} {s : List Token} → Declares types n c h t s → may_lack n ≡ false → s ≡ [] → ⊥
full (a_direct x) has is = direct_full x has is
full (a_pointer p x) has is = absurd cc

-- where the name may be left out and no `)` stands at the front, or where it may not
some_token : {types : List NameId} {n : Naming} {c : Core} {h : ℕ} {t : Declarator} (s rest : List Token) → Declares types n c h t s
    → (lack : Bool) → may_lack n ≡ lack → (begins : Bool)
    → not (lack && (is_right_paren (front (s ++ rest)) || begins)) ≡ true → is_right_paren (front rest) ≡ true → s ≡ [] → ⊥
some_token s rest x false has begins e close is = full x has is
some_token [] rest x true has begins e close is = let bad : false ≡ true = subst (λ (b : Bool). not (true && (b || begins)) ≡ true) close e in absurd cc
some_token (t ∷ s) rest x true has begins e close is = absurd cc

-- ---- `void` alone

void_kind : (x : Kind) → (is_void_key (reserved_of x) && true) ≡ false → is_void_word x ≡ false
void_kind (k.Reserved key.Void) e = absurd cc
void_kind _ e = refl

not_void : (s rest : List Token) → is_right_paren (front rest) ≡ true
    → (is_void_key (front_reserved (s ++ rest)) && is_right_paren (front (behind (s ++ rest)))) ≡ false → is_void s ≡ false
not_void [] rest close e = refl
not_void (t ∷ []) rest close e = void_kind t.kind (subst (λ (b : Bool). (is_void_key (reserved_of t.kind) && b) ≡ false) close e)
not_void (t ∷ u ∷ s) rest close e = refl

-- ---- the heads of parameters

abbrev pub IsParameter : List NameId → Headed → ℕ → List Token → Type 0
IsParameter types x h s = Heads types naming.Optional x.named h x.head s

abbrev heads : List Headed → List Head
heads [] = []
heads (x ∷ xs) = x.head ∷ heads xs

abbrev all_named : List Headed → Bool
all_named [] = true
all_named (x ∷ xs) = x.named && all_named xs

and_true : (b : Bool) → (b && true) ≡ b
and_true true = refl
and_true false = refl

and_assoc : (a b c : Bool) → ((a && b) && c) ≡ (a && (b && c))
and_assoc true b c = refl
and_assoc false b c = refl

heads_of : {types : List NameId} {xs : List Headed} {h : ℕ} {s : List Token} → Chained (IsParameter types) xs h s
    → ManyHeads types (all_named xs) h (heads xs) s
heads_of (last {x = x} g) = rw (and_true x.named) (one_head g)
heads_of (more p g c) = more_heads p g (heads_of c)

abbrev roll : List Head → Bool → Roll
roll hs named = record { heads = hs; named = named }

roll_is : {hs gs : List Head} {a b : Bool} → hs ≡ gs → a ≡ b → roll hs a ≡ roll gs b
roll_is {gs = gs} {a = a} e f = ap (λ (xs : List Head). roll xs a) e ∙ ap (λ (c : Bool). roll gs c) f

all_enrolled : (before : Roll) (xs : List Headed) → all_added enrolled before xs ≡ roll (before.heads ++ heads xs) (before.named && all_named xs)
all_enrolled before [] = roll_is (sym (append-nil before.heads)) (sym (and_true before.named))
all_enrolled before (x ∷ xs) = all_enrolled (enrolled before x) xs
    ∙ roll_is (append_assoc before.heads (x.head ∷ []) (heads xs)) (and_assoc before.named x.named (all_named xs))

-- ---- declarators

-- What stands between the brackets of parameters was taken, if the closing bracket follows.
record TookParameters (types : List NameId) (ts : List Token) (x : Read Params) : Type 0 where
  pub span : List Token
  pub split : Splits ts span x.rest
  pub spelled : is_right_paren (front x.rest) ≡ true → Parameters types x.it.named x.height x.it.heads x.it.dots span

record TookDirect (types : List NameId) (limit : ℕ) (n : Naming) (ts : List Token) (x : Read Declared) : Type 0 where
  pub span : List Token
  pub split : Splits ts span x.rest
  pub spelled : Directs types n x.it.core x.height x.it.declarator span
  pub low : x.height ≤ limit

-- One or more heads with commas between.
record TookHeads (types : List NameId) (ts : List Token) (x : Read (Listed Roll)) : Type 0 where
  pub span : List Token
  pub tail : List Token
  pub split : Splits ts (span ++ tail) x.rest
  pub spelled : ManyHeads types x.it.items.named x.height x.it.items.heads span
  pub ending : Ending is_ellipsis x.it.comma tail x.rest

module _ (types : List NameId) (limit below : ℕ) (inner : Wanted → Parse Phrase) (parts : SoundParts types below limit inner) where
  -- a node that was made over what was taken
  made : (n : Naming) (ts : List Token) (t : Declarator) (c : Core) (h : ℕ) (rest : List Token) (x : Read Declared)
      → node limit (declared t c) h rest ≡ Some x → {span : List Token}
      → Splits ts span rest → Directs types n c (suc h) t span → TookDirect types limit n ts x
  made n ts t c h rest x is split spelled = node_is (λ (y : Read Declared). TookDirect types limit n ts y) limit (declared t c) h rest x is
      (λ low. record { span = _; split = split; spelled = spelled; low = low })

  enclosed_took : (n : Naming) (ts us : List Token) (l : One ts (punct sign.LeftParen (first_pos ts)) us)
      → r.encloses types limit inner n us ≡ true → (a : Read Declared) → TakesDeclarator types below n us a
      → (rest : List Token) → taking is_right_paren a.rest ≡ Some rest → (x : Read Declared)
      → node limit (declared a.it.declarator a.it.core) a.height rest ≡ Some x
      → (s : List Token) → Splits us s a.rest → Declares types n a.it.core a.height a.it.declarator s → TookDirect types limit n ts x
  enclosed_took n ts us l encloses a w rest close x is [] split spelled =
      let right = (test_is (is_right_paren (front a.rest)) (Some (behind a.rest)) rest close).0 in
      let front_is : is_right_paren (front us) || begins_type types us ≡ is_right_paren (front a.rest) || begins_type types us =
      ap (λ (v : List Token). is_right_paren (front v) || begins_type types us) split.is in
      absurd (some_token [] a.rest spelled (may_lack n) refl (begins_type types us)
      (subst (λ (b : Bool). not (may_lack n && b) ≡ true) front_is encloses) right refl)
  enclosed_took n ts us l encloses a w rest close x is (t ∷ s) split spelled =
      made n ts a.it.declarator a.it.core a.height rest x is (glue l
      (glue split (taken is_right_paren sign.RightParen right_paren a.rest rest close))) (in_brackets (first_pos ts) (first_pos a.rest) spelled)

  unnamed_took : (n : Naming) (ts : List Token) (x : Read Declared) → r.unnamed types limit inner n ts ≡ Some x → TookDirect types limit n ts x
  unfolding r.unnamed r.enclosed
  unnamed_took n ts x is = ⊎_elim
      (λ y. let two = and_parts (is_left_paren (front ts)) (r.encloses types limit inner n (behind ts)) y.0 in
      let a = bind_some (r.inner_declarator types limit inner n (behind ts)) (r.enclosed types limit inner) x y.1 in
      let c = bind_some (taking is_right_paren a.value.rest) _ x a.gives in
      let w = parts.declarator n (behind ts) a.value a.is in
      enclosed_took n ts (behind ts) (front_is ts sign.LeftParen (left_paren (front ts) two.0)) two.1 a.value w c.value c.is x c.gives
      w.span (record { is = w.split }) w.spelled)
      (λ y. let t = test_is (may_lack n) (node limit (declared (d.Name None) core.Nameless) 0 ts) x y.1 in
      made n ts (d.Name None) core.Nameless 0 ts x t.1 (none ts) (no_name n t.0))
      (if_is (is_left_paren (front ts) && r.encloses types limit inner n (behind ts))
      (r.inner_declarator types limit inner n (behind ts) >>= r.enclosed types limit inner)
      (if may_lack n then node limit (declared (d.Name None) core.Nameless) 0 ts else None) (Some x) is)

  begun_took : (n : Naming) (ts : List Token) (o : Option NameId) → front_word ts ≡ o → (x : Read Declared)
      → r.begun types limit inner n o ts ≡ Some x → TookDirect types limit n ts x
  unfolding r.begun
  begun_took n ts None w x is = unnamed_took n ts x is
  begun_took n ts (Some v) w x is = ⊎_elim
      (λ y. made n ts (d.Name (Some (v, first_pos ts))) (core.Bare v) 0 (behind ts) x y.1 (front_word_is ts v w) (a_declared_name n v (first_pos ts) y.0))
      (λ y. unnamed_took n ts x y.1)
      (if_is (may_name n types v) (node limit (declared (d.Name (Some (v, first_pos ts))) (core.Bare v)) 0 (behind ts))
      (r.unnamed types limit inner n ts) (Some x) is)

  -- ---- arrays

  array_took : (n : Naming) (ts : List Token) (a : Read Declared) → TookDirect types limit n ts a → suffix (front a.rest) ≡ Indexing
      → (x : Read Declared) → r.array_of types limit inner a ≡ Some x → TookDirect types limit n ts x
  unfolding r.array_of r.open_array r.long_array
  array_took n ts a t there x is =
      let o = index_there a.rest there in
      ⊎_elim
      (λ y. made n ts (d.Array a.it.declarator None) (covered a.it.core) a.height (behind (behind a.rest)) x y.1
      (glue t.split (glue o (front_is (behind a.rest) sign.RightBracket (right_bracket (front (behind a.rest)) y.0))))
      (an_array (first_pos a.rest) (first_pos (behind a.rest)) t.spelled))
      (λ y. let l = bind_some (r.inner_expr types limit inner Choice (behind a.rest)) _ x y.1 in
      let c = bind_some (taking is_right_bracket l.value.rest) _ x l.gives in
      let w = parts.expr Choice (behind a.rest) l.value l.is in
      made n ts (d.Array a.it.declarator (Some l.value.it.tree)) (covered a.it.core) (max a.height l.value.height) c.value x c.gives
      (glue t.split (glue o (glue (record { is = w.split }) (taken is_right_bracket sign.RightBracket right_bracket l.value.rest c.value
      c.is)))) (an_array_of (first_pos a.rest) (first_pos l.value.rest) t.spelled w.spelled))
      (if_is (is_right_bracket (front (behind a.rest))) (r.open_array types limit inner a) (r.long_array types limit inner a) (Some x) is)

  -- ---- parameters

  parameter_took : (ts : List Token) (x : Read Headed) → r.inner_head types limit inner naming.Optional ts ≡ Some x → Item (IsParameter types) ts x
  parameter_took ts x is = let t = head_took types limit below inner parts naming.Optional ts x is in
      record { span = t.span; split = t.split; good = t.spelled }

  heads_took : (ts : List Token) (x : Read (Listed Roll)) → commas (r.inner_head types limit inner naming.Optional) enrolled is_ellipsis
      (length ts) (roll [] true) 0 ts ≡ Some x → TookHeads types ts x
  heads_took ts x is =
      let t = commas_took (r.inner_head types limit inner naming.Optional) enrolled is_ellipsis (IsParameter types) parameter_took
      (length ts) (roll [] true) 0 ts x is in
      let items : roll (heads t.xs) (all_named t.xs) ≡ x.it.items = sym (t.whole ∙ all_enrolled (roll [] true) t.xs) in
      let tall : t.height ≡ x.height = (let e = t.tall in omega arith) in
      record {
        span = t.span;
        tail = t.tail;
        split = t.split;
        ending = t.ending;
        spelled = subst (λ (m : ℕ). ManyHeads types x.it.items.named m x.it.items.heads t.span) tall
            (subst (λ (z : Roll). ManyHeads types z.named t.height z.heads t.span) items (heads_of t.chained));
      }

  -- heads with nothing or with `, ...` behind, and not `void` alone
  heads_end : (ts span : List Token) (hs : Roll) (h : ℕ) → ManyHeads types hs.named h hs.heads span
      → (is_void_key (front_reserved ts) && is_right_paren (front (behind ts))) ≡ false
      → (b : Bool) (tail rest : List Token) → Ending is_ellipsis b tail rest → Splits ts (span ++ tail) rest → (z : Read Params)
      → (if b then Some (read (params (Some hs.heads) hs.named true) h (behind rest)) else Some
      (read (params (Some hs.heads) hs.named false) h rest)) ≡ Some z → TookParameters types ts z
  heads_end ts span hs h many alone _ _ _ (plain rest) split z is =
      let here : Splits ts span rest = subst (λ (u : List Token). Splits ts u rest) (append-nil span) split in
      let others = subst (λ (u : List Token). (is_void_key (front_reserved u) && is_right_paren (front (behind u))) ≡ false) here.is alone in
      given (λ (y : Read Params). TookParameters types ts y) _ z is
      (record { span = span; split = here; spelled = λ close. the_parameters many (not_void span rest close others) })
  heads_end ts span hs h many alone _ _ _ (with_comma p rest dots) split z is =
      let q = first_pos rest in
      let here : Splits ts (span ++ punct sign.Comma p ∷ punct sign.Ellipsis q ∷ []) (behind rest) =
      subst (λ (u : List Token). Splits ts u (behind rest)) (append_assoc span (punct sign.Comma p ∷ []) (punct sign.Ellipsis q ∷ []))
      (glue split (front_is rest sign.Ellipsis (ellipsis (front rest) dots))) in
      given (λ (y : Read Params). TookParameters types ts y) _ z is
      (record { span = span ++ punct sign.Comma p ∷ punct sign.Ellipsis q ∷ []; split = here; spelled = λ close. and_more p q many })

  void_took : (ts : List Token) → is_void_key (front_reserved ts) ≡ true → (x : Read Params)
      → Some (read (params (Some []) true false) 0 (behind ts)) ≡ Some x → TookParameters types ts x
  void_took ts there x is = given (λ (y : Read Params). TookParameters types ts y) _ x is
      (record {
        span = reserved key.Void (first_pos ts) ∷ [];
        split = front_reserved_is ts key.Void (void_key (front_reserved ts) there);
        spelled = λ close. void_alone (first_pos ts);
      })

  listed_took : (ts : List Token) → (is_void_key (front_reserved ts) && is_right_paren (front (behind ts))) ≡ false → (x : Read Params)
      → (commas (r.inner_head types limit inner naming.Optional) enrolled is_ellipsis (length ts) (roll [] true) 0 ts
      >>= r.listed_params types limit inner) ≡ Some x → TookParameters types ts x
  listed_took ts alone x is =
      let a = bind_some (commas (r.inner_head types limit inner naming.Optional) enrolled is_ellipsis (length ts) (roll [] true) 0 ts)
      (r.listed_params types limit inner) x is in
      let t = heads_took ts a.value a.is in
      heads_end ts t.span a.value.it.items a.value.height t.spelled alone a.value.it.comma t.tail a.value.rest t.ending t.split x a.gives

  parameters_took : (ts : List Token) (x : Read Params) → r.parameters types limit inner ts ≡ Some x → TookParameters types ts x
  unfolding r.parameters
  parameters_took ts x is =
      let void_there = is_void_key (front_reserved ts) && is_right_paren (front (behind ts)) in
      let void_read : Option (Read Params) = Some (read (params (Some []) true false) 0 (behind ts)) in
      let heads_read = commas (r.inner_head types limit inner naming.Optional) enrolled is_ellipsis (length ts) (roll [] true) 0 ts
      >>= r.listed_params types limit inner in
      ⊎_elim
      (λ y. given (λ (z : Read Params). TookParameters types ts z) (read (params None true false) 0 ts) x y.1
      (record { span = []; split = none ts; spelled = λ close. no_parameters }))
      (λ y. ⊎_elim
      (λ z. void_took ts (and_parts (is_void_key (front_reserved ts)) (is_right_paren (front (behind ts))) z.0).0 x z.1)
      (λ z. listed_took ts z.0 x z.1)
      (if_is void_there void_read heads_read (Some x) y.1))
      (if_is (is_right_paren (front ts)) (Some (read (params None true false) 0 ts)) (if void_there then void_read else heads_read) (Some x) is)

  function_took : (n : Naming) (ts : List Token) (a : Read Declared) → TookDirect types limit n ts a → suffix (front a.rest) ≡ Calling
      → (x : Read Declared) → r.function_of types limit inner a ≡ Some x → TookDirect types limit n ts x
  unfolding r.function_of
  function_took n ts a t there x is =
      let ps = bind_some (r.parameters types limit inner (behind a.rest)) _ x is in
      let c = bind_some (taking is_right_paren ps.value.rest) _ x ps.gives in
      let w = parameters_took (behind a.rest) ps.value ps.is in
      let right = (test_is (is_right_paren (front ps.value.rest)) (Some (behind ps.value.rest)) c.value c.is).0 in
      made n ts (d.Func a.it.declarator ps.value.it.heads ps.value.it.dots) (called ps.value.it.named a.it.core)
      (max a.height ps.value.height) c.value x c.gives
      (glue t.split (glue (call_there a.rest there) (glue w.split (taken is_right_paren sign.RightParen right_paren ps.value.rest c.value c.is))))
      (a_function (first_pos a.rest) (first_pos ps.value.rest) t.spelled (w.spelled right))

  -- ---- what stands behind the name

  derived_took : (go : Read Declared → Option (Read Declared)) (n : Naming) (ts : List Token)
      → ((b y : Read Declared) → TookDirect types limit n ts b → go b ≡ Some y → TookDirect types limit n ts y)
      → (a : Read Declared) → TookDirect types limit n ts a → (s : Suffix) → suffix (front a.rest) ≡ s → (x : Read Declared)
      → r.derived types limit inner go s a ≡ Some x → TookDirect types limit n ts x
  unfolding r.derived
  derived_took go n ts ih a t Indexing there x is = let b = bind_some (r.array_of types limit inner a) go x is in
      ih b.value x (array_took n ts a t there b.value b.is) b.gives
  derived_took go n ts ih a t Calling there x is = let b = bind_some (r.function_of types limit inner a) go x is in
      ih b.value x (function_took n ts a t there b.value b.is) b.gives
  derived_took go n ts ih a t _ there x is = given (λ (y : Read Declared). TookDirect types limit n ts y) a x is t

  derive_took : (m : ℕ) (n : Naming) (ts : List Token) (a x : Read Declared) → TookDirect types limit n ts a
      → r.derive types limit inner m a ≡ Some x → TookDirect types limit n ts x
  unfolding r.derive
  derive_took zero n ts a x t is = derived_took (λ y. None) n ts (λ b y u bad. absurd cc) a t (suffix (front a.rest)) refl x is
  derive_took (suc m) n ts a x t is = derived_took (λ y. r.derive types limit inner m y) n ts
      (λ b y u more_is. derive_took m n ts b y u more_is) a t (suffix (front a.rest)) refl x is

  direct_took : (n : Naming) (ts : List Token) (x : Read Declared) → r.direct types limit inner n ts ≡ Some x → TakesDeclarator types limit n ts x
  unfolding r.direct
  direct_took n ts x is =
      let a = bind_some (r.begun types limit inner n (front_word ts) ts) (r.derive types limit inner limit) x is in
      let t = derive_took limit n ts a.value x (begun_took n ts (front_word ts) refl a.value a.is) a.gives in
      record { span = t.span; split = t.split.is; spelled = a_direct t.spelled; low = t.low }

  pointed_took : (n : Naming) (ts : List Token) (a : Read Declared) → is_star (front ts) ≡ true
      → TakesDeclarator types below n (behind ts) a → (x : Read Declared) → r.pointed types limit inner a ≡ Some x
      → TakesDeclarator types limit n ts x
  unfolding r.pointed
  pointed_took n ts a there w x is =
      let under : Splits (behind ts) w.span a.rest = record { is = w.split } in
      let o = glue (front_is ts sign.Star (star (front ts) there)) under in
      node_is (λ (y : Read Declared). TakesDeclarator types limit n ts y) limit (declared (d.Pointer a.it.declarator) (covered a.it.core)) a.height a.rest x is
      (λ low. record { span = punct sign.Star (first_pos ts) ∷ w.span; split = o.is; spelled = a_pointer (first_pos ts) w.spelled; low = low })

  pub declarator_took : (n : Naming) (ts : List Token) (x : Read Declared) → r.declarator types limit inner n ts ≡ Some x → TakesDeclarator types limit n ts x
  unfolding r.declarator
  declarator_took n ts x is = ⊎_elim
      (λ y. let a = bind_some (r.inner_declarator types limit inner n (behind ts)) (r.pointed types limit inner) x y.1 in
      pointed_took n ts a.value y.0 (parts.declarator n (behind ts) a.value a.is) x a.gives)
      (λ y. direct_took n ts x y.1)
      (if_is (is_star (front ts)) (r.inner_declarator types limit inner n (behind ts) >>= r.pointed types limit inner)
      (r.direct types limit inner n ts) (Some x) is)
