-- Specifiers: what is read is spelled.
use Rattle.std.proofs.Common.{◌≡◌, ℕ, zero, suc, ◌≤◌, max, Bool, true, false, List, [], ◌∷◌, ◌++◌, length, Option, Some, None, refl, sym}
use Rattle.std.proofs.Common.{ap, subst, ◌∙◌, append_assoc, arith, ⊎_elim}
use Rattle.std.specs.Prelude.{if◌then◌else◌}
use Rattle.std.proofs.lemmas.List.{append-nil}
use Rattle.sc_base.specs.declared.pos.Pos.{Pos}
use Rattle.sc_base.specs.declared.pos.NameId.{NameId}
use Rattle.sc_tree.specs.declared.token.Token.{Token}
use Rattle.sc_tree.specs.declared.token.Punct.{Punct}
use Rattle.sc_tree.specs.declared.token.Punct.TheVariants as sign
use Rattle.sc_tree.specs.declared.token.Reserved.{Reserved}
use Rattle.sc_tree.specs.declared.token.Reserved.TheVariants as key
use Rattle.sc_tree.specs.declared.expr.Storage.{Storage}
use Rattle.sc_tree.specs.declared.expr.Member.{Member}
use Rattle.sc_tree.specs.declared.expr.Part.{Part}
use Rattle.sc_tree.specs.declared.expr.Enumerator.{Enumerator}
use Rattle.sc_tree.specs.declared.grammar.Level.TheVariants.{Choice}
use Rattle.sc_tree.specs.declared.grammar.Naming.TheVariants as naming
use Rattle.sc_tree.specs.declared.grammar.BodyForm.{BodyForm}
use Rattle.sc_tree.specs.declared.grammar.BodyForm.TheVariants as form
use Rattle.sc_tree.specs.declared.grammar.TypeWord.{TypeWord}
use Rattle.sc_tree.specs.declared.grammar.Piece.{Piece}
use Rattle.sc_tree.specs.declared.grammar.SoFar.{SoFar}
use Rattle.sc_tree.specs.declared.grammar.SoFar.TheVariants.{Untyped}
use Rattle.sc_tree.specs.declared.grammar.Gathered.{Gathered}
use Rattle.sc_tree.specs.declared.grammar.Specified.{Specified}
use Rattle.sc_tree.specs.Tables.{◌>>=◌}
use Rattle.sc_tree.specs.Tokens.{word, punct, reserved, first_pos, is_type}
use Rattle.sc_tree.specs.TypeWords.{storage_word, type_word}
use Rattle.sc_tree.specs.Specifiers.{no_pieces, with_piece, with_pieces, finished}
use Rattle.sc_tree.specs.Grammar.{record_word, Specifies, Pieces, APiece, Members, AMember, Parts, APart, Enumerators, AnEnumerator, pieces}
use Rattle.sc_tree.specs.Grammar.{no_piece, more_pieces, a_storage_word, a_type_word, a_typedef_name, a_record, a_record_body}
use Rattle.sc_tree.specs.Grammar.{a_record_whole, an_enum, an_enum_body, an_enum_whole, no_member, more_members, a_member, an_untagged}
use Rattle.sc_tree.specs.Grammar.{one_part, more_parts, a_plain_part, a_bit_field, a_padding, last_enumerator, last_with_comma}
use Rattle.sc_tree.specs.Grammar.{more_enumerators, an_enumerator, an_enumerator_set}
use Rattle.sc_parse_expr.specs.declared.found.Wanted.{Wanted}
use Rattle.sc_parse_expr.specs.declared.found.Phrase.{Phrase}
use Rattle.sc_parse_expr.specs.declared.found.Declared.{Declared}
use Rattle.sc_parse_front.specs.Front.{front, front_word, front_reserved, behind, is_left_brace, is_right_brace, is_colon, is_semicolon, is_equals, is_enum}
use Rattle.sc_parse_expr.specs.Read.{Read, read, Parse, taking, Listed, commas, many}
use Rattle.sc_parse_expr.specs.Reading as r
use Rattle.sc_parse_front.specs.Start.{Start, AStorage, AWord, ARecord, AnEnum, AName, NoStart, storage_start, word_start, record_start}
use Rattle.sc_parse_front.specs.Start.{enum_start, reserved_start, name_start, start}
use Rattle.sc_parse_expr.specs.Reading.{with_item, never}
use Rattle.sc_parse_expr.specs.Laws.{TakesSpecs}
use Rattle.sc_parse_expr.proofs.Tools.{bind_some, some_is, if_is, test_is, given, node_is, Splits, none, glue, One, front_is, front_word_is}
use Rattle.sc_parse_expr.proofs.Tools.{front_reserved_is, left_brace, right_brace, colon, semicolon, equals, enum, taken}
use Rattle.sc_parse_expr.proofs.SoundLists.{Item, Chained, last, more, Ending, plain, with_comma, Row, empty, next, all_items, TookListed}
use Rattle.sc_parse_expr.proofs.SoundLists.{TookMany, commas_took, many_took}
use Rattle.sc_parse_expr.proofs.SoundExpr.{SoundParts}

-- ---- lists of items

-- Items with commas between, and nothing or a comma behind them.
record Between {A : Type 0} (ends : Option Punct → Bool) (Good : A → ℕ → List Token → Type 0) (ts : List Token) (x : Read (Listed (List A))) : Type 0 where
  pub span : List Token
  pub tail : List Token
  pub split : Splits ts (span ++ tail) x.rest
  pub chained : Chained Good x.it.items x.height span
  pub ending : Ending ends x.it.comma tail x.rest

between : {A : Type 0} (ends : Option Punct → Bool) (Good : A → ℕ → List Token → Type 0) (ts : List Token) (x : Read (Listed (List A)))
    → TookListed with_item ends Good [] 0 ts x → Between ends Good ts x
between ends Good ts x t =
    let items : t.xs ≡ x.it.items = sym (t.whole ∙ all_items [] t.xs) in
    let tall : t.height ≡ x.height = (let h = t.tall in omega arith) in
    record {
      span = t.span;
      tail = t.tail;
      split = t.split;
      ending = t.ending;
      chained = subst (λ (m : ℕ). Chained Good x.it.items m t.span) tall (subst (λ (xs : List _). Chained Good xs t.height t.span) items t.chained);
    }

no_tail : {tail rest : List Token} (b : Bool) → Ending never b tail rest → tail ≡ []
no_tail _ (plain rest) = refl
no_tail _ (with_comma p rest bad) = absurd cc

-- Items one after the other, up to where the test says that they end.
record Rows {A : Type 0} (ends : Option Punct → Bool) (Good : A → ℕ → List Token → Type 0) (ts : List Token) (x : Read (List A)) : Type 0 where
  pub span : List Token
  pub split : Splits ts span x.rest
  pub row : Row Good x.it x.height span
  pub ended : ends (front x.rest) ≡ true

rows : {A : Type 0} (ends : Option Punct → Bool) (Good : A → ℕ → List Token → Type 0) (ts : List Token) (x : Read (List A))
    → TookMany with_item ends Good [] 0 ts x → Rows ends Good ts x
rows ends Good ts x t =
    let items : t.xs ≡ x.it = sym (t.whole ∙ all_items [] t.xs) in
    let tall : t.height ≡ x.height = (let h = t.tall in omega arith) in
    record {
      span = t.span;
      split = t.split;
      ended = t.ended;
      row = subst (λ (m : ℕ). Row Good x.it m t.span) tall (subst (λ (xs : List _). Row Good xs t.height t.span) items t.row);
    }

-- ---- the grammar's words with the tree first

abbrev IsPart : List NameId → Part → ℕ → List Token → Type 0
IsPart types x h s = APart types h x s

abbrev IsMember : List NameId → Member → ℕ → List Token → Type 0
IsMember types x h s = AMember types h x s

abbrev IsEnumerator : List NameId → Enumerator → ℕ → List Token → Type 0
IsEnumerator types x h s = AnEnumerator types h x s

parts_of : {types : List NameId} {xs : List Part} {h : ℕ} {s : List Token} → Chained (IsPart types) xs h s → Parts types h xs s
parts_of (last g) = one_part g
parts_of (more p g c) = more_parts p g (parts_of c)

members_of : {types : List NameId} {xs : List Member} {h : ℕ} {s : List Token} → Row (IsMember types) xs h s → Members types h xs s
members_of empty = no_member
members_of (next g c) = more_members g (members_of c)

enumerators_of : {types : List NameId} {xs : List Enumerator} {h : ℕ} {s : List Token} → Chained (IsEnumerator types) xs h s → Enumerators types h xs s
enumerators_of (last g) = last_enumerator g
enumerators_of (more p g c) = more_enumerators p g (enumerators_of c)

enumerators_and_comma : {types : List NameId} {xs : List Enumerator} {h : ℕ} {s : List Token} (q : Pos)
    → Chained (IsEnumerator types) xs h s → Enumerators types h xs (s ++ punct sign.Comma q ∷ [])
enumerators_and_comma q (last g) = last_with_comma q g
enumerators_and_comma q (more {s = s} {r = u} p g c) = rw append_assoc (more_enumerators p g (enumerators_and_comma q c))

enumerators_and : {types : List NameId} {xs : List Enumerator} {h : ℕ} {s : List Token} {ends : Option Punct → Bool} {b : Bool}
    {tail rest : List Token} → Chained (IsEnumerator types) xs h s → Ending ends b tail rest
    → Enumerators types h xs (s ++ tail)
enumerators_and {s = s} c (plain rest) = rw (append-nil s) (enumerators_of c)
enumerators_and c (with_comma p rest e) = enumerators_and_comma p c

-- ---- the first word of a piece

pub data Starts (types : List NameId) (ts : List Token) : Start → Type 0 where
  a_storage : (w : Reserved) (x : Storage) → storage_word w ≡ Some x → One ts (reserved w (first_pos ts)) (behind ts) → Starts types ts (AStorage x)
  a_word : (w : Reserved) (x : TypeWord) → type_word w ≡ Some x → One ts (reserved w (first_pos ts)) (behind ts) → Starts types ts (AWord x)
  the_record : (w : Reserved) (u : Bool) → record_word w ≡ Some u → One ts (reserved w (first_pos ts)) (behind ts) → Starts types ts (ARecord u)
  the_enum : One ts (reserved key.Enum (first_pos ts)) (behind ts) → Starts types ts AnEnum
  a_type : (w : NameId) → is_type types w ≡ true → One ts (word w (first_pos ts)) (behind ts) → Starts types ts (AName w)
  no_start : Starts types ts NoStart

module _ (types : List NameId) (ts : List Token) where
  by_enum : (w : Reserved) → One ts (reserved w (first_pos ts)) (behind ts) → (b : Bool) → is_enum (Some w) ≡ b → Starts types ts (enum_start b)
  by_enum w o true is = the_enum (subst (λ (v : Reserved). One ts (reserved v (first_pos ts)) (behind ts)) (some_is w key.Enum (enum (Some w) is)) o)
  by_enum w o false is = no_start

  by_record : (w : Reserved) → One ts (reserved w (first_pos ts)) (behind ts) → (m : Option Bool) → record_word w ≡ m → (other : Start)
      → Starts types ts other → Starts types ts (record_start m other)
  by_record w o (Some u) is other s = the_record w u is o
  by_record w o None is other s = s

  by_word : (w : Reserved) → One ts (reserved w (first_pos ts)) (behind ts) → (m : Option TypeWord) → type_word w ≡ m → (other : Start)
      → Starts types ts other → Starts types ts (word_start m other)
  by_word w o (Some u) is other s = a_word w u is o
  by_word w o None is other s = s

  by_storage : (w : Reserved) → One ts (reserved w (first_pos ts)) (behind ts) → (m : Option Storage) → storage_word w ≡ m → (other : Start)
      → Starts types ts other → Starts types ts (storage_start m other)
  by_storage w o (Some u) is other s = a_storage w u is o
  by_storage w o None is other s = s

  by_reserved : (m : Option Reserved) → front_reserved ts ≡ m → (other : Start) → Starts types ts other → Starts types ts (reserved_start m other)
  by_reserved None is other s = s
  by_reserved (Some w) is other s = let o = front_reserved_is ts w is in
      by_storage w o (storage_word w) refl (word_start (type_word w) (record_start (record_word w) (enum_start (is_enum (Some w)))))
      (by_word w o (type_word w) refl (record_start (record_word w) (enum_start (is_enum (Some w))))
      (by_record w o (record_word w) refl (enum_start (is_enum (Some w))) (by_enum w o (is_enum (Some w)) refl)))

  by_type : (w : NameId) → front_word ts ≡ Some w → (b : Bool) → is_type types w ≡ b → Starts types ts (if b then AName w else NoStart)
  by_type w is true t = a_type w t (front_word_is ts w is)
  by_type w is false t = no_start

  by_name : (so : SoFar) (m : Option NameId) → front_word ts ≡ m → Starts types ts (name_start types so m)
  by_name Untyped (Some w) is = by_type w is (is_type types w) refl
  by_name so m is = no_start

  starts_are : (so : SoFar) → Starts types ts (start types so ts)
  starts_are so = by_reserved (front_reserved ts) refl (name_start types so (front_word ts)) (by_name so (front_word ts) refl)

-- ---- specifiers

-- A piece was taken.
pub record TookPiece (types : List NameId) (limit : ℕ) (ts : List Token) (x : Read Piece) : Type 0 where
  pub span : List Token
  pub split : Splits ts span x.rest
  pub good : APiece types x.height x.it span
  pub low : x.height ≤ limit

-- Pieces were added to those before.
record TookPieces (types : List NameId) (limit : ℕ) (g : Gathered) (h : ℕ) (ts : List Token) (x : Read Gathered) : Type 0 where
  pub ps : List Piece
  pub height : ℕ
  pub span : List Token
  pub split : Splits ts span x.rest
  pub pieces : Pieces types height ps span
  pub tall : x.height ≡ max h height
  pub whole : with_pieces g ps ≡ Some x.it
  pub low : height ≤ limit

-- What stands in braces, and the closing brace.
record Braced (ts rest : List Token) (Good : List Token → Type 0) : Type 0 where
  pub span : List Token
  pub close : Pos
  pub split : Splits ts (span ++ punct sign.RightBrace close ∷ []) rest
  pub good : Good span

module _ (types : List NameId) (limit below : ℕ) (inner : Wanted → Parse Phrase) (parts : SoundParts types below limit inner) where
  -- ---- the lines of a struct or union

  padding_took : (ts : List Token) (x : Read Part) → is_colon (front ts) ≡ true → r.padding types limit inner ts ≡ Some x → Item (IsPart types) ts x
  unfolding r.padding
  padding_took ts x there is =
      let o = front_is ts sign.Colon (colon (front ts) there) in
      let w = bind_some (r.inner_expr types limit inner Choice (behind ts)) _ x is in
      let v = parts.expr Choice (behind ts) w.value w.is in
      given (λ (y : Read Part). Item (IsPart types) ts y) _ x w.gives
      (record {
        span = punct sign.Colon (first_pos ts) ∷ v.span;
        split = glue o (record { is = v.split });
        good =
            a_padding (first_pos ts) v.spelled;
      })

  with_width_took : (ts : List Token) (t : Read Declared) → r.inner_declarator types limit inner naming.Member ts ≡ Some t → (x : Read Part)
      → r.with_width types limit inner t ≡ Some x → Item (IsPart types) ts x
  unfolding r.with_width
  with_width_took ts t there x is =
      let d = parts.declarator naming.Member ts t there in
      ⊎_elim
      (λ y. let o = front_is t.rest sign.Colon (colon (front t.rest) y.0) in
      let w = bind_some (r.inner_expr types limit inner Choice (behind t.rest)) _ x y.1 in
      let v = parts.expr Choice (behind t.rest) w.value w.is in
      given (λ (z : Read Part). Item (IsPart types) ts z) _ x w.gives
      (record {
        span = d.span ++ punct sign.Colon (first_pos t.rest) ∷ v.span;
        split =
            glue (record { is = d.split }) (glue o (record { is = v.split }));
        good = a_bit_field (first_pos t.rest) d.spelled v.spelled;
      }))
      (λ y. given (λ (z : Read Part). Item (IsPart types) ts z) _ x y.1
      (record { span = d.span; split = record { is = d.split }; good = a_plain_part d.spelled }))
      (if_is (is_colon (front t.rest)) (r.inner_expr types limit inner Choice (behind t.rest) >>= λ w.
      Some (read (r.part_of types limit inner (Some t.it.declarator) (Some w.it.tree)) (max t.height w.height) w.rest))
      (Some (read (r.part_of types limit inner (Some t.it.declarator) None) t.height t.rest)) (Some x) is)

  part_took : (ts : List Token) (x : Read Part) → r.part types limit inner ts ≡ Some x → Item (IsPart types) ts x
  unfolding r.part
  part_took ts x is = ⊎_elim
      (λ y. padding_took ts x y.0 y.1)
      (λ y. let t = bind_some (r.inner_declarator types limit inner naming.Member ts) (r.with_width types limit inner) x y.1 in
      with_width_took ts t.value t.is x t.gives)
      (if_is (is_colon (front ts)) (r.padding types limit inner ts)
      (r.inner_declarator types limit inner naming.Member ts >>= r.with_width types limit inner) (Some x) is)

  lone_took : (ts : List Token) (s : Read Specified) → TakesSpecs types below ts s → is_semicolon (front s.rest) ≡ true → (f : BodyForm)
      → s.it.form ≡ f → (x : Read Member) → r.lone_member types limit inner f s ≡ Some x → Item (IsMember types) ts x
  lone_took ts s t there form.Untagged f x is = given (λ (z : Read Member). Item (IsMember types) ts z) _ x is
      (record {
        span = t.span ++ punct sign.Semicolon (first_pos s.rest) ∷ [];
        split =
            glue (record { is = t.split }) (front_is s.rest sign.Semicolon (semicolon (front s.rest) there));
        good =
            an_untagged (first_pos s.rest) t.spelled f;
      })
  lone_took ts s t there _ f x is = absurd cc

  parts_took : (ts : List Token) (s : Read Specified) → TakesSpecs types below ts s → (x : Read Member) → r.parts types limit inner s
      ≡ Some x → Item (IsMember types) ts x
  unfolding r.parts
  parts_took ts s t x is =
      let xs = bind_some (commas (r.part types limit inner) with_item never (length s.rest) [] 0 s.rest) _ x is in
      let c = bind_some (taking is_semicolon xs.value.rest) _ x xs.gives in
      let b = between never (IsPart types) s.rest xs.value (commas_took (r.part types limit inner) with_item never (IsPart types) part_took
      (length s.rest) [] 0 s.rest xs.value xs.is) in
      let split : Splits s.rest b.span xs.value.rest = subst (λ (u : List Token). Splits s.rest u xs.value.rest)
      (ap (λ (u : List Token). b.span ++ u) (no_tail xs.value.it.comma b.ending) ∙ append-nil b.span) b.split in
      let close = taken is_semicolon sign.Semicolon semicolon xs.value.rest c.value c.is in
      given (λ (z : Read Member). Item (IsMember types) ts z) _ x c.gives
      (record {
        span = t.span ++ (b.span ++ punct sign.Semicolon (first_pos xs.value.rest) ∷ []);
        split =
            glue (record { is = t.split }) (glue split close);
        good = a_member (first_pos xs.value.rest) t.spelled (parts_of b.chained);
      })

  member_took : (ts : List Token) (x : Read Member) → r.member types limit inner ts ≡ Some x → Item (IsMember types) ts x
  unfolding r.member
  member_took ts x is =
      let s = bind_some (r.inner_specs types limit inner ts) (λ s. if is_semicolon (front s.rest) then
      r.lone_member types limit inner s.it.form s else r.parts types limit inner s) x is in
      let t = parts.specs ts s.value s.is in
      ⊎_elim
      (λ y. lone_took ts s.value t y.0 s.value.it.form refl x y.1)
      (λ y. parts_took ts s.value t x y.1)
      (if_is (is_semicolon (front s.value.rest)) (r.lone_member types limit inner s.value.it.form s.value) (r.parts types limit inner s.value) (Some x) s.gives)

  members_took : (ts : List Token) (x : Read (List Member)) → many (r.member types limit inner) with_item is_right_brace (length ts) [] 0 ts
      ≡ Some x → Braced ts (behind x.rest) (λ s. Members types x.height x.it s)
  members_took ts x is =
      let t = rows is_right_brace (IsMember types) ts x (many_took (r.member types limit inner) with_item is_right_brace (IsMember types)
      member_took (length ts) [] 0 ts x is) in
      record {
        span = t.span;
        close = first_pos x.rest;
        split =
            glue t.split (front_is x.rest sign.RightBrace (right_brace (front x.rest) t.ended));
        good = members_of t.row;
      }

  -- ---- structs and unions

  -- a struct without a tag, behind its brace
  bare_record_took : (ts us vs : List Token) (w : Reserved) (u : Bool) → record_word w ≡ Some u → One ts (reserved w (first_pos ts)) us
      → One us (punct sign.LeftBrace (first_pos us)) vs
      → (x : Read Piece) → r.record_body types limit inner u (first_pos ts) None vs ≡ Some x → TookPiece types limit ts x
  unfolding r.record_body
  bare_record_took ts us vs w u row o l x is =
      let xs = bind_some (many (r.member types limit inner) with_item is_right_brace (length vs) [] 0 vs) _ x is in
      let m = members_took vs xs.value xs.is in
      node_is (λ (y : Read Piece). TookPiece types limit ts y) limit
      (r.record_piece types limit inner u (first_pos ts) None (Some xs.value.it) form.Untagged) xs.value.height (behind xs.value.rest) x xs.gives
      (λ low. record {
        span = reserved w (first_pos ts) ∷ punct sign.LeftBrace (first_pos us) ∷ (m.span ++ punct sign.RightBrace m.close ∷ []);
        split = glue o (glue l m.split);
        good = a_record_body w u (first_pos ts) (first_pos us) m.close row m.good;
        low = low;
      })

  -- a struct with a tag, behind its brace
  whole_record_took : (ts us vs ws : List Token) (w : Reserved) (u : Bool) (tag : NameId) → record_word w ≡ Some u
      → One ts (reserved w (first_pos ts)) us → One us (word tag (first_pos us)) vs
      → One vs (punct sign.LeftBrace (first_pos vs)) ws → (x : Read Piece) → r.record_body types limit inner u (first_pos us) (Some tag) ws
      ≡ Some x → TookPiece types limit ts x
  unfolding r.record_body
  whole_record_took ts us vs ws w u tag row o n l x is =
      let xs = bind_some (many (r.member types limit inner) with_item is_right_brace (length ws) [] 0 ws) _ x is in
      let m = members_took ws xs.value xs.is in
      node_is (λ (y : Read Piece). TookPiece types limit ts y) limit
      (r.record_piece types limit inner u (first_pos us) (Some tag) (Some xs.value.it) form.WithBody) xs.value.height
      (behind xs.value.rest) x xs.gives
      (λ low. record {
        span = reserved w (first_pos ts) ∷ word tag (first_pos us) ∷ punct sign.LeftBrace (first_pos vs) ∷ (m.span ++ punct sign.RightBrace m.close ∷ []);
        split = glue o (glue n (glue l m.split));
        good = a_record_whole w u tag (first_pos ts) (first_pos us) (first_pos vs) m.close row m.good;
        low = low;
      })

  tagged_record_took : (ts us vs : List Token) (w : Reserved) (u : Bool) (tag : NameId) → record_word w ≡ Some u
      → One ts (reserved w (first_pos ts)) us → One us (word tag (first_pos us)) vs
      → (x : Read Piece) → r.tagged_record types limit inner u (first_pos us) tag vs ≡ Some x → TookPiece types limit ts x
  unfolding r.tagged_record
  tagged_record_took ts us vs w u tag row o n x is = ⊎_elim
      (λ y. whole_record_took ts us vs (behind vs) w u tag row o n (front_is vs sign.LeftBrace (left_brace (front vs) y.0)) x y.1)
      (λ y. given (λ (z : Read Piece). TookPiece types limit ts z) _ x y.1
      (record {
        span = reserved w (first_pos ts) ∷ word tag (first_pos us) ∷ [];
        split = glue o n;
        good =
            a_record w u tag (first_pos ts) (first_pos us) row;
        low = omega arith;
      }))
      (if_is (is_left_brace (front vs)) (r.record_body types limit inner u (first_pos us) (Some tag) (behind vs))
      (Some (read (r.record_piece types limit inner u (first_pos us) (Some tag) None form.NoBody) 0 vs)) (Some x) is)

  record_took : (ts us : List Token) (w : Reserved) (u : Bool) → record_word w ≡ Some u → One ts (reserved w (first_pos ts)) us
      → (tag : Option NameId) → front_word us ≡ tag
      → (x : Read Piece) → r.record_by types limit inner u (first_pos ts) tag us ≡ Some x → TookPiece types limit ts x
  unfolding r.record_by
  record_took ts us w u row o (Some tag) n x is = tagged_record_took ts us (behind us) w u tag row o (front_word_is us tag n) x is
  record_took ts us w u row o None n x is = let y = test_is (is_left_brace (front us))
      (r.record_body types limit inner u (first_pos ts) None (behind us)) x is in
      bare_record_took ts us (behind us) w u row o (front_is us sign.LeftBrace (left_brace (front us) y.0)) x y.1

  -- ---- enums

  -- an enumerator with a value, behind the `=`
  enumerator_set_took : (ts us vs : List Token) (w : NameId) → One ts (word w (first_pos ts)) us
      → One us (punct sign.Assign (first_pos us)) vs → (x : Read Enumerator)
      → (r.inner_expr types limit inner Choice vs >>= λ v. Some
      (read (r.enumerator_of types limit inner (first_pos ts) w (Some v.it.tree)) v.height v.rest)) ≡ Some x → Item (IsEnumerator types) ts x
  enumerator_set_took ts us vs w o q x is =
      let v = bind_some (r.inner_expr types limit inner Choice vs) _ x is in
      let t = parts.expr Choice vs v.value v.is in
      given (λ (z : Read Enumerator). Item (IsEnumerator types) ts z) _ x v.gives
      (record {
        span = word w (first_pos ts) ∷ punct sign.Assign (first_pos us) ∷ t.span;
        split = glue o (glue q (record { is = t.split }));
        good = an_enumerator_set w (first_pos ts) (first_pos us) t.spelled;
      })

  named_enumerator_took : (ts : List Token) (w : NameId) → One ts (word w (first_pos ts)) (behind ts) → (x : Read Enumerator)
      → (if is_equals (front (behind ts))
      then (r.inner_expr types limit inner Choice (behind (behind ts)) >>= λ v.
      Some (read (r.enumerator_of types limit inner (first_pos ts) w (Some v.it.tree)) v.height v.rest))
      else Some (read (r.enumerator_of types limit inner (first_pos ts) w None) 0 (behind ts))) ≡ Some x → Item (IsEnumerator types) ts x
  named_enumerator_took ts w o x is = ⊎_elim
      (λ y. enumerator_set_took ts (behind ts) (behind (behind ts)) w o (front_is (behind ts) sign.Assign (equals (front (behind ts)) y.0)) x y.1)
      (λ y. given (λ (z : Read Enumerator). Item (IsEnumerator types) ts z) _ x y.1
      (record { span = word w (first_pos ts) ∷ []; split = o; good = an_enumerator w (first_pos ts) }))
      (if_is (is_equals (front (behind ts))) (r.inner_expr types limit inner Choice (behind (behind ts)) >>= λ v.
      Some (read (r.enumerator_of types limit inner (first_pos ts) w (Some v.it.tree)) v.height v.rest))
      (Some (read (r.enumerator_of types limit inner (first_pos ts) w None) 0 (behind ts))) (Some x) is)

  enumerator_took : (ts : List Token) (x : Read Enumerator) → r.enumerator types limit inner ts ≡ Some x → Item (IsEnumerator types) ts x
  unfolding r.enumerator
  enumerator_took ts x is = let w = bind_some (front_word ts) _ x is in named_enumerator_took ts w.value (front_word_is ts w.value w.is) x w.gives

  enumerators_took : (ts : List Token) (x : Read (Listed (List Enumerator))) (rest : List Token)
      → commas (r.enumerator types limit inner) with_item is_right_brace (length ts) [] 0 ts ≡ Some x
      → taking is_right_brace x.rest ≡ Some rest → Braced ts rest (λ s. Enumerators types x.height x.it.items s)
  enumerators_took ts x rest is close =
      let b = between is_right_brace (IsEnumerator types) ts x
      (commas_took (r.enumerator types limit inner) with_item is_right_brace (IsEnumerator types) enumerator_took (length ts) [] 0 ts x is) in
      record {
        span = b.span ++ b.tail;
        close = first_pos x.rest;
        split =
            glue b.split (taken is_right_brace sign.RightBrace right_brace x.rest rest close);
        good = enumerators_and b.chained b.ending;
      }

  bare_enum_took : (ts us vs : List Token) → One ts (reserved key.Enum (first_pos ts)) us → One us (punct sign.LeftBrace (first_pos us)) vs
      → (x : Read Piece) → r.enum_body types limit inner (first_pos ts) None vs ≡ Some x → TookPiece types limit ts x
  unfolding r.enum_body
  bare_enum_took ts us vs o l x is =
      let xs = bind_some (commas (r.enumerator types limit inner) with_item is_right_brace (length vs) [] 0 vs) _ x is in
      let c = bind_some (taking is_right_brace xs.value.rest) _ x xs.gives in
      let m = enumerators_took vs xs.value c.value xs.is c.is in
      node_is (λ (y : Read Piece). TookPiece types limit ts y) limit
      (r.enum_piece types limit inner (first_pos ts) None (Some xs.value.it.items) form.WithBody) xs.value.height c.value x c.gives
      (λ low. record {
        span = reserved key.Enum (first_pos ts) ∷ punct sign.LeftBrace (first_pos us) ∷ (m.span ++ punct sign.RightBrace m.close ∷ []);
        split = glue o (glue l m.split);
        good = an_enum_body (first_pos ts) (first_pos us) m.close m.good;
        low = low;
      })

  whole_enum_took : (ts us vs ws : List Token) (tag : NameId) → One ts (reserved key.Enum (first_pos ts)) us
      → One us (word tag (first_pos us)) vs → One vs (punct sign.LeftBrace (first_pos vs)) ws
      → (x : Read Piece) → r.enum_body types limit inner (first_pos us) (Some tag) ws ≡ Some x → TookPiece types limit ts x
  unfolding r.enum_body
  whole_enum_took ts us vs ws tag o n l x is =
      let xs = bind_some (commas (r.enumerator types limit inner) with_item is_right_brace (length ws) [] 0 ws) _ x is in
      let c = bind_some (taking is_right_brace xs.value.rest) _ x xs.gives in
      let m = enumerators_took ws xs.value c.value xs.is c.is in
      node_is (λ (y : Read Piece). TookPiece types limit ts y) limit
      (r.enum_piece types limit inner (first_pos us) (Some tag) (Some xs.value.it.items) form.WithBody) xs.value.height c.value x c.gives
      (λ low. record {
        span = reserved key.Enum (first_pos ts) ∷ word tag (first_pos us) ∷ punct sign.LeftBrace (first_pos vs) ∷
            (m.span ++ punct sign.RightBrace m.close ∷ []);
        split = glue o (glue n (glue l m.split));
        good = an_enum_whole tag (first_pos ts) (first_pos us) (first_pos vs) m.close m.good;
        low = low;
      })

  tagged_enum_took : (ts us vs : List Token) (tag : NameId) → One ts (reserved key.Enum (first_pos ts)) us
      → One us (word tag (first_pos us)) vs → (x : Read Piece) → r.tagged_enum types limit inner (first_pos us) tag vs ≡ Some x
      → TookPiece types limit ts x
  unfolding r.tagged_enum
  tagged_enum_took ts us vs tag o n x is = ⊎_elim
      (λ y. whole_enum_took ts us vs (behind vs) tag o n (front_is vs sign.LeftBrace (left_brace (front vs) y.0)) x y.1)
      (λ y. given (λ (z : Read Piece). TookPiece types limit ts z) _ x y.1
      (record {
        span = reserved key.Enum (first_pos ts) ∷ word tag (first_pos us) ∷ [];
        split = glue o n;
        good =
            an_enum tag (first_pos ts) (first_pos us);
        low = omega arith;
      }))
      (if_is (is_left_brace (front vs)) (r.enum_body types limit inner (first_pos us) (Some tag) (behind vs))
      (Some (read (r.enum_piece types limit inner (first_pos us) (Some tag) None form.NoBody) 0 vs)) (Some x) is)

  enum_took : (ts us : List Token) → One ts (reserved key.Enum (first_pos ts)) us → (tag : Option NameId) → front_word us ≡ tag
      → (x : Read Piece) → r.enum_by types limit inner (first_pos ts) tag us ≡ Some x → TookPiece types limit ts x
  unfolding r.enum_by
  enum_took ts us o (Some tag) n x is = tagged_enum_took ts us (behind us) tag o (front_word_is us tag n) x is
  enum_took ts us o None n x is = let y = test_is (is_left_brace (front us)) (r.enum_body types limit inner (first_pos ts) None (behind us)) x is in
      bare_enum_took ts us (behind us) o (front_is us sign.LeftBrace (left_brace (front us) y.0)) x y.1

  -- ---- pieces

  piece_took : (s : Start) (ts : List Token) → Starts types ts s → (x : Read Piece) → r.piece_by types limit inner s ts ≡ Some x → TookPiece types limit ts x
  unfolding r.piece_by
  piece_took _ ts (a_storage w y row o) x is = given (λ (z : Read Piece). TookPiece types limit ts z) _ x is
      (record { span = reserved w (first_pos ts) ∷ []; split = o; good = a_storage_word w y (first_pos ts) row; low = omega arith })
  piece_took _ ts (a_word w y row o) x is = given (λ (z : Read Piece). TookPiece types limit ts z) _ x is
      (record { span = reserved w (first_pos ts) ∷ []; split = o; good = a_type_word w y (first_pos ts) row; low = omega arith })
  piece_took _ ts (the_record w u row o) x is = record_took ts (behind ts) w u row o (front_word (behind ts)) refl x is
  piece_took _ ts (the_enum o) x is = enum_took ts (behind ts) o (front_word (behind ts)) refl x is
  piece_took _ ts (a_type w row o) x is = given (λ (z : Read Piece). TookPiece types limit ts z) _ x is
      (record { span = word w (first_pos ts) ∷ []; split = o; good = a_typedef_name w (first_pos ts) row; low = omega arith })
  piece_took _ ts no_start x is = absurd cc

  onto_piece : (g : Gathered) (h : ℕ) (ts : List Token) (a : Read Piece) → TookPiece types limit ts a → (g_then : Gathered)
      → with_piece g a.it ≡ Some g_then → (x : Read Gathered)
      → TookPieces types limit g_then (max h a.height) a.rest x → TookPieces types limit g h ts x
  onto_piece g h ts a p g_then w x t = record {
    ps = a.it ∷ t.ps;
    height = max a.height t.height;
    span = p.span ++ t.span;
    split = glue p.split t.split;
    pieces = more_pieces p.good t.pieces;
    tall = (let e = t.tall in omega arith);
    whole = ap (λ (o : Option Gathered). o >>= λ f. with_pieces f t.ps) w ∙ t.whole;
    low = (let a_low = p.low in let t_low = t.low in omega arith);
  }

  gathering_took : (go : Gathered → ℕ → Parse Gathered) → ((g : Gathered) (h : ℕ) (us : List Token) (x : Read Gathered) → go g h us ≡ Some x
      → TookPieces types limit g h us x)
      → (s : Start) (g : Gathered) (h : ℕ) (ts : List Token) → Starts types ts s → (x : Read Gathered)
      → r.gathering types limit inner go s g h ts ≡ Some x → TookPieces types limit g h ts x
  unfolding r.gathering
  gathering_took go ih s g h ts begins x is = ⊎_elim
      (λ y. let a = bind_some (r.piece_by types limit inner s ts) (λ a. with_piece g a.it >>= λ f. go f (max h a.height) a.rest) x y.1 in
      let w = bind_some (with_piece g a.value.it) (λ f. go f (max h a.value.height) a.value.rest) x a.gives in
      onto_piece g h ts a.value (piece_took s ts begins a.value a.is) w.value w.is x (ih w.value (max h a.value.height) a.value.rest x w.gives))
      (λ y. given (λ (z : Read Gathered). TookPieces types limit g h ts z) _ x y.1
      (record { ps = []; height = 0; span = []; split = none ts; pieces = no_piece; tall = omega arith; whole = refl; low = omega arith }))
      (if_is (r.starts types limit inner s) (r.piece_by types limit inner s ts >>= λ a. with_piece g a.it >>= λ f.
      go f (max h a.height) a.rest) (Some (read g h ts)) (Some x) is)

  gather_took : (n : ℕ) (g : Gathered) (h : ℕ) (ts : List Token) (x : Read Gathered) → r.gather types limit inner n g h ts ≡ Some x
      → TookPieces types limit g h ts x
  unfolding r.gather
  gather_took zero g h ts x is = gathering_took (λ f m us. None) (λ f m us y bad. absurd cc) (start types g.so_far ts) g h ts
      (starts_are types ts g.so_far) x is
  gather_took (suc n) g h ts x is = gathering_took (λ f m us. r.gather types limit inner n f m us)
      (λ f m us y there. gather_took n f m us y there) (start types g.so_far ts) g h ts (starts_are types ts g.so_far) x is

  pub specs_took : (ts : List Token) (x : Read Specified) → r.specs types limit inner ts ≡ Some x → TakesSpecs types limit ts x
  unfolding r.specs
  specs_took ts x is =
      let g = bind_some (r.gather types limit inner (length ts) no_pieces 0 ts) _ x is in
      let f = bind_some (finished g.value.it) _ x g.gives in
      let t = gather_took (length ts) no_pieces 0 ts g.value g.is in
      let tall : t.height ≡ g.value.height = (let e = t.tall in omega arith) in
      given (λ (y : Read Specified). TakesSpecs types limit ts y) (read f.value g.value.height g.value.rest) x f.gives
      (record {
        span = t.span;
        split = t.split.is;
        spelled = subst (λ (m : ℕ). Specifies types m f.value t.span) tall
            (pieces t.pieces t.whole f.is);
        low = subst (λ (m : ℕ). m ≤ limit) tall t.low;
      })
