-- What is spelled is read: specifiers, and the members and enumerators between their braces. By recursion
-- on what spells them; parts under a node are read by `inner`.
use Rattle.std.proofs.Common.{◌≡◌, ℕ, zero, suc, ◌≤◌, max, Bool, true, false, not, ◌&&◌, ◌||◌, List, [], ◌∷◌, ◌++◌, length, Option, Some}
use Rattle.std.proofs.Common.{None, refl, sym, ap, ap₂, ◌∙◌, append_assoc, append-nil, arith, length-append}
use Rattle.std.proofs.lemmas.Bool.{and_parts, both_ways, not-true, or_parts}
use Rattle.sc_base.specs.declared.pos.Pos.{Pos}
use Rattle.sc_base.specs.declared.pos.NameId.{NameId}
use Rattle.sc_tree.specs.declared.token.Token.{Token}
use Rattle.sc_tree.specs.declared.token.Kind.{Kind}
use Rattle.sc_tree.specs.declared.token.Kind.TheVariants as k
use Rattle.sc_tree.specs.declared.token.Punct.TheVariants as sign
use Rattle.sc_tree.specs.declared.token.Reserved.{Reserved}
use Rattle.sc_tree.specs.declared.token.Reserved.TheVariants as key
use Rattle.sc_tree.specs.declared.expr.Storage.{Storage}
use Rattle.sc_tree.specs.declared.expr.Base.{Base}
use Rattle.sc_tree.specs.declared.expr.Base.TheVariants as base
use Rattle.sc_tree.specs.declared.expr.Member.{Member}
use Rattle.sc_tree.specs.declared.expr.Part.{Part}
use Rattle.sc_tree.specs.declared.expr.Enumerator.{Enumerator}
use Rattle.sc_tree.specs.declared.grammar.Level.TheVariants.{Choice}
use Rattle.sc_tree.specs.declared.grammar.Naming.TheVariants as naming
use Rattle.sc_tree.specs.declared.grammar.BodyForm.{BodyForm}
use Rattle.sc_tree.specs.declared.grammar.BodyForm.TheVariants as form
use Rattle.sc_tree.specs.declared.grammar.TypeWord.{TypeWord}
use Rattle.sc_tree.specs.declared.grammar.TypeWords.{TypeWords}
use Rattle.sc_tree.specs.declared.grammar.Piece.{Piece}
use Rattle.sc_tree.specs.declared.grammar.Piece.TheVariants as piece
use Rattle.sc_tree.specs.declared.grammar.SoFar.{SoFar}
use Rattle.sc_tree.specs.declared.grammar.SoFar.TheVariants.{Untyped, Words, Typed}
use Rattle.sc_tree.specs.declared.grammar.Gathered.{Gathered}
use Rattle.sc_tree.specs.declared.grammar.Specified.{Specified}
use Rattle.sc_tree.specs.declared.ctype.CType.{CType}
use Rattle.sc_tree.specs.Tokens.{word, punct}
use Rattle.sc_tree.specs.TypeWords.{storage_word, type_word, with_word, no_words, type_of}
use Rattle.sc_tree.specs.Specifiers.{no_pieces, words_so_far, typed, stored, gathered_as, with_piece, with_pieces, specified}
use Rattle.sc_tree.specs.Specifiers.{specified_words, finished_by, finished}
use Rattle.sc_tree.specs.Tables.{◌>>=◌}
use Rattle.sc_tree.specs.Grammar as g
use Rattle.sc_tree.specs.Grammar.{record_word, body_form, Spells, Specifies, pieces, Pieces, no_piece, more_pieces, APiece, Members}
use Rattle.sc_tree.specs.Grammar.{no_member, more_members, AMember, a_member, an_untagged, Parts, one_part, more_parts, APart, a_plain_part}
use Rattle.sc_tree.specs.Grammar.{a_bit_field, a_padding, Enumerators, last_enumerator, last_with_comma, more_enumerators, AnEnumerator}
use Rattle.sc_tree.specs.Grammar.{an_enumerator, an_enumerator_set, Declares}
use Rattle.sc_parse_expr.specs.declared.found.Wanted.{Wanted}
use Rattle.sc_parse_expr.specs.declared.found.Phrase.{Phrase}
use Rattle.sc_parse_front.specs.Front.{punct_of, reserved_of, front, front_word, front_reserved, is_left_brace, is_right_brace, is_colon}
use Rattle.sc_parse_front.specs.Front.{is_semicolon, is_equals, is_enum, is_some, begins_piece}
use Rattle.sc_parse_expr.specs.Read.{read, Parse, commas, many}
use Rattle.sc_parse_front.specs.Start.{Start, AStorage, AWord, ARecord, AnEnum, AName, NoStart, enum_start, record_start, word_start}
use Rattle.sc_parse_front.specs.Start.{storage_start, reserved_start, name_start, start}
use Rattle.sc_parse_expr.specs.Reading.{with_item, never, padding, with_width, part, parts, member, member_of, record_piece, record_body}
use Rattle.sc_parse_expr.specs.Reading.{tagged_record, record_by, enumerator, enum_piece, enum_body, tagged_enum, enum_by, piece_by, starts}
use Rattle.sc_parse_expr.specs.Reading.{gathering, gather, specs}
use Rattle.sc_parse_expr.specs.Laws.{ends_conditional, ends_specs, ends_declarator, opens_declarator}
use Rattle.sc_parse_expr.proofs.Begins.{Begins, by_first, longer, weaker, not_empty, opens_piece, piece_begins, piece_no_sign, specs_begin}
use Rattle.sc_parse_expr.proofs.Begins.{named_begins, expr_is_high, declarator_is_high}
use Rattle.sc_parse_expr.proofs.Inner.{no_value, node_is, has_turn, commas_last, commas_end, commas_more, many_end, many_more, IsInner}

-- ---- what a word begins

word_not_storage : (w : Reserved) (x : TypeWord) → type_word w ≡ Some x → storage_word w ≡ None
word_not_storage key.Typedef x e = absurd cc
word_not_storage key.Extern x e = absurd cc
word_not_storage key.Static x e = absurd cc
word_not_storage key.Inline x e = absurd cc
word_not_storage _ x e = refl

abbrev reserved_starts : Reserved → Start
reserved_starts w = storage_start (storage_word w) (word_start (type_word w) (record_start (record_word w) (enum_start (is_enum (Some w)))))

storage_starts : (w : Reserved) (x : Storage) → storage_word w ≡ Some x → reserved_starts w ≡ AStorage x
storage_starts w x e = rw e refl

word_starts : (w : Reserved) (x : TypeWord) → type_word w ≡ Some x → reserved_starts w ≡ AWord x
word_starts w x e = rw (word_not_storage w x e, e) refl

record_starts : (w : Reserved) (u : Bool) → record_word w ≡ Some u → reserved_starts w ≡ ARecord u
record_starts key.Struct u e = let same : false ≡ u = cc in ap (λ (z : Bool). ARecord z) same
record_starts key.Union u e = let same : true ≡ u = cc in ap (λ (z : Bool). ARecord z) same
record_starts _ u e = absurd cc

nothing_starts : (w : Reserved) → begins_piece (Some w) ≡ false → reserved_starts w ≡ NoStart
nothing_starts w e =
    let a = or_parts (is_some (storage_word w)) _ e in
    let b = or_parts (is_some (type_word w)) _ a.1 in
    let c = or_parts (is_some (record_word w)) _ b.1 in
    rw (no_value (storage_word w) a.0, no_value (type_word w) b.0, no_value (record_word w) c.0, c.1) refl

-- a finished type takes no typedef name
no_name_starts : (types : List NameId) (ss : List Storage) (so : SoFar) (f : Specified) (w : Option NameId) → finished_by ss so ≡ Some f
    → name_start types so w ≡ NoStart
no_name_starts types ss Untyped f w e = absurd cc
no_name_starts types ss (Words ws) f w e = refl
no_name_starts types ss (Typed b x) f w e = refl

none_starts : (types : List NameId) (ss : List Storage) (so : SoFar) (f : Specified) (o : Option Reserved) (w : Option NameId)
    → finished_by ss so ≡ Some f → begins_piece o ≡ false
    → reserved_start o (name_start types so w) ≡ NoStart
none_starts types ss so f None w e other = no_name_starts types ss so f w e
none_starts types ss so f (Some x) w e other = nothing_starts x other

-- a type by itself joins no other type
whole_alone : (so : SoFar) (b : Base) (f : BodyForm) (so2 : SoFar) → typed so (piece.Whole b f) ≡ Some so2 → so ≡ Untyped
whole_alone Untyped b f so2 e = refl
whole_alone _ b f so2 e = absurd cc

gathered_typed : (ss : List Storage) (o : Option SoFar) (x : Gathered) → gathered_as ss o ≡ Some x → (so : SoFar) × (o ≡ Some so) × (so ≡ x.so_far)
gathered_typed ss (Some so) x e = (so, refl, (let same : record { storage = ss; so_far = so } ≡ x = cc in ap (λ (z : Gathered). z.so_far) same))
gathered_typed ss None x e = absurd cc

bind_is : {A B : Type 0} (o : Option A) (f : A → Option B) (y : B) → (o >>= f) ≡ Some y → (x : A) × (o ≡ Some x) × (f x ≡ Some y)
bind_is (Some x) f y e = (x, refl, e)
bind_is None f y e = absurd cc

-- ---- a struct or union with a body and no tag is higher than 0

abbrev is_untagged : SoFar → Bool
is_untagged (Typed b form.Untagged) = true
is_untagged _ = false

words_tagged : (o : Option TypeWords) (so : SoFar) → words_so_far o ≡ Some so → is_untagged so ≡ false
words_tagged (Some ws) so e = let same : Words ws ≡ so = cc in ap is_untagged (sym same)
words_tagged None so e = absurd cc

word_tagged : (so : SoFar) (w : TypeWord) (so2 : SoFar) → typed so (piece.Word w) ≡ Some so2 → is_untagged so2 ≡ false
word_tagged Untyped w so2 e = words_tagged (with_word no_words w) so2 e
word_tagged (Words ws) w so2 e = words_tagged (with_word ws w) so2 e
word_tagged (Typed b f) w so2 e = absurd cc

whole_is : (so : SoFar) (b : Base) (f : BodyForm) (so2 : SoFar) → typed so (piece.Whole b f) ≡ Some so2 → Typed b f ≡ so2
whole_is Untyped b f so2 e = cc
whole_is (Words ws) b f so2 e = absurd cc
whole_is (Typed c x) b f so2 e = absurd cc

piece_is_high : {types : List NameId} {m : ℕ} {x : Piece} {s : List Token} → APiece types m x s → (so so2 : SoFar) (h : ℕ) → typed so x
    ≡ Some so2 → (is_untagged so ≡ true → 1 ≤ h) → is_untagged so2 ≡ true → 1 ≤ max h m
piece_is_high (g.a_storage_word w x p e) so so2 h is high un =
    let same : so ≡ so2 = cc in
    let low = high (ap is_untagged same ∙ un) in omega arith
piece_is_high (g.a_type_word w x p e) so so2 h is high un = absurd (both_ways (is_untagged so2) (word_tagged so x so2 is) un)
piece_is_high (g.a_typedef_name w p e) so so2 h is high un = absurd (both_ways (is_untagged so2) (ap is_untagged (sym (whole_is so _ _ so2 is))) un)
piece_is_high (g.a_record w u tag p q e) so so2 h is high un = absurd (both_ways (is_untagged so2) (ap is_untagged (sym (whole_is so _ _ so2 is))) un)
piece_is_high (g.a_record_body w u p q o e ms) so so2 h is high un = omega arith
piece_is_high (g.a_record_whole w u tag p q o v e ms) so so2 h is high un = omega arith
piece_is_high (g.an_enum tag p q) so so2 h is high un = absurd (both_ways (is_untagged so2) (ap is_untagged (sym (whole_is so _ _ so2 is))) un)
piece_is_high (g.an_enum_body p q o xs) so so2 h is high un = omega arith
piece_is_high (g.an_enum_whole tag p q o v xs) so so2 h is high un = omega arith

pieces_are_high : {types : List NameId} {m : ℕ} {ps : List Piece} {s : List Token} → Pieces types m ps s → (x y : Gathered) (h : ℕ)
    → with_pieces x ps ≡ Some y → (is_untagged x.so_far ≡ true → 1 ≤ h)
    → is_untagged y.so_far ≡ true → 1 ≤ max h m
pieces_are_high no_piece x y h e high un =
    let same : x ≡ y = cc in
    let low = high (ap (λ (z : Gathered). is_untagged z.so_far) same ∙ un) in omega arith
pieces_are_high (more_pieces {h = i} {m = j} {x = p} {xs = ps} d more) x y h e high un =
    let step = bind_is (with_piece x p) (λ z. with_pieces z ps) y e in
    let so = gathered_typed (stored x.storage p) (typed x.so_far p) step.0 step.1 in
    let low = pieces_are_high more step.0 y (max h i) step.2 (λ u.
    piece_is_high d x.so_far step.0.so_far h (so.1 ∙ ap (λ (z : SoFar). Some z) so.2) high u) un in
    omega arith

words_form : {A : Type 0} (ss : List Storage) (t : Option CType) (f : Specified) → specified_words ss t ≡ Some f → f.form ≡ form.Untagged → A
words_form ss (Some t) f e un =
    let same : specified ss (base.Words t) form.NoBody ≡ f = cc in
    let bad : form.NoBody ≡ form.Untagged = ap (λ (z : Specified). z.form) same ∙ un in absurd cc
words_form ss None f e un = absurd cc

form_untagged : (b : Base) (x : BodyForm) → x ≡ form.Untagged → is_untagged (Typed b x) ≡ true
form_untagged b x e = ap (λ (z : BodyForm). is_untagged (Typed b z)) e

finished_untagged : (ss : List Storage) (so : SoFar) (f : Specified) → finished_by ss so ≡ Some f → f.form ≡ form.Untagged → is_untagged so ≡ true
finished_untagged ss Untyped f e un = absurd cc
finished_untagged ss (Words ws) f e un = words_form ss (type_of ws) f e un
finished_untagged ss (Typed b x) f e un =
    let same : specified ss b x ≡ f = cc in
    form_untagged b x (ap (λ (z : Specified). z.form) same ∙ un)

pub untagged_is_high : {types : List NameId} {h : ℕ} {f : Specified} {s : List Token} → Specifies types h f s → f.form ≡ form.Untagged → 1 ≤ h
untagged_is_high (pieces {g = x} {f = f} d e done) un =
    let low = pieces_are_high d no_pieces x 0 e (λ bad. absurd cc) (finished_untagged x.storage x.so_far f done un) in
    omega arith

-- ---- how members and enumerators begin

-- a token that may begin a member of a line
abbrev opens_part : Kind → Bool
opens_part x = is_colon (punct_of x) || opens_declarator x

declarator_opens_part : (x : Kind) → opens_declarator x ≡ true → opens_part x ≡ true
declarator_opens_part (k.Word w) e = refl
declarator_opens_part (k.Punct sign.Star) e = refl
declarator_opens_part (k.Punct sign.LeftParen) e = refl
declarator_opens_part (k.Punct _) e = absurd cc
declarator_opens_part _ e = absurd cc

part_begins : (types : List NameId) {h : ℕ} {x : Part} {s : List Token} → APart types h x s → Begins opens_part s
part_begins types (a_plain_part d) = weaker declarator_opens_part (named_begins types refl d)
part_begins types (a_bit_field p d x) = longer (weaker declarator_opens_part (named_begins types refl d)) _
part_begins types (a_padding {s = s} p x) = record { first = punct sign.Colon p; others = s; whole = refl; opens = refl }

parts_begin : (types : List NameId) {h : ℕ} {xs : List Part} {s : List Token} → Parts types h xs s → Begins opens_part s
parts_begin types (one_part x) = part_begins types x
parts_begin types (more_parts p x more) = longer (part_begins types x) _

part_is_high : {types : List NameId} {h : ℕ} {x : Part} {s : List Token} → APart types h x s → 1 ≤ h
part_is_high (a_plain_part d) = declarator_is_high d
part_is_high (a_bit_field p d x) = let low = declarator_is_high d in omega arith
part_is_high (a_padding p x) = expr_is_high x

parts_are_high : {types : List NameId} {h : ℕ} {xs : List Part} {s : List Token} → Parts types h xs s → 1 ≤ h
parts_are_high (one_part x) = part_is_high x
parts_are_high (more_parts p x more) = let low = part_is_high x in omega arith

kind_part_ends : (x : Kind) → opens_part x ≡ true → (not (begins_piece (reserved_of x)) && not (is_left_brace (punct_of x))) ≡ true
kind_part_ends (k.Punct sign.LeftBrace) e = absurd cc
kind_part_ends (k.Punct _) e = refl
kind_part_ends (k.Word w) e = refl
kind_part_ends _ e = absurd cc

kind_part_sign : (x : Kind) → opens_part x ≡ true → is_semicolon (punct_of x) ≡ false
kind_part_sign (k.Punct sign.Semicolon) e = absurd cc
kind_part_sign (k.Punct _) e = refl
kind_part_sign _ e = refl

kind_name_sign : (x : Kind) → opens_declarator x ≡ true → is_colon (punct_of x) ≡ false
kind_name_sign (k.Punct sign.Colon) e = absurd cc
kind_name_sign (k.Punct _) e = refl
kind_name_sign _ e = refl

part_ends_specs : {s : List Token} → Begins opens_part s → ends_specs s ≡ true
part_ends_specs b = by_first ends_specs true b (λ t ts e. kind_part_ends t.kind e)

no_semicolon : {s : List Token} → Begins opens_part s → is_semicolon (front s) ≡ false
no_semicolon b = by_first (λ s. is_semicolon (front s)) false b (λ t ts e. kind_part_sign t.kind e)

no_colon : {s : List Token} → Begins opens_declarator s → is_colon (front s) ≡ false
no_colon b = by_first (λ s. is_colon (front s)) false b (λ t ts e. kind_name_sign t.kind e)

member_begins : (types : List NameId) {h : ℕ} {x : Member} {s : List Token} → AMember types h x s → Begins (opens_piece types) s
member_begins types (a_member p d xs) = longer (specs_begin types d) _
member_begins types (an_untagged p d e) = longer (specs_begin types d) _

abbrev is_word : Kind → Bool
is_word (k.Word w) = true
is_word _ = false

enumerator_begins : {types : List NameId} {h : ℕ} {x : Enumerator} {s : List Token} → AnEnumerator types h x s → Begins is_word s
enumerator_begins (an_enumerator w p) = record { first = word w p; others = []; whole = refl; opens = refl }
enumerator_begins (an_enumerator_set {s = s} w p q x) = record { first = word w p; others = punct sign.Assign q ∷ s; whole = refl; opens = refl }

enumerators_begin : {types : List NameId} {h : ℕ} {xs : List Enumerator} {s : List Token} → Enumerators types h xs s → Begins is_word s
enumerators_begin (last_enumerator x) = enumerator_begins x
enumerators_begin (last_with_comma p x) = longer (enumerator_begins x) _
enumerators_begin (more_enumerators p x more) = longer (enumerator_begins x) _

kind_word_sign : (x : Kind) → is_word x ≡ true → punct_of x ≡ None
kind_word_sign (k.Word w) e = refl
kind_word_sign _ e = absurd cc

word_no_sign : {s : List Token} → Begins is_word s → front s ≡ None
word_no_sign b = by_first front None b (λ t ts e. kind_word_sign t.kind e)

-- ---- what follows

ends_piece : (ts : List Token) → ends_specs ts ≡ true → begins_piece (front_reserved ts) ≡ false
ends_piece ts e = not-true (begins_piece (front_reserved ts)) (and_parts (not (begins_piece (front_reserved ts))) _ e).0

ends_brace : (ts : List Token) → ends_specs ts ≡ true → is_left_brace (front ts) ≡ false
ends_brace ts e = not-true (is_left_brace (front ts)) (and_parts (not (begins_piece (front_reserved ts))) _ e).1

pieces_no_brace : (types : List NameId) {h : ℕ} {ps : List Piece} {s : List Token} → Pieces types h ps s → (rest : List Token)
    → is_left_brace (front rest) ≡ false → is_left_brace (front (s ++ rest)) ≡ false
pieces_no_brace types no_piece rest other = other
pieces_no_brace types (more_pieces {r = r} x more) rest other = ap is_left_brace (piece_no_sign types (longer (longer (piece_begins types x) r) rest))

-- ---- the reading

module _ (types : List NameId) (below : ℕ) (inner : Wanted → Parse Phrase) where
  gather_stop : (n : ℕ) (x : Gathered) (h : ℕ) (ts : List Token) → start types x.so_far ts ≡ NoStart
      → gather types (suc below) inner n x h ts ≡ Some (read x h ts)
  unfolding gather gathering
  gather_stop zero x h ts e = rw e refl
  gather_stop (suc n) x h ts e = rw e refl

  gather_more : (n : ℕ) (x y : Gathered) (h : ℕ) (ts : List Token) (s : Start) (p : Piece) (high : ℕ) (rest : List Token)
      → start types x.so_far ts ≡ s → starts types (suc below) inner s ≡ true
      → piece_by types (suc below) inner s ts ≡ Some (read p high rest) → with_piece x p ≡ Some y
      → gather types (suc below) inner (suc n) x h ts ≡ gather types (suc below) inner n y (max h high) rest
  unfolding gather gathering
  gather_more n x y h ts s p high rest e real one two = rw (e, real, one, two) refl

  record PieceRead (so : SoFar) (x : Piece) (h : ℕ) (s rest : List Token) : Type 0 where
    begun : Start
    is : start types so (s ++ rest) ≡ begun
    real : starts types (suc below) inner begun ≡ true
    one : piece_by types (suc below) inner begun (s ++ rest) ≡ Some (read x h rest)

module _ (types : List NameId) (below : ℕ) (inner : Wanted → Parse Phrase) (known : IsInner types below inner) where
  -- ---- members

  part_read : {m : ℕ} {x : Part} {s : List Token} → APart types m x s → m ≤ below → (rest : List Token) → ends_conditional rest ≡ true
      → ends_declarator rest ≡ true → is_colon (front rest) ≡ false
      → part types (suc below) inner (s ++ rest) ≡ Some (read x m rest)
  unfolding part padding with_width
  part_read (a_plain_part {c = c} {h = h} {t = t} {s = s} d) low rest ends_e ends_d colon =
      rw (no_colon (longer (named_begins types refl d) rest), known.declarator naming.Member c h t s rest d low ends_d, colon) refl
  part_read (a_bit_field {c = c} {h = h} {m = m} {t = t} {w = w} {s = s} {r = r} p d x) low rest ends_e ends_d colon =
      let one = known.declarator naming.Member c h t s (punct sign.Colon p ∷ (r ++ rest)) d (omega arith) refl in
      let two = known.expr Choice m w r rest x (omega arith) ends_e in
      rw (append_assoc s (punct sign.Colon p ∷ r) rest, no_colon (longer (named_begins types refl d) (punct sign.Colon p ∷ (r ++ rest))), one, two.1) refl
  part_read (a_padding {h = h} {w = w} {s = s} p x) low rest ends_e ends_d colon =
      let one = known.expr Choice h w s rest x low ends_e in
      rw one.1 refl

  parts_read : {m : ℕ} {xs : List Part} {s : List Token} → Parts types m xs s → m ≤ below → (n : ℕ) → length s ≤ n
      → (acc : List Part) (h : ℕ) (q : Pos) (rest : List Token)
      → commas (part types (suc below) inner) with_item never n acc h (s ++ punct sign.Semicolon q ∷ rest)
      ≡ Some (read (record { items = acc ++ xs; comma = false }) (max h m) (punct sign.Semicolon q ∷ rest))
  parts_read (one_part {h = m} {x = x} {s = s} d) low n room acc h q rest =
      let one = part_read d low (punct sign.Semicolon q ∷ rest) refl refl refl in
      let some = not_empty (part_begins types d) in
      let turn = has_turn n (omega (arith, room, some)) in
      rw turn.1 (commas_last (part types (suc below) inner) with_item never turn.0 acc h (s ++ punct sign.Semicolon q ∷ rest) x m
      (punct sign.Semicolon q ∷ rest) one refl)
  parts_read (more_parts {h = m} {m = j} {x = x} {xs = xs} {s = s} {r = r} p d more) low n room acc h q rest =
      let one = part_read d (omega arith) (punct sign.Comma p ∷ (r ++ punct sign.Semicolon q ∷ rest)) refl refl refl in
      let long = length-append s (punct sign.Comma p ∷ r) in
      let turn = has_turn n (omega (arith, room, long)) in
      let same = turn.1 in
      let step = commas_more (part types (suc below) inner) with_item never turn.0 acc h
      (s ++ punct sign.Comma p ∷ (r ++ punct sign.Semicolon q ∷ rest)) x m p (r ++ punct sign.Semicolon q ∷ rest) one refl in
      let others = parts_read more (omega arith) turn.0 (omega (arith, room, long, same)) (acc ++ x ∷ []) (max h m) q rest in
      rw (same, append_assoc s (punct sign.Comma p ∷ r) (punct sign.Semicolon q ∷ rest))
      (step ∙ (others ∙ ap₂ (λ (z : List Part) (w : ℕ). Some (read (record { items = z; comma = false }) w (punct sign.Semicolon q ∷ rest)))
      (append_assoc acc (x ∷ []) xs) (omega arith)))

  member_read : {m : ℕ} {x : Member} {s : List Token} → AMember types m x s → m ≤ below → (rest : List Token)
      → member types (suc below) inner (s ++ rest) ≡ Some (read x m rest)
  unfolding member parts
  member_read (a_member {h = h} {m = m} {f = f} {xs = xs} {s = s} {r = r} p d more) low rest =
      let tail = punct sign.Semicolon p ∷ rest in
      let high = parts_are_high more in
      let begins = longer (parts_begin types more) tail in
      let one = known.specs h f s (r ++ tail) d (omega arith) (omega arith) (part_ends_specs begins) in
      let long = length-append r tail in
      let all = parts_read more (omega arith) (length (r ++ tail)) (omega (arith, long)) [] 0 p rest in
      let flat : (s ++ (r ++ punct sign.Semicolon p ∷ [])) ++ rest ≡ s ++ (r ++ tail) =
      append_assoc s (r ++ punct sign.Semicolon p ∷ []) rest
      ∙ ap (λ (z : List Token). s ++ z) (append_assoc r (punct sign.Semicolon p ∷ []) rest) in
      let top : max h (max 0 m) ≡ max h m = omega arith in
      rw (flat, one, no_semicolon begins, all) (ap (λ (w : ℕ). Some (read (member_of types (suc below) inner f.specs xs) w rest)) top)
  member_read (an_untagged {h = h} {f = f} {s = s} p d e) low rest =
      let high = untagged_is_high d e in
      let one = known.specs h f s (punct sign.Semicolon p ∷ rest) d low (omega arith) refl in
      rw (append_assoc s (punct sign.Semicolon p ∷ []) rest, one, e) refl

  members_read : {m : ℕ} {xs : List Member} {s : List Token} → Members types m xs s → m ≤ below → (n : ℕ) → length s ≤ n
      → (acc : List Member) (h : ℕ) (q : Pos) (rest : List Token)
      → many (member types (suc below) inner) with_item is_right_brace n acc h (s ++ punct sign.RightBrace q ∷ rest)
      ≡ Some (read (acc ++ xs) (max h m) (punct sign.RightBrace q ∷ rest))
  members_read no_member low n room acc h q rest =
      many_end (member types (suc below) inner) with_item is_right_brace n acc h (punct sign.RightBrace q ∷ rest) refl
      ∙ ap₂ (λ (z : List Member) (w : ℕ). Some (read z w (punct sign.RightBrace q ∷ rest))) (sym (append-nil acc)) (omega arith)
  members_read (more_members {h = m} {m = j} {x = x} {xs = xs} {s = s} {r = r} d more) low n room acc h q rest =
      let tail = punct sign.RightBrace q ∷ rest in
      let begins = member_begins types d in
      let one = member_read d (omega arith) (r ++ tail) in
      let some = not_empty begins in
      let long = length-append s r in
      let turn = has_turn n (omega (arith, room, long, some)) in
      let same = turn.1 in
      let no_brace : is_right_brace (front (s ++ (r ++ tail))) ≡ false = ap is_right_brace (piece_no_sign types (longer begins (r ++ tail))) in
      let step = many_more (member types (suc below) inner) with_item is_right_brace turn.0 acc h (s ++ (r ++ tail)) x m (r ++ tail) no_brace one in
      let others = members_read more (omega arith) turn.0 (omega (arith, room, long, some, same)) (acc ++ x ∷ []) (max h m) q rest in
      rw (same, append_assoc s r tail)
      (step ∙ (others ∙ ap₂ (λ (z : List Member) (w : ℕ). Some (read z w tail)) (append_assoc acc (x ∷ []) xs) (omega arith)))

  record_body_read : {m : ℕ} {xs : List Member} {s : List Token} → Members types m xs s → m ≤ below
      → (u : Bool) (p : Pos) (tag : Option NameId) (q : Pos) (rest : List Token)
      → record_body types (suc below) inner u p tag (s ++ punct sign.RightBrace q ∷ rest)
      ≡ Some (read (record_piece types (suc below) inner u p tag (Some xs) (body_form tag)) (suc m) rest)
  unfolding record_body
  record_body_read {m = m} {xs = xs} {s = s} d low u p tag q rest =
      let long = length-append s (punct sign.RightBrace q ∷ rest) in
      let all = members_read d low (length (s ++ punct sign.RightBrace q ∷ rest)) (omega (arith, long)) [] 0 q rest in
      let top : max 0 m ≡ m = omega arith in
      rw (all, top) (node_is below (record_piece types (suc below) inner u p tag (Some xs) (body_form tag)) m rest low)

  -- ---- enumerators

  enumerator_read : {m : ℕ} {x : Enumerator} {s : List Token} → AnEnumerator types m x s → m ≤ below → (rest : List Token)
      → ends_conditional rest ≡ true → is_equals (front rest) ≡ false
      → enumerator types (suc below) inner (s ++ rest) ≡ Some (read x m rest)
  unfolding enumerator
  enumerator_read (an_enumerator w p) low rest ends equals = rw equals refl
  enumerator_read (an_enumerator_set {h = h} {v = v} {s = s} w p q x) low rest ends equals =
      let one = known.expr Choice h v s rest x low ends in
      rw one.1 refl

  enumerators_read : {m : ℕ} {xs : List Enumerator} {s : List Token} → Enumerators types m xs s → m ≤ below → (n : ℕ) → length s ≤ n
      → (acc : List Enumerator) (h : ℕ) (q : Pos) (rest : List Token)
      → (c : Bool) × (commas (enumerator types (suc below) inner) with_item is_right_brace n acc h (s ++ punct sign.RightBrace q ∷ rest)
      ≡ Some (read (record { items = acc ++ xs; comma = c }) (max h m) (punct sign.RightBrace q ∷ rest)))
  enumerators_read (last_enumerator {h = m} {x = x} {s = s} d) low n room acc h q rest =
      let one = enumerator_read d low (punct sign.RightBrace q ∷ rest) refl refl in
      let some = not_empty (enumerator_begins d) in
      let turn = has_turn n (omega (arith, room, some)) in (
        false,
        rw turn.1 (commas_last (enumerator types (suc below) inner) with_item is_right_brace turn.0 acc h
            (s ++ punct sign.RightBrace q ∷ rest) x m (punct sign.RightBrace q ∷ rest) one refl),
      )
  enumerators_read (last_with_comma {h = m} {x = x} {s = s} p d) low n room acc h q rest =
      let tail = punct sign.RightBrace q ∷ rest in
      let one = enumerator_read d low (punct sign.Comma p ∷ tail) refl refl in
      let long = length-append s (punct sign.Comma p ∷ []) in
      let turn = has_turn n (omega (arith, room, long)) in (
        true,
        rw (turn.1, append_assoc s (punct sign.Comma p ∷ []) tail)
            (commas_end (enumerator types (suc below) inner) with_item is_right_brace turn.0 acc h (s ++ punct sign.Comma p ∷ tail) x m p tail
            one refl),
      )
  enumerators_read (more_enumerators {h = m} {m = j} {x = x} {xs = xs} {s = s} {r = r} p d more) low n room acc h q rest =
      let tail = punct sign.RightBrace q ∷ rest in
      let one = enumerator_read d (omega arith) (punct sign.Comma p ∷ (r ++ tail)) refl refl in
      let long = length-append s (punct sign.Comma p ∷ r) in
      let turn = has_turn n (omega (arith, room, long)) in
      let same = turn.1 in
      let no_brace : is_right_brace (front (r ++ tail)) ≡ false = ap is_right_brace (word_no_sign (longer (enumerators_begin more) tail)) in
      let step = commas_more (enumerator types (suc below) inner) with_item is_right_brace turn.0 acc h
      (s ++ punct sign.Comma p ∷ (r ++ tail)) x m p (r ++ tail) one no_brace in
      let others = enumerators_read more (omega arith) turn.0 (omega (arith, room, long, same)) (acc ++ x ∷ []) (max h m) q rest in (
        others.0,
        ap (λ (z : ℕ). commas (enumerator types (suc below) inner) with_item is_right_brace z acc h ((s ++ punct sign.Comma p ∷ r) ++ tail)) same
            ∙ (ap (λ (z : List Token). commas (enumerator types (suc below) inner) with_item is_right_brace (suc turn.0) acc h z)
            (append_assoc s (punct sign.Comma p ∷ r) tail)
            ∙ (step ∙ (others.1 ∙ ap₂ (λ (z : List Enumerator) (w : ℕ). Some (read (record { items = z; comma = others.0 }) w tail))
            (append_assoc acc (x ∷ []) xs) (omega arith)))),
      )

  enum_body_read : {m : ℕ} {xs : List Enumerator} {s : List Token} → Enumerators types m xs s → m ≤ below
      → (p : Pos) (tag : Option NameId) (q : Pos) (rest : List Token)
      → enum_body types (suc below) inner p tag (s ++ punct sign.RightBrace q ∷ rest)
      ≡ Some (read (enum_piece types (suc below) inner p tag (Some xs) form.WithBody) (suc m) rest)
  unfolding enum_body
  enum_body_read {m = m} {xs = xs} {s = s} d low p tag q rest =
      let long = length-append s (punct sign.RightBrace q ∷ rest) in
      let all = enumerators_read d low (length (s ++ punct sign.RightBrace q ∷ rest)) (omega (arith, long)) [] 0 q rest in
      let top : max 0 m ≡ m = omega arith in
      rw (all.1, top) (node_is below (enum_piece types (suc below) inner p tag (Some xs) form.WithBody) m rest low)

  -- ---- pieces

  piece_read : {m : ℕ} {x : Piece} {s : List Token} → APiece types m x s → m ≤ suc below → (so so2 : SoFar) → typed so x ≡ Some so2
      → (rest : List Token) → is_left_brace (front rest) ≡ false
      → PieceRead types below inner so x m s rest
  unfolding piece_by record_by tagged_record enum_by tagged_enum
  piece_read (g.a_storage_word w x p e) low so so2 is rest brace = record { begun = AStorage x; is = storage_starts w x e; real = refl; one = refl }
  piece_read (g.a_type_word w x p e) low so so2 is rest brace = record { begun = AWord x; is = word_starts w x e; real = refl; one = refl }
  piece_read (g.a_typedef_name w p e) low so so2 is rest brace =
      record { begun = AName w; is = ap (λ (z : SoFar). name_start types z (Some w)) (whole_alone so _ _ so2 is) ∙ rw e refl; real = refl; one = refl }
  piece_read (g.a_record w u tag p q e) low so so2 is rest brace = record { begun = ARecord u; is = record_starts w u e; real = refl; one = rw brace refl }
  piece_read (g.a_record_body {s = s} w u p q o e ms) low so so2 is rest brace =
      record {
        begun = ARecord u;
        is = record_starts w u e;
        real = refl;
        one =
            rw (append_assoc s (punct sign.RightBrace o ∷ []) rest) (record_body_read ms (omega arith) u p None o rest);
      }
  piece_read (g.a_record_whole {s = s} w u tag p q o v e ms) low so so2 is rest brace =
      record {
        begun = ARecord u;
        is = record_starts w u e;
        real = refl;
        one =
            rw (append_assoc s (punct sign.RightBrace v ∷ []) rest) (record_body_read ms (omega arith) u q (Some tag) v rest);
      }
  piece_read (g.an_enum tag p q) low so so2 is rest brace = record { begun = AnEnum; is = refl; real = refl; one = rw brace refl }
  piece_read (g.an_enum_body {s = s} p q o xs) low so so2 is rest brace =
      record {
        begun = AnEnum;
        is = refl;
        real = refl;
        one = rw (append_assoc s (punct sign.RightBrace o ∷ []) rest)
            (enum_body_read xs (omega arith) p None o rest);
      }
  piece_read (g.an_enum_whole {s = s} tag p q o v xs) low so so2 is rest brace =
      record {
        begun = AnEnum;
        is = refl;
        real = refl;
        one = rw (append_assoc s (punct sign.RightBrace v ∷ []) rest)
            (enum_body_read xs (omega arith) q (Some tag) v rest);
      }

  pieces_read : {m : ℕ} {ps : List Piece} {s : List Token} → Pieces types m ps s → m ≤ suc below → (n : ℕ) → length s ≤ n
      → (x : Gathered) (h : ℕ) (y : Gathered) (f : Specified)
      → with_pieces x ps ≡ Some y → finished y ≡ Some f → (rest : List Token) → ends_specs rest ≡ true
      → gather types (suc below) inner n x h (s ++ rest) ≡ Some (read y (max h m) rest)
  pieces_read no_piece low n room x h y f e done rest ends =
      let same : x ≡ y = cc in
      let none = none_starts types y.storage y.so_far f (front_reserved rest) (front_word rest) done (ends_piece rest ends) in
      ap (λ (z : Gathered). gather types (suc below) inner n z h rest) same
      ∙ (gather_stop types below inner n y h rest none
      ∙ ap (λ (w : ℕ). Some (read y w rest)) (omega arith))
  pieces_read (more_pieces {h = i} {m = j} {x = p} {xs = ps} {s = s} {r = r} d more) low n room x h y f e done rest ends =
      let step = bind_is (with_piece x p) (λ z. with_pieces z ps) y e in
      let so = gathered_typed (stored x.storage p) (typed x.so_far p) step.0 step.1 in
      let one = piece_read d (omega arith) x.so_far so.0 so.1 (r ++ rest) (pieces_no_brace types more rest (ends_brace rest ends)) in
      let some = not_empty (piece_begins types d) in
      let long = length-append s r in
      let turn = has_turn n (omega (arith, room, long, some)) in
      let same = turn.1 in
      let others = pieces_read more (omega arith) turn.0 (omega (arith, room, long, some, same)) step.0 (max h i) y f step.2 done rest ends in
      rw (same, append_assoc s r rest)
      (gather_more types below inner turn.0 x step.0 h (s ++ (r ++ rest)) one.begun p i (r ++ rest) one.is one.real one.one step.1
      ∙ (others ∙ ap (λ (w : ℕ). Some (read y w rest)) (omega arith)))

  pub read_specs : {h : ℕ} {f : Specified} {s : List Token} → Specifies types h f s → h ≤ suc below → (rest : List Token) → ends_specs rest ≡ true
      → specs types (suc below) inner (s ++ rest) ≡ Some (read f h rest)
  unfolding specs
  read_specs (pieces {h = h} {g = x} {f = f} {s = s} d e done) low rest ends =
      let long = length-append s rest in
      let all = pieces_read d low (length (s ++ rest)) (omega (arith, long)) no_pieces 0 x f e done rest ends in
      let top : max 0 h ≡ h = omega arith in
      rw (all, done) (ap (λ (w : ℕ). Some (read f w rest)) top)
