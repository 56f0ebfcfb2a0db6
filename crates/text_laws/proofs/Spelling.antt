-- The text of a way, and that two ways of one text are one way.
use Rattle.std.proofs.Common.{◌≡◌, ℕ, true, false, List, [], ◌∷◌, ◌++◌, drop, refl, sym, ap, subst, ◌∙◌}
use Rattle.std.specs.Prelude.{nat_eq, Some, codes, if◌then◌else◌}
use Rattle.std.specs.Fmt.{decimal}
use Rattle.std.proofs.lemmas.Fmt.{decimal_injective}
use Rattle.fsm_spec.specs.Words.{is_word_byte}
use Rattle.sc_world.specs.Paths.{Spelled, spelled, field_text, begins_with_star, bracketed}
use Rattle.text_laws.specs.Ways.{Start, Named, CallAt, Along, Target, Member, Element, IsWord, FitsWord}
use Rattle.text_laws.proofs.Cuts.{clash, tail_same, cut_same, append_assoc, decimal_word, last_mark, last_word, last_cut, Shape, whole, parted, bracket_same, unstarred, unstarred_word}

abbrev pub start_text : Start → List ℕ
start_text (Named t) = t
start_text (CallAt line col) = codes "call@" ++ (decimal line ++ (codes ":" ++ decimal col))

abbrev pub along_text : Along → Spelled → Spelled
along_text Target s = record { text = codes "*" ++ s.text; of_target = Some s.text }
along_text (Member f) s = spelled (field_text s.of_target s.text f)
along_text (Element k) s = spelled (bracketed s.text ++ (codes "[" ++ (decimal k ++ codes "]")))

abbrev pub spell : Start → List Along → Spelled
spell s [] = spelled (start_text s)
spell s (a ∷ as') = along_text a (spell s as')

abbrev pub text : Start → List Along → List ℕ
text s as' = (spell s as').text

abbrev pub PlainStart : Start → Type 0
PlainStart (Named t) = IsWord t
PlainStart (CallAt line col) = FitsWord line × FitsWord col

abbrev pub PlainAlong : Along → Type 0
PlainAlong Target = Unit {0}
PlainAlong (Member f) = IsWord f
PlainAlong (Element k) = FitsWord k

abbrev pub PlainSteps : List Along → Type 0
PlainSteps [] = Unit {0}
PlainSteps (a ∷ as') = PlainAlong a × PlainSteps as'

-- Bytes that are of no word.

no_62 : is_word_byte 62 ≡ false
unfolding is_word_byte
no_62 = refl

no_46 : is_word_byte 46 ≡ false
unfolding is_word_byte
no_46 = refl

no_91 : is_word_byte 91 ≡ false
unfolding is_word_byte
no_91 = refl

no_93 : is_word_byte 93 ≡ false
unfolding is_word_byte
no_93 = refl

no_58 : is_word_byte 58 ≡ false
unfolding is_word_byte
no_58 = refl

no_45 : is_word_byte 45 ≡ false
unfolding is_word_byte
no_45 = refl

no_42 : is_word_byte 42 ≡ false
unfolding is_word_byte
no_42 = refl

apart : (m n : ℕ) → nat_eq m n ≡ false → m ≡ n → ⊥
apart m n d e = clash (nat_eq m n) (subst (λ k. nat_eq m k ≡ true) e (same m)) d
  where
    same : (k : ℕ) → nat_eq k k ≡ true
    same k = Rattle.std.proofs.lemmas.Bool.eq-eqb k k refl

-- the texts of the steps as cuts
arrow_cut : (e f : List ℕ) → bracketed e ++ (codes "->" ++ f) ≡ (bracketed e ++ 45 ∷ []) ++ 62 ∷ f
arrow_cut e f = append_assoc (bracketed e) (45 ∷ []) (62 ∷ f)

element_cut : (t : List ℕ) (k : ℕ)
    → bracketed t ++ (codes "[" ++ (decimal k ++ codes "]")) ≡ (bracketed t ++ 91 ∷ decimal k) ++ 93 ∷ []
element_cut t k = append_assoc (bracketed t) (91 ∷ decimal k) (93 ∷ [])

call_cut : (line col : ℕ) → start_text (CallAt line col) ≡ (codes "call@" ++ decimal line) ++ 58 ∷ decimal col
call_cut line col = append_assoc (codes "call@") (decimal line) (58 ∷ decimal col)

dot_shape : (t f : List ℕ) → IsWord f → Shape (bracketed t ++ 46 ∷ f)
dot_shape t f h = parted (bracketed t) f 46 refl no_46 (apart 46 41 refl) h

star_shape : (t : List ℕ) → Shape t → Shape (42 ∷ t)
star_shape t (whole h) = parted [] t 42 refl no_42 (apart 42 41 refl) h
star_shape t (parted xs f c is wordless bracket h) = parted (42 ∷ xs) f c (λ i. 42 ∷ is i) wordless bracket h

start_shape : (s : Start) → PlainStart s → Shape (start_text s)
start_shape (Named t) h = whole h
start_shape (CallAt line col) h =
    parted (codes "call@" ++ decimal line) (decimal col) 58 (call_cut line col) no_58 (apart 58 41 refl) (decimal_word col h.1)

shape : (s : Start) (as' : List Along) → PlainStart s → PlainSteps as' → Shape (text s as')
shape s [] hs h = start_shape s hs
shape s (Target ∷ as') hs h = star_shape (text s as') (shape s as' hs h.1)
shape s (Member f ∷ []) hs h = dot_shape (start_text s) f h.0
shape s (Member f ∷ Target ∷ as') hs h =
    parted (bracketed (text s as') ++ 45 ∷ []) f 62 (arrow_cut (text s as') f) no_62 (apart 62 41 refl) h.0
shape s (Member f ∷ Member g ∷ as') hs h = dot_shape (text s (Member g ∷ as')) f h.0
shape s (Member f ∷ Element k ∷ as') hs h = dot_shape (text s (Element k ∷ as')) f h.0
shape s (Element k ∷ as') hs h =
    parted (bracketed (text s as') ++ 91 ∷ decimal k) [] 93 (element_cut (text s as') k) no_93 (apart 93 41 refl) tt

-- What comes last in a text tells which step was the last.

abbrev start_kind : Start → ℕ
start_kind (Named t) = 0
start_kind (CallAt line col) = 58

abbrev kind : Start → List Along → ℕ
kind s [] = start_kind s
kind s (Target ∷ as') = 42
kind s (Member f ∷ Target ∷ as') = 62
kind s (Member f ∷ as') = 46
kind s (Element k ∷ as') = 93

abbrev tag : List ℕ → ℕ
tag t = if begins_with_star t then 42 else last_mark t

tag_unstarred : (t : List ℕ) (n : ℕ) → begins_with_star t ≡ false → last_mark t ≡ n → tag t ≡ n
tag_unstarred t n e d = λ i. if e i then 42 else d i

dot_tag : (t f : List ℕ) → IsWord f → tag (bracketed t ++ 46 ∷ f) ≡ 46
dot_tag t f h = tag_unstarred (bracketed t ++ 46 ∷ f) 46 (unstarred t f 46 refl) (last_cut (bracketed t) f 45 h no_46)

start_tag : (s : Start) → PlainStart s → tag (start_text s) ≡ start_kind s
start_tag (Named t) h = tag_unstarred t 0 (unstarred_word t h) (last_word t h)
start_tag (CallAt line col) h =
    ap last_mark (call_cut line col) ∙ last_cut (codes "call@" ++ decimal line) (decimal col) 57 (decimal_word col h.1) no_58

tagged : (s : Start) (as' : List Along) → PlainStart s → PlainSteps as' → tag (text s as') ≡ kind s as'
tagged s [] hs h = start_tag s hs
tagged s (Target ∷ as') hs h = refl
tagged s (Member f ∷ []) hs h = dot_tag (start_text s) f h.0
tagged s (Member f ∷ Target ∷ as') hs h =
    tag_unstarred (bracketed (text s as') ++ (codes "->" ++ f)) 62 (unstarred (text s as') (62 ∷ f) 45 refl)
    (ap last_mark (arrow_cut (text s as') f) ∙ last_cut (bracketed (text s as') ++ 45 ∷ []) f 61 h.0 no_62)
tagged s (Member f ∷ Member g ∷ as') hs h = dot_tag (text s (Member g ∷ as')) f h.0
tagged s (Member f ∷ Element k ∷ as') hs h = dot_tag (text s (Element k ∷ as')) f h.0
tagged s (Element k ∷ as') hs h =
    tag_unstarred (bracketed (text s as') ++ (codes "[" ++ (decimal k ++ codes "]"))) 93
    (unstarred (text s as') (decimal k ++ codes "]") 91 refl)
    (ap last_mark (element_cut (text s as') k) ∙ last_cut (bracketed (text s as') ++ 91 ∷ decimal k) [] 92 tt no_93)

kinds : (s r : Start) (as' bs : List Along) → PlainStart s → PlainStart r → PlainSteps as' → PlainSteps bs
    → text s as' ≡ text r bs → kind s as' ≡ kind r bs
kinds s r as' bs hs hr ha hb e = sym (tagged s as' hs ha) ∙ ap tag e ∙ tagged r bs hr hb

-- a start has no mark but `:`
apart_start : (n : ℕ) → nat_eq n 0 ≡ false → nat_eq n 58 ≡ false → (q : Start) → n ≡ start_kind q → ⊥
apart_start n zero_not colon_not (Named t) e = apart n 0 zero_not e
apart_start n zero_not colon_not (CallAt line col) e = apart n 58 colon_not e

-- One case for each last step.

module _ (s r : Start) (hs : PlainStart s) (hr : PlainStart r) where
  abbrev Same : List Along → List Along → Type 0
  Same as' bs = (s ≡ r) × (as' ≡ bs)

  abbrev Tells : List Along → Type 0
  Tells as' = (bs : List Along) → PlainSteps bs → text s as' ≡ text r bs → Same as' bs

  further : (a b : Along) (as' bs : List Along) → a ≡ b → Same as' bs → Same (a ∷ as') (b ∷ bs)
  further a b as' bs e h = (h.0, (λ i. e i ∷ h.1 i))

  stars : (as' : List Along) → PlainSteps as' → Tells as' → Tells (Target ∷ as')
  stars as' ha ih [] hb e = absurd (apart_start 42 refl refl r (kinds s r (Target ∷ as') [] hs hr (tt, ha) hb e))
  stars as' ha ih (Target ∷ bs) hb e = further Target Target as' bs refl (ih bs hb.1 (tail_same e))
  stars as' ha ih (Member g ∷ []) hb e = absurd (apart 42 46 refl (kinds s r (Target ∷ as') (Member g ∷ []) hs hr (tt, ha) hb e))
  stars as' ha ih (Member g ∷ Target ∷ bs) hb e =
      absurd (apart 42 62 refl (kinds s r (Target ∷ as') (Member g ∷ Target ∷ bs) hs hr (tt, ha) hb e))
  stars as' ha ih (Member g ∷ Member h ∷ bs) hb e =
      absurd (apart 42 46 refl (kinds s r (Target ∷ as') (Member g ∷ Member h ∷ bs) hs hr (tt, ha) hb e))
  stars as' ha ih (Member g ∷ Element k ∷ bs) hb e =
      absurd (apart 42 46 refl (kinds s r (Target ∷ as') (Member g ∷ Element k ∷ bs) hs hr (tt, ha) hb e))
  stars as' ha ih (Element k ∷ bs) hb e =
      absurd (apart 42 93 refl (kinds s r (Target ∷ as') (Element k ∷ bs) hs hr (tt, ha) hb e))

  arrows : (f : List ℕ) (as' : List Along) → IsWord f → PlainSteps as' → Tells as' → Tells (Member f ∷ Target ∷ as')
  arrows f as' hf ha ih [] hb e = absurd (apart_start 62 refl refl r (kinds s r (Member f ∷ Target ∷ as') [] hs hr (hf, (tt, ha)) hb e))
  arrows f as' hf ha ih (Target ∷ bs) hb e =
      absurd (apart 62 42 refl (kinds s r (Member f ∷ Target ∷ as') (Target ∷ bs) hs hr (hf, (tt, ha)) hb e))
  arrows f as' hf ha ih (Member g ∷ []) hb e =
      absurd (apart 62 46 refl (kinds s r (Member f ∷ Target ∷ as') (Member g ∷ []) hs hr (hf, (tt, ha)) hb e))
  arrows f as' hf ha ih (Member g ∷ Target ∷ bs) hb e =
      let cut = cut_same (bracketed (text s as') ++ 45 ∷ []) (bracketed (text r bs) ++ 45 ∷ []) f g 62 62 hf hb.0 no_62 no_62
      (sym (arrow_cut (text s as') f) ∙ e ∙ arrow_cut (text r bs) g) in
      let front = cut_same (bracketed (text s as')) (bracketed (text r bs)) [] [] 45 45 tt tt no_45 no_45 cut.0 in
      let same = bracket_same (text s as') (text r bs) (shape s as' hs ha) (shape r bs hr hb.1.1) front.0 in
      further (Member f) (Member g) (Target ∷ as') (Target ∷ bs) (ap Member cut.2)
      (further Target Target as' bs refl (ih bs hb.1.1 same))
  arrows f as' hf ha ih (Member g ∷ Member h ∷ bs) hb e =
      absurd (apart 62 46 refl (kinds s r (Member f ∷ Target ∷ as') (Member g ∷ Member h ∷ bs) hs hr (hf, (tt, ha)) hb e))
  arrows f as' hf ha ih (Member g ∷ Element k ∷ bs) hb e =
      absurd (apart 62 46 refl (kinds s r (Member f ∷ Target ∷ as') (Member g ∷ Element k ∷ bs) hs hr (hf, (tt, ha)) hb e))
  arrows f as' hf ha ih (Element k ∷ bs) hb e =
      absurd (apart 62 93 refl (kinds s r (Member f ∷ Target ∷ as') (Element k ∷ bs) hs hr (hf, (tt, ha)) hb e))

  elements : (k : ℕ) (as' : List Along) → FitsWord k → PlainSteps as' → Tells as' → Tells (Element k ∷ as')
  elements k as' hk ha ih [] hb e = absurd (apart_start 93 refl refl r (kinds s r (Element k ∷ as') [] hs hr (hk, ha) hb e))
  elements k as' hk ha ih (Target ∷ bs) hb e =
      absurd (apart 93 42 refl (kinds s r (Element k ∷ as') (Target ∷ bs) hs hr (hk, ha) hb e))
  elements k as' hk ha ih (Member g ∷ []) hb e =
      absurd (apart 93 46 refl (kinds s r (Element k ∷ as') (Member g ∷ []) hs hr (hk, ha) hb e))
  elements k as' hk ha ih (Member g ∷ Target ∷ bs) hb e =
      absurd (apart 93 62 refl (kinds s r (Element k ∷ as') (Member g ∷ Target ∷ bs) hs hr (hk, ha) hb e))
  elements k as' hk ha ih (Member g ∷ Member h ∷ bs) hb e =
      absurd (apart 93 46 refl (kinds s r (Element k ∷ as') (Member g ∷ Member h ∷ bs) hs hr (hk, ha) hb e))
  elements k as' hk ha ih (Member g ∷ Element j ∷ bs) hb e =
      absurd (apart 93 46 refl (kinds s r (Element k ∷ as') (Member g ∷ Element j ∷ bs) hs hr (hk, ha) hb e))
  elements k as' hk ha ih (Element j ∷ bs) hb e =
      let cut = cut_same (bracketed (text s as') ++ 91 ∷ decimal k) (bracketed (text r bs) ++ 91 ∷ decimal j) [] [] 93 93 tt tt
      no_93 no_93 (sym (element_cut (text s as') k) ∙ e ∙ element_cut (text r bs) j) in
      let front = cut_same (bracketed (text s as')) (bracketed (text r bs)) (decimal k) (decimal j) 91 91 (decimal_word k hk)
      (decimal_word j hb.0) no_91 no_91 cut.0 in
      let same = bracket_same (text s as') (text r bs) (shape s as' hs ha) (shape r bs hr hb.1) front.0 in
      further (Element k) (Element j) as' bs (ap Element (decimal_injective k j hk hb.0 front.2)) (ih bs hb.1 same)

  -- a member of what is no target
  dotted : (f g : List ℕ) (as' bs : List Along) → IsWord f → IsWord g → PlainSteps as' → PlainSteps bs → Tells as'
      → bracketed (text s as') ++ 46 ∷ f ≡ bracketed (text r bs) ++ 46 ∷ g → Same (Member f ∷ as') (Member g ∷ bs)
  dotted f g as' bs hf hg ha hb ih e =
      let cut = cut_same (bracketed (text s as')) (bracketed (text r bs)) f g 46 46 hf hg no_46 no_46 e in
      further (Member f) (Member g) as' bs (ap Member cut.2)
      (ih bs hb (bracket_same (text s as') (text r bs) (shape s as' hs ha) (shape r bs hr hb) cut.0))

  dots : (f : List ℕ) (as' : List Along) → IsWord f → PlainSteps as' → Tells as' → kind s (Member f ∷ as') ≡ 46
      → text s (Member f ∷ as') ≡ bracketed (text s as') ++ 46 ∷ f → Tells (Member f ∷ as')
  dots f as' hf ha ih k is [] hb e = absurd (apart_start 46 refl refl r (sym k ∙ kinds s r (Member f ∷ as') [] hs hr (hf, ha) hb e))
  dots f as' hf ha ih k is (Target ∷ bs) hb e =
      absurd (apart 46 42 refl (sym k ∙ kinds s r (Member f ∷ as') (Target ∷ bs) hs hr (hf, ha) hb e))
  dots f as' hf ha ih k is (Member g ∷ []) hb e = dotted f g as' [] hf hb.0 ha hb.1 ih (sym is ∙ e)
  dots f as' hf ha ih k is (Member g ∷ Target ∷ bs) hb e =
      absurd (apart 46 62 refl (sym k ∙ kinds s r (Member f ∷ as') (Member g ∷ Target ∷ bs) hs hr (hf, ha) hb e))
  dots f as' hf ha ih k is (Member g ∷ Member h ∷ bs) hb e = dotted f g as' (Member h ∷ bs) hf hb.0 ha hb.1 ih (sym is ∙ e)
  dots f as' hf ha ih k is (Member g ∷ Element j ∷ bs) hb e = dotted f g as' (Element j ∷ bs) hf hb.0 ha hb.1 ih (sym is ∙ e)
  dots f as' hf ha ih k is (Element j ∷ bs) hb e =
      absurd (apart 46 93 refl (sym k ∙ kinds s r (Member f ∷ as') (Element j ∷ bs) hs hr (hf, ha) hb e))

starts : (s r : Start) → PlainStart s → PlainStart r → start_text s ≡ start_text r → s ≡ r
starts (Named t) (Named u) hs hr e = ap Named e
starts (Named t) (CallAt line col) hs hr e =
    absurd (apart 0 58 refl (kinds (Named t) (CallAt line col) [] [] hs hr tt tt e))
starts (CallAt line col) (Named u) hs hr e =
    absurd (apart 58 0 refl (kinds (CallAt line col) (Named u) [] [] hs hr tt tt e))
starts (CallAt line col) (CallAt row place) hs hr e =
    let cut = cut_same (codes "call@" ++ decimal line) (codes "call@" ++ decimal row) (decimal col) (decimal place) 58 58
    (decimal_word col hs.1) (decimal_word place hr.1) no_58 no_58 (sym (call_cut line col) ∙ e ∙ call_cut row place) in
    (λ i. CallAt (decimal_injective line row hs.0 hr.0 (ap (λ l. drop 5 l) cut.0) i) (decimal_injective col place hs.1 hr.1 cut.2 i))

begins : (s r : Start) → PlainStart s → PlainStart r → (bs : List Along) → PlainSteps bs → start_text s ≡ text r bs
    → (s ≡ r) × ([] ≡ bs)
begins s r hs hr [] hb e = (starts s r hs hr e, refl)
begins s r hs hr (Target ∷ bs) hb e = absurd (apart_start 42 refl refl s (sym (kinds s r [] (Target ∷ bs) hs hr tt hb e)))
begins s r hs hr (Member g ∷ []) hb e = absurd (apart_start 46 refl refl s (sym (kinds s r [] (Member g ∷ []) hs hr tt hb e)))
begins s r hs hr (Member g ∷ Target ∷ bs) hb e = absurd (apart_start 62 refl refl s (sym (kinds s r [] (Member g ∷ Target ∷ bs) hs hr tt hb e)))
begins s r hs hr (Member g ∷ Member h ∷ bs) hb e = absurd (apart_start 46 refl refl s (sym (kinds s r [] (Member g ∷ Member h ∷ bs) hs hr tt hb e)))
begins s r hs hr (Member g ∷ Element k ∷ bs) hb e = absurd (apart_start 46 refl refl s (sym (kinds s r [] (Member g ∷ Element k ∷ bs) hs hr tt hb e)))
begins s r hs hr (Element k ∷ bs) hb e = absurd (apart_start 93 refl refl s (sym (kinds s r [] (Element k ∷ bs) hs hr tt hb e)))

pub same_way : (s r : Start) → PlainStart s → PlainStart r → (as' : List Along) → PlainSteps as' → (bs : List Along) → PlainSteps bs
    → text s as' ≡ text r bs → (s ≡ r) × (as' ≡ bs)
same_way s r hs hr [] ha = begins s r hs hr
same_way s r hs hr (Target ∷ as') ha = stars s r hs hr as' ha.1 (same_way s r hs hr as' ha.1)
same_way s r hs hr (Member f ∷ []) ha = dots s r hs hr f [] ha.0 tt (same_way s r hs hr [] tt) refl refl
same_way s r hs hr (Member f ∷ Target ∷ as') ha = arrows s r hs hr f as' ha.0 ha.1.1 (same_way s r hs hr as' ha.1.1)
same_way s r hs hr (Member f ∷ Member g ∷ as') ha =
    dots s r hs hr f (Member g ∷ as') ha.0 ha.1 (same_way s r hs hr (Member g ∷ as') ha.1) refl refl
same_way s r hs hr (Member f ∷ Element k ∷ as') ha =
    dots s r hs hr f (Element k ∷ as') ha.0 ha.1 (same_way s r hs hr (Element k ∷ as') ha.1) refl refl
same_way s r hs hr (Element k ∷ as') ha = elements s r hs hr k as' ha.0 ha.1 (same_way s r hs hr as' ha.1)
