-- Words are ASCII texts, and their places among the names stay the same while names are added.
use Rattle.std.proofs.Common.{◌≡◌, ℕ, zero, suc, ◌+◌, ◌≤◌, true, cond, List, [], ◌∷◌, ◌++◌, refl, sym, ap, ◌∙◌, arith, Some, None, append_assoc, inl, inr}
use Rattle.std.specs.Prelude.{not, IsAscii, IsUtf8}
use Rattle.std.specs.List.{list_all}
use Rattle.std.proofs.lemmas.Bool.{and_parts, cond-false, cond-true, cases_Bool}
use Rattle.std.proofs.lemmas.Str.{IsUtf8-from_ascii}
use Rattle.std.proofs.lemmas.List.{append-nil, length-append}
use Rattle.std.proofs.lemmas.Slice.Eq.{bytes_eq-Decides}
use Rattle.sc_base.specs.declared.pos.NameId.{NameId}
use Rattle.sc_tree.specs.declared.token.Kind.TheVariants as kind
use Rattle.sc_tree.specs.declared.token.Reserved.{Reserved}
use Rattle.std.specs.Str.{bytes_eq}
use Rattle.sc_base.specs.Held.{is_named}
use Rattle.sc_base.specs.Names.{place_of, with_text}
use Rattle.sc_tree.specs.Bytes.{is_word_byte}
use Rattle.sc_tree.specs.Cut.{word_kind}
use Rattle.sc_tree.specs.Words.{reserved}
use Rattle.sc_lexer.specs.Answer.{Grow}
use Rattle.sc_lexer.proofs.PunctProofs.{ascii_word}

word_bytes_below : (word : List ℕ) → list_all is_word_byte word ≡ true → IsAscii word
word_bytes_below [] e i = omega arith
word_bytes_below (c ∷ cs) e zero = ascii_word c (and_parts (is_word_byte c) (list_all is_word_byte cs) e).0
word_bytes_below (c ∷ cs) e (suc i) = word_bytes_below cs (and_parts (is_word_byte c) (list_all is_word_byte cs) e).1 i

pub word_is_text : (word : List ℕ) → list_all is_word_byte word ≡ true → IsUtf8 word
word_is_text word e = IsUtf8-from_ascii word (word_bytes_below word e)

-- ---- places among the names

place_then : (text : List ℕ) (texts rest : List (List ℕ)) → place_of text rest ≡ 0 → place_of text (texts ++ rest) ≡ place_of text texts
place_then text [] rest z = z
place_then text (t ∷ ts) rest z = ap (λ (n : ℕ). cond (not (bytes_eq text t)) (1 + n) 0) (place_then text ts rest z)

place_named : (text : List ℕ) (texts more : List (List ℕ)) → is_named text texts ≡ true → place_of text (texts ++ more) ≡ place_of text texts
place_named text [] more h = absurd (cc)
place_named text (t ∷ ts) more h =
    elim (cases_Bool (bytes_eq text t)) [
      | inl e ↦ rw e refl
      | inr e ↦ (let rest : is_named text ts ≡ true = rw e at h in ap (λ (n : ℕ). cond (not (bytes_eq text t)) (1 + n) 0) (place_named text ts more rest))
    ]

place_first : (text : List ℕ) (more : List (List ℕ)) → place_of text (text ∷ more) ≡ 0
place_first text more = let same : bytes_eq text text ≡ true = (bytes_eq-Decides text text).1 refl in rw same refl

-- a text keeps its place while names are added
pub place_stays : (text : List ℕ) (old more : List (List ℕ)) → place_of text (with_text old text ++ more) ≡ place_of text old
place_stays text old more =
    elim (cases_Bool (is_named text old)) [
      | inl e ↦ (let w : with_text old text ≡ old = cond-true (is_named text old) old (old ++ text ∷ []) e in
          ap (λ (xs : List (List ℕ)). place_of text (xs ++ more)) w ∙ place_named text old more e)
      | inr e ↦ (let w : with_text old text ≡ old ++ text ∷ [] = cond-false (is_named text old) old (old ++ text ∷ []) e in
          ap (λ (xs : List (List ℕ)). place_of text (xs ++ more)) w
          ∙ ap (λ (xs : List (List ℕ)). place_of text xs) (append_assoc old (text ∷ []) more)
          ∙ place_then text old (text ∷ more) (place_first text more))
    ]

-- ---- how the names grow

pub grow_none : (count : ℕ) (names : List (List ℕ)) → Grow count names names
grow_none count names = record { added = []; grown = sym (append-nil names); few = omega arith }

pub grow_one : (text : List ℕ) (old new : List (List ℕ)) → new ≡ with_text old text → Grow 1 old new
grow_one text old new is =
    elim (cases_Bool (is_named text old)) [
      | inl e ↦ record { added = []; grown = is ∙ cond-true (is_named text old) old (old ++ text ∷ []) e ∙ sym (append-nil old); few = omega arith }
      | inr e ↦ record { added = text ∷ []; grown = is ∙ cond-false (is_named text old) old (old ++ text ∷ []) e; few = omega arith }
    ]

pub grow_same : (count : ℕ) (old new : List (List ℕ)) → new ≡ old → Grow count old new
grow_same count old new is = record { added = []; grown = is ∙ sym (append-nil old); few = omega arith }

pub grow_more : (a b : ℕ) (x y z : List (List ℕ)) → Grow a x y → Grow b y z → Grow (a + b) x z
grow_more a b x y z f g =
    record {
      added = f.added ++ g.added;
      grown = g.grown ∙ ap (λ (xs : List (List ℕ)). xs ++ g.added) f.grown ∙ append_assoc x f.added g.added;
      few = (let l = length-append f.added g.added in let p = f.few in let q = g.few in omega arith);
    }

pub grow_at_most : (a b : ℕ) (x y : List (List ℕ)) → a ≤ b → Grow a x y → Grow b x y
grow_at_most a b x y le f = record { added = f.added; grown = f.grown; few = (let p = f.few in omega arith) }

-- ---- what a word is

pub word_reserved : (names : List (List ℕ)) (text : List ℕ) (word : Reserved) → reserved text ≡ Some word → kind.Reserved word ≡ word_kind names text
unfolding word_kind
word_reserved names text word e = rw e refl

pub word_named : (old new more : List (List ℕ)) (text : List ℕ) (id : NameId) → reserved text ≡ None → id.at ≡ place_of text old → new
    ≡ with_text old text → kind.Word id ≡ word_kind (new ++ more) text
unfolding word_kind
word_named old new more text id e is grown =
    let p : id.at ≡ place_of text (new ++ more) = is ∙ sym (place_stays text old more) ∙ ap (λ (xs : List (List ℕ)). place_of text (xs ++ more)) (sym grown) in
    rw e (ap (λ (n : ℕ). kind.Word (record { at = n })) p)
