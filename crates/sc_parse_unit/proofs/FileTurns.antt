-- Declarators at file scope, one after the other, and the typedef names that they leave.
use Rattle.std.proofs.Common.{◌≡◌, ℕ, suc, ◌+◌, ◌-◌, ◌<◌, ◌≤◌, max, length, take, Bool, true, false, List, [], ◌∷◌, ◌++◌, Option, Some}
use Rattle.std.proofs.Common.{None, if◌then◌else◌, refl, sym, ap, ◌∙◌, append_assoc, arith}
use Rattle.std.proofs.lemmas.List.{append-nil}
use Rattle.std.proofs.Math.Seq.{take-append_seam}
use Rattle.sc_base.specs.declared.pos.NameId.{NameId}
use Rattle.sc_tree.specs.declared.token.Token.{Token}
use Rattle.sc_tree.specs.declared.decl.InitDeclarator.{InitDeclarator}
use Rattle.sc_tree.specs.declared.grammar.Core.{Core}
use Rattle.sc_tree.specs.declared.grammar.Core.TheVariants as core
use Rattle.sc_tree.specs.declared.grammar.Naming.TheVariants as naming
use Rattle.sc_tree.specs.Tables.{◌>>=◌}
use Rattle.sc_tree.specs.Tokens.{is_type}
use Rattle.sc_tree.specs.Trees.{max_height}
use Rattle.sc_tree.specs.Units.{with_declared, is_empty}
use Rattle.sc_parse_expr.specs.declared.found.Declared.{Declared}
use Rattle.sc_parse_front.specs.Front.{front, behind, is_comma}
use Rattle.sc_parse_expr.specs.Read.{Read, read}
use Rattle.sc_parse_expr.specs.Reading.Parse.{declarator_at}
use Rattle.sc_parse_unit.specs.Reading.{with_init, FileParts, file_parts, file_rest, file_declarator, file_declarators}
use Rattle.sc_parse_unit.specs.Reading.{Keeps}

-- ---- typedef names stay

pub keeps_same : (old new : List NameId) → new ≡ old → Keeps old new
keeps_same old new same = record { added = []; grown = same ∙ sym (append-nil old) }

pub keeps_all : {a b c : List NameId} → Keeps a b → Keeps b c → Keeps a c
keeps_all {a = a} {b = b} {c = c} x y = record {
  added = x.added ++ y.added;
  grown = y.grown
      ∙ ap (λ (l : List NameId). l ++ y.added) x.grown ∙ append_assoc a x.added y.added;
}

type_keeps : (b : Bool) (old : List NameId) (w : NameId) → Keeps old (if b then old else old ++ w ∷ [])
type_keeps true old w = keeps_same old old refl
type_keeps false old w = record { added = w ∷ []; grown = refl }

pub declared_keeps : (def : Bool) (old : List NameId) (c : Core) → Keeps old (with_declared def old c)
declared_keeps true old core.Nameless = keeps_same old old refl
declared_keeps true old (core.Bare w) = type_keeps (is_type old w) old w
declared_keeps true old (core.Function w named) = type_keeps (is_type old w) old w
declared_keeps true old (core.Other w) = type_keeps (is_type old w) old w
declared_keeps false old c = keeps_same old old refl

pub declared_new_keeps : (def : Bool) (old new : List NameId) (c : Core) → new ≡ with_declared def old c → Keeps old new
declared_new_keeps def old new c is = let k = declared_keeps def old c in record { added = k.added; grown = is ∙ k.grown }

-- what stands behind those that were there is forgotten
pub keeps_front : (old new : List NameId) → Keeps old new → take (length old) new ≡ old
keeps_front old new k = ap (take (length old)) k.grown ∙ take-append_seam old k.added

-- ---- one declarator more

module _ {o : Option (Read FileParts)} (def : Bool) (n at : ℕ) (xs : List InitDeclarator) (types : List NameId) (h : ℕ) (ts : List Token)
    (below : at < n) (so : o ≡ file_declarators (n - at) def xs types h ts) where
  turn : o ≡ (declarator_at types max_height naming.Required ts
      >>= file_declarator (λ ys us m rs. file_declarators (n - (at + 1)) def ys us m rs) def xs types h)
  unfolding file_declarators
  turn = let next : n - at ≡ suc (n - (at + 1)) = omega arith in so ∙ ap (λ m. file_declarators m def xs types h ts) next

  pub file_refused : declarator_at types max_height naming.Required ts ≡ None → o ≡ None
  file_refused none = turn ∙ ap (λ p. p >>= file_declarator (λ ys us m rs. file_declarators (n - (at + 1)) def ys us m rs) def xs types h) none

  module _ (t : Read Declared) (is : declarator_at types max_height naming.Required ts ≡ Some t) where
    at_declarator : o ≡ (with_init (with_declared def types t.it.core) max_height t
        >>= file_rest (λ ys us m rs. file_declarators (n - (at + 1)) def ys us m rs) xs (with_declared def types t.it.core) h)
    unfolding file_declarator
    at_declarator = turn ∙ ap (λ p. p >>= file_declarator (λ ys us m rs. file_declarators (n - (at + 1)) def ys us m rs) def xs types h) is

    pub file_init_refused : with_init (with_declared def types t.it.core) max_height t ≡ None → o ≡ None
    file_init_refused none = at_declarator ∙ ap (λ p. p >>= file_rest (λ ys us m rs. file_declarators (n - (at + 1)) def ys us m rs) xs
        (with_declared def types t.it.core) h) none

    module _ (x : Read InitDeclarator) (made : with_init (with_declared def types t.it.core) max_height t ≡ Some x) (us : List NameId)
        (names : us ≡ with_declared def types t.it.core)
        (ys : List InitDeclarator) (more : ys ≡ xs ++ x.it ∷ []) (m : ℕ) (high : m ≡ max h x.height) where
      at_init : o ≡ file_rest (λ zs vs l rs. file_declarators (n - (at + 1)) def zs vs l rs) xs us h x
      at_init = at_declarator ∙ ap (λ p. p >>= file_rest (λ zs vs l rs. file_declarators (n - (at + 1)) def zs vs l rs) xs
          (with_declared def types t.it.core) h) made
          ∙ ap (λ vs. file_rest (λ zs ws l rs. file_declarators (n - (at + 1)) def zs ws l rs) xs vs h x) (sym names)

      pub file_last : is_comma (front x.rest) ≡ false → o ≡ Some (read (file_parts ys us) m x.rest)
      unfolding file_rest
      file_last e = at_init ∙ ap (λ b. if b then file_declarators (n - (at + 1)) def (xs ++ x.it ∷ []) us (max h x.height) (behind x.rest)
          else Some (read (file_parts (xs ++ x.it ∷ []) us) (max h x.height) x.rest)) e
          ∙ ap (λ zs. Some (read (file_parts zs us) (max h x.height) x.rest)) (sym more) ∙ ap (λ l. Some (read (file_parts ys us) l x.rest)) (sym high)

      pub file_next : is_comma (front x.rest) ≡ true → (rs : List Token) → rs ≡ behind x.rest → o ≡ file_declarators (n - (at + 1)) def ys us m rs
      unfolding file_rest
      file_next e rs rest = at_init ∙ ap (λ b. if b then file_declarators (n - (at + 1)) def (xs ++ x.it ∷ []) us (max h x.height)
          (behind x.rest) else Some (read (file_parts (xs ++ x.it ∷ []) us) (max h x.height) x.rest)) e
          ∙ ap (λ zs. file_declarators (n - (at + 1)) def zs us (max h x.height) (behind x.rest)) (sym more)
          ∙ ap (λ l. file_declarators (n - (at + 1)) def ys us l (behind x.rest)) (sym high)
          ∙ ap (λ vs. file_declarators (n - (at + 1)) def ys us m vs) (sym rest)

pub file_out : {o : Option (Read FileParts)} (def : Bool) (n at : ℕ) (xs : List InitDeclarator) (types : List NameId) (h : ℕ) (ts : List Token) → n ≤ at
    → o ≡ file_declarators (n - at) def xs types h ts → o ≡ None
unfolding file_declarators
file_out def n at xs types h ts done so = let none : n - at ≡ 0 = omega arith in so ∙ ap (λ m. file_declarators m def xs types h ts) none

pub no_token : (ts : List Token) → is_empty ts ≡ true → ts ≡ []
no_token [] e = refl
no_token (t ∷ ts) e = absurd cc
