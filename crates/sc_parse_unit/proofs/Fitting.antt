-- Each segment fits what it is read as, and nothing else.
use Rattle.std.proofs.Common.{◌≡◌, ℕ, ◌-◌, Bool, true, false, List, [], ◌∷◌, ◌++◌, take, drop, Option, Some, None, refl, sym, ap, ap₂, subst, ◌∙◌}
use Rattle.std.specs.Prelude.{if◌then◌else◌}
use Rattle.std.proofs.lemmas.List.{append-nil}
use Rattle.sc_base.specs.declared.pos.NameId.{NameId}
use Rattle.sc_base.specs.declared.skip.Skip.TheVariants.{Grammar}
use Rattle.sc_tree.specs.declared.token.Token.{Token}
use Rattle.sc_tree.specs.declared.expr.Head.{Head}
use Rattle.sc_tree.specs.declared.unit.FileDecl.{FileDecl}
use Rattle.sc_tree.specs.declared.stmt.Stmt.{Stmt}
use Rattle.sc_tree.specs.declared.unit.Segment.{Segment}
use Rattle.sc_tree.specs.declared.unit.Segment.TheVariants as segment
use Rattle.sc_tree.specs.declared.unit.Body.{Body}
use Rattle.sc_tree.specs.declared.unit.Body.TheVariants as body
use Rattle.sc_tree.specs.Tokens.{first_pos}
use Rattle.sc_tree.specs.Trees.{max_height}
use Rattle.sc_tree.specs.Statements as g
use Rattle.sc_tree.specs.Statements.{States}
use Rattle.sc_tree.specs.Units as units
use Rattle.sc_tree.specs.Units.{is_empty, is_braced, IsBlock, IsDeclaration, IsFunction, Fits, AllFit}
use Rattle.sc_parse_front.specs.Front.{front, is_left_brace}
use Rattle.sc_parse_expr.specs.Read.{Read, read}
use Rattle.sc_parse_unit.specs.declared.found.Outline.{Outline}
use Rattle.sc_parse_unit.specs.declared.found.Outline.TheVariants as outline
use Rattle.sc_parse_unit.specs.Reading.{statement, Outlined, outlined, outline_of, body_by, body_of, Segmented, filled, segment_by, segment_of, segments_of}
use Rattle.sc_parse_unit.specs.Laws.{TakesStmt, Outlines, IsSegment, AreSegments}
use Rattle.sc_parse_unit.proofs.SoundAll as sound
use Rattle.sc_parse_unit.proofs.Completeness as whole
use Rattle.sc_parse_unit.proofs.CompleteOutline.{of_braced}

-- ---- blocks

-- a statement in braces does not end in an `if` that could take an `else`
state_in_braces : {types : List NameId} {b : Bool} {h : ℕ} {x : Stmt} {s : List Token} → States types b h x s → is_left_brace (front s) ≡ true → b ≡ false
state_in_braces (g.a_block p q d) e = refl
state_in_braces (g.an_expression p d) e = refl
state_in_braces (g.no_expression p) e = refl
state_in_braces (g.an_if p q o d x) e = absurd cc
state_in_braces (g.an_if_else p q o v d x y) e = absurd cc
state_in_braces (g.a_while p q o d x) e = absurd cc
state_in_braces (g.a_do p q o v w d x) e = refl
state_in_braces (g.a_for p q o w f c i x) e = absurd cc
state_in_braces (g.a_switch p q o v w d xs) e = refl
state_in_braces (g.a_goto l p q o) e = refl
state_in_braces (g.a_break p q) e = refl
state_in_braces (g.a_continue p q) e = refl
state_in_braces (g.a_return p q d) e = refl
state_in_braces (g.a_label l p q d) e = absurd cc

empty_is : (ts : List Token) → is_empty ts ≡ true → ts ≡ []
empty_is [] e = refl
empty_is (t ∷ ts) e = absurd cc

read_is_block : (types : List NameId) (inside : List Token) (r : Read Stmt) → is_braced inside ≡ true → TakesStmt types max_height inside r
    → is_empty r.rest ≡ true → IsBlock types inside r.it
read_is_block types inside r braced t e =
    let all : inside ≡ t.span = t.split ∙ (ap (λ (z : List Token). t.span ++ z) (empty_is r.rest e) ∙ append-nil t.span) in
    let opens : is_left_brace (front inside) ≡ true = of_braced (λ z. is_left_brace (front z)) true (λ p us. refl) inside braced in
    let closed : t.is_open ≡ false = state_in_braces t.spelled (sym (ap (λ (z : List Token). is_left_brace (front z)) all) ∙ opens) in
    record {
      height = r.height;
      low = t.low;
      spelled = subst (λ (b : Bool). States types b r.height r.it inside) closed
          (subst (λ (z : List Token). States types t.is_open r.height r.it z) (sym all) t.spelled);
    }

block_is_read : (types : List NameId) (inside : List Token) (b : Stmt) (d : IsBlock types inside b) → statement types max_height inside
    ≡ Some (read b d.height [])
block_is_read types inside b d =
    ap (λ (z : List Token). statement types max_height z) (sym (append-nil inside))
    ∙ (whole.complete types max_height).statement false d.height b inside [] d.spelled d.low (λ e. refl)

-- a body is a tree where a block is spelled, and nowhere else
data BodyIs (types : List NameId) (inside : List Token) : Body → Type 0 where
  a_tree : (b : Stmt) → IsBlock types inside b → BodyIs types inside (body.Tree b)
  no_tree : ((b : Stmt) → IsBlock types inside b → ⊥) → BodyIs types inside (body.Skipped (Grammar (first_pos inside)))

none_is_some : {A B : Type 0} (x : A) → None ≡ Some x → B
none_is_some x e = absurd cc

abbrev nothing_left : Option (Read Stmt) → Bool
nothing_left None = true
nothing_left (Some r) = is_empty r.rest

empty_read : (b : Stmt) (h : ℕ) (r : Read Stmt) → Some r ≡ Some (read b h []) → is_empty r.rest ≡ true
empty_read b h r e = ap nothing_left e

apart : {A : Type 0} (b : Bool) → b ≡ true → b ≡ false → A
apart true e o = absurd cc
apart false e o = absurd cc

body_by_rest : (types : List NameId) (inside : List Token) (r : Read Stmt) → is_braced inside ≡ true → statement types max_height inside
    ≡ Some r → (c : Bool) → is_empty r.rest ≡ c
    → BodyIs types inside (if c then body.Tree r.it else body.Skipped (Grammar (first_pos inside)))
body_by_rest types inside r braced e true empty = a_tree r.it (read_is_block types inside r braced ((sound.sound types max_height).statement inside r e) empty)
body_by_rest types inside r braced e false empty = no_tree (λ b d.
    apart (is_empty r.rest) (empty_read b d.height r (sym e ∙ block_is_read types inside b d)) empty)

body_by_read : (types : List NameId) (inside : List Token) → is_braced inside ≡ true → (o : Option (Read Stmt))
    → statement types max_height inside ≡ o → BodyIs types inside (body_by inside o)
body_by_read types inside braced None e = no_tree (λ b d. none_is_some (read b d.height []) (sym e ∙ block_is_read types inside b d))
body_by_read types inside braced (Some r) e = body_by_rest types inside r braced e (is_empty r.rest) refl

body_is : (types : List NameId) (inside : List Token) → is_braced inside ≡ true → BodyIs types inside (body_of types inside)
unfolding body_of
body_is types inside braced = body_by_read types inside braced (statement types max_height inside) refl

the_tree : (types : List NameId) (inside : List Token) (b : Stmt) → IsBlock types inside b → body_of types inside ≡ body.Tree b
unfolding body_of
the_tree types inside b d = rw (block_is_read types inside b d) refl

the_skipped : (types : List NameId) (inside : List Token) → ((b : Stmt) → IsBlock types inside b → ⊥) → (y : Body) → BodyIs types inside y
    → y ≡ body.Skipped (Grammar (first_pos inside))
the_skipped types inside none y (a_tree b d) = absurd (none b d)
the_skipped types inside none y (no_tree other) = refl

-- ---- one segment

function_fits : (types : List NameId) (ts : List Token) (x : Head) (inside : List Token) → IsFunction types ts x inside → (y : Body)
    → BodyIs types inside y → Fits types types ts (segment.Function x y)
function_fits types ts x inside f y (a_tree b d) = units.a_function f d
function_fits types ts x inside f y (no_tree none) = units.a_skipped_body f none

outline_fits : (types : List NameId) (ts : List Token) (x : Outline) (us : List NameId) (inside : List Token)
    → Outlines types ts x us inside → Fits types (filled x us inside).types ts (filled x us inside).it
outline_fits types ts (outline.Decl x) us inside d = units.a_declaration d
outline_fits types ts (outline.Function x) us inside f =
    subst (λ (vs : List NameId). Fits types vs ts (segment.Function x (body_of vs inside))) (sym f.1)
    (function_fits types ts x inside f.0 (body_of types inside) (body_is types inside f.0.braced))

segment_fits : (types : List NameId) (ts : List Token) (o : Option Outlined) → outline_of types ts ≡ o
    → Fits types (segment_by types ts o).types ts (segment_by types ts o).it
unfolding segment_by
segment_fits types ts None e = units.a_skipped ts
    (λ us x d. none_is_some (outlined (outline.Decl x) us []) (sym e ∙ (whole.outline types ts).declaration us x d))
    (λ x inside f. none_is_some (outlined (outline.Function x) types inside) (sym e ∙ (whole.outline types ts).function x inside f))
segment_fits types ts (Some o) e = outline_fits types ts o.it o.types o.inside ((whole.outline types ts).sound o e)

-- the segment and the typedef names behind it
abbrev Gives : Segmented → Segment → List NameId → Type 0
Gives s x us = (x ≡ s.it) × (us ≡ s.types)

no_outline : (types : List NameId) (ts : List Token) → ((us : List NameId) (x : FileDecl) → IsDeclaration types us ts x → ⊥)
    → ((x : Head) (inside : List Token) → IsFunction types ts x inside → ⊥)
    → (x : Outline) (us : List NameId) (inside : List Token) → Outlines types ts x us inside → ⊥
no_outline types ts no_declaration no_function (outline.Decl x) us inside d = no_declaration us x d
no_outline types ts no_declaration no_function (outline.Function x) us inside f = no_function x inside f.0

skipped_gives : (types : List NameId) (ts : List Token) → ((us : List NameId) (x : FileDecl) → IsDeclaration types us ts x → ⊥)
    → ((x : Head) (inside : List Token) → IsFunction types ts x inside → ⊥)
    → (o : Option Outlined) → outline_of types ts ≡ o → Gives (segment_by types ts o) (segment.Skipped (Grammar (first_pos ts))) types
unfolding segment_by
skipped_gives types ts no_declaration no_function None e = (refl, refl)
skipped_gives types ts no_declaration no_function (Some o) e =
    absurd (no_outline types ts no_declaration no_function o.it o.types o.inside ((whole.outline types ts).sound o e))

segment_gives : (types us : List NameId) (ts : List Token) (x : Segment) → Fits types us ts x → Gives (segment_of types ts) x us
unfolding segment_of segment_by
segment_gives types us ts y (units.a_declaration {x = x} d) = rw ((whole.outline types ts).declaration us x d) (refl, refl)
segment_gives types us ts y (units.a_function {inside = inside} {x = x} {b = b} f d) =
    rw ((whole.outline types ts).function x inside f, the_tree types inside b d) (refl, refl)
segment_gives types us ts y (units.a_skipped_body {inside = inside} {x = x} f none) =
    rw ((whole.outline types ts).function x inside f, the_skipped types inside none (body_of types inside) (body_is types inside f.braced)) (refl, refl)
segment_gives types us ts y (units.a_skipped rs no_declaration no_function) = skipped_gives types ts no_declaration no_function (outline_of types ts) refl

pub one_segment : (types : List NameId) (ts : List Token) → IsSegment types ts
unfolding segment_of
one_segment types ts = record {
  fits = segment_fits types ts (outline_of types ts) refl;
  only = λ us x f. segment_gives types us ts x f;
}

-- ---- all segments

all_fit : (types : List NameId) (ts : List Token) (from : ℕ) (ends : List ℕ) → AllFit types ts from ends (segments_of types ts from ends)
unfolding segments_of
all_fit types ts from [] = units.none types ts from
all_fit types ts from (end ∷ ends) =
    let s : Segmented = segment_of types (take (end - from) (drop from ts)) in
    units.next (one_segment types (take (end - from) (drop from ts))).fits (all_fit s.types ts end ends)

all_only : (types : List NameId) (ts : List Token) (from : ℕ) (ends : List ℕ) (xs : List Segment) → AllFit types ts from ends xs → xs
    ≡ segments_of types ts from ends
unfolding segments_of
all_only types ts from ends xs (units.none us rs start) = refl
all_only types ts from ends xs (units.next {types = us} {behind = after} {from = start} {end = end} {ends = others} {x = x} {xs = ys} f fs) =
    let one = (one_segment types (take (end - from) (drop from ts))).only after x f in
    ap₂ (λ (y : Segment) (zs : List Segment). y ∷ zs) one.0 (all_only after ts end others ys fs ∙ ap (λ (vs : List NameId). segments_of vs ts end others) one.1)

pub all_segments : (types : List NameId) (ts : List Token) (from : ℕ) (ends : List ℕ) → AreSegments types ts from ends
all_segments types ts from ends = record { fit = all_fit types ts from ends; only = λ xs f. all_only types ts from ends xs f }

-- ---- at most one

pub one_fit : (types us vs : List NameId) (ts : List Token) (x y : Segment) → Fits types us ts x → Fits types vs ts y → (x ≡ y) × (us ≡ vs)
one_fit types us vs ts x y f g =
    let all = one_segment types ts in
    let one = all.only us x f in
    let two = all.only vs y g in
    (one.0 ∙ sym two.0, one.1 ∙ sym two.1)

pub one_list : (types : List NameId) (ts : List Token) (from : ℕ) (ends : List ℕ) (xs ys : List Segment) → AllFit types ts from ends xs
    → AllFit types ts from ends ys → xs ≡ ys
one_list types ts from ends xs ys f g = all_only types ts from ends xs f ∙ sym (all_only types ts from ends ys g)

pub some_list : (types : List NameId) (ts : List Token) (from : ℕ) (ends : List ℕ) → (xs : List Segment) × AllFit types ts from ends xs
some_list types ts from ends = (segments_of types ts from ends, all_fit types ts from ends)
