-- The segments of a file, one after the other.
use Rattle.std.proofs.Common.{◌≡◌, ℕ, ◌+◌, ◌-◌, ◌<◌, ◌≤◌, length, take, drop, get_or, List, [], ◌∷◌, ◌++◌, sym, ap, subst, ◌∙◌, append_assoc}
use Rattle.std.proofs.lemmas.List.{append-nil, drop_more}
use Rattle.std.proofs.Math.ListN.{drop_of_length-le}
use Rattle.sc_base.specs.declared.pos.NameId.{NameId}
use Rattle.sc_tree.specs.declared.token.Token.{Token}
use Rattle.sc_tree.specs.declared.unit.Segment.{Segment}
use Rattle.sc_tree.specs.Segments.{Cuts}
use Rattle.sc_tree.specs.Units.{AllFit}
use Rattle.sc_parse_unit.specs.Reading.{segmented, segment_of, segments_of}
use Rattle.sc_parse_unit.proofs.Fitting.{all_segments}

pub next_segment : {all : List Segment} (xs ys : List Segment) (types us : List NameId) (ts left : List Token) (from i : ℕ) (ends : List ℕ)
    (x : Segment) → i < length ends
    → all ≡ xs ++ segments_of types ts from (drop i ends) → left ≡ take (get_or ends i 0 - from) (drop from ts) → segment_of types left
    ≡ segmented x us → ys ≡ xs ++ x ∷ []
    → all ≡ ys ++ segments_of us ts (get_or ends i 0) (drop (i + 1) ends)
unfolding segments_of
next_segment xs ys types us ts left from i ends x below so cut is more =
    so ∙ ap (λ es. xs ++ segments_of types ts from es) (drop_more ends i 0 below)
    ∙ ap (λ s. xs ++ (s.it ∷ segments_of s.types ts (get_or ends i 0) (drop (i + 1) ends))) (ap (segment_of types) (sym cut) ∙ is)
    ∙ sym (append_assoc xs (x ∷ []) (segments_of us ts (get_or ends i 0) (drop (i + 1) ends)))
    ∙ ap (λ (l : List Segment). l ++ segments_of us ts (get_or ends i 0) (drop (i + 1) ends)) (sym more)

pub next_cuts : (from n i : ℕ) (ends : List ℕ) → i < length ends → Cuts from n (drop i ends) → Cuts (get_or ends i 0) n (drop (i + 1) ends)
next_cuts from n i ends below cuts = let c = subst (λ (es : List ℕ). Cuts from n es) (drop_more ends i 0 below) cuts in c.2

pub all_read : (xs : List Segment) (types : List NameId) (ts : List Token) (from i : ℕ) (ends : List ℕ) → length ends ≤ i
    → segments_of [] ts 0 ends ≡ xs ++ segments_of types ts from (drop i ends) → AllFit [] ts 0 ends xs
unfolding segments_of
all_read xs types ts from i ends done so =
    subst (λ (l : List Segment). AllFit [] ts 0 ends l) (so ∙ ap (λ es. xs ++ segments_of types ts from es) (drop_of_length-le ends done)
    ∙ append-nil xs) (all_segments [] ts 0 ends).fit
