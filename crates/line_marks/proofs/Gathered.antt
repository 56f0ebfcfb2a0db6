-- Marks so far, in their order.
use Rattle.std.proofs.Common.{◌≡◌, ℕ, zero, suc, ◌+◌, ◌-◌, ◌<◌, ◌≤◌, Bool, true, false, cond, not, ltb, List, [], ◌∷◌, ◌++◌, length, drop, take, get_or, Option, Some, None, refl, sym, ap, ◌∙◌, subst, append_assoc, append-nil, arith}
use Rattle.std.specs.List.{All, onto_first, position_or_len, position}
use Rattle.std.proofs.lemmas.Bool.{ltb-true, ltb-false}
use Rattle.std.specs.List.Sorted.{IsNonDecreasingBy}
use Rattle.std.proofs.lemmas.List.Elements.{All-append}
use Rattle.std.proofs.lemmas.List.Sorted.{IsNonDecreasingBy-push, IsNonDecreasingBy-short}
use Rattle.std.proofs.lemmas.List.{drop-drop}
use Rattle.std.proofs.lemmas.List.Splits.{slice_split_first, slice_split-cons_no}
use Rattle.line_marks.specs.declared.marks.Mark.{Mark}
use Rattle.line_marks.specs.declared.markers.Marker.{Marker}
use Rattle.line_marks.specs.Comments.{comment_behind}
use Rattle.line_marks.specs.Markers.{marker}
use Rattle.line_marks.specs.Marks.{is_feed, lines, mark_at, mark_if, marks_in}

-- marks in their order, all above a line
pub record Ordered (ms : List Mark) (at : ℕ) : Type 0 where
  pub order : IsNonDecreasingBy (λ (m : Mark). m.at) ms
  pub above : All (λ (m : Mark). m.at < at) ms

pub record SoFar (all rest : List ℕ) (at : ℕ) (commented : Bool) (so_far : List Mark) : Type 0 where
  pub whole : so_far ++ marks_in at commented (lines rest) ≡ marks_in 1 false (lines all)
  pub counted : at + length rest ≤ 1 + length all
  pub ordered : Ordered so_far at

higher : (ms : List Mark) (at : ℕ) → All (λ (m : Mark). m.at < at) ms → All (λ (m : Mark). m.at < at + 1) ms
higher ms at h = λ k d inside. let below = h k d inside in omega (arith, below)

alone : (m : Mark) (at : ℕ) → m.at < at → (k : ℕ) (d : Mark) → k < 1 → (get_or (m ∷ []) k d).at < at
alone m at h zero d inside = h
alone m at h (suc k) d inside = absurd (omega (arith, inside))

with_mark : (ms : List Mark) (at : ℕ) (found : Option Marker) → Ordered ms at → Ordered (ms ++ mark_at at found) (at + 1)
with_mark ms at None o =
    let P : List Mark → Type 0 = λ l. Ordered l (at + 1) in
    subst P (sym (append-nil ms)) (record { order = o.order; above = higher ms at o.above })
with_mark ms at (Some m) o =
    let new : Mark = record { at = at; marker = m } in
    record {
      order = IsNonDecreasingBy-push (λ (x : Mark). x.at) ms new o.order (λ d some. let last = o.above (length ms - 1) d (omega (arith, some)) in omega (arith, last));
      above = All-append (λ (x : Mark). x.at < at + 1) ms (new ∷ []) (higher ms at o.above) (alone new (at + 1) (omega arith));
    }

pub ordered_more : (ms : List Mark) (at : ℕ) (commented : Bool) (line : List ℕ) → Ordered ms at → Ordered (ms ++ mark_if at commented line) (at + 1)
ordered_more ms at true line o = with_mark ms at None o
ordered_more ms at false line o = with_mark ms at (marker line) o

pub first_so_far : (all : List ℕ) → SoFar all all 1 false []
first_so_far all = record {
  whole = refl;
  counted = omega arith;
  ordered = record { order = IsNonDecreasingBy-short (λ (m : Mark). m.at) [] (omega arith); above = λ k d inside. absurd (omega (arith, inside)) };
}

-- with one line more
pub line_more : (all rest line behind : List ℕ) (at : ℕ) (commented later : Bool) (ms next : List Mark) → SoFar all rest at commented ms
    → lines rest ≡ line ∷ lines behind → length behind < length rest → next ≡ ms ++ mark_if at commented line
    → later ≡ comment_behind commented line → SoFar all behind (at + 1) later next
line_more all rest line behind at commented later ms next so_far cut shorter put comment =
    let P : List Mark → Type 0 = λ l. Ordered l (at + 1) in
    record {
      whole =
          ap (λ l. l ++ marks_in (at + 1) later (lines behind)) put
          ∙ append_assoc ms (mark_if at commented line) (marks_in (at + 1) later (lines behind))
          ∙ ap (λ b. ms ++ (mark_if at commented line ++ marks_in (at + 1) b (lines behind))) comment
          ∙ ap (λ l. ms ++ marks_in at commented l) (sym cut)
          ∙ so_far.whole;
      counted = omega (arith, so_far.counted, shorter);
      ordered = subst P (sym put) (ordered_more ms at commented line so_far.ordered);
    }

-- with the last line
pub line_last : (all rest : List ℕ) (at : ℕ) (commented : Bool) (ms next : List Mark) → SoFar all rest at commented ms
    → lines rest ≡ rest ∷ [] → next ≡ ms ++ mark_if at commented rest → next ≡ marks_in 1 false (lines all)
line_last all rest at commented ms next so_far cut put =
    put ∙ ap (λ l. ms ++ l) (sym (append-nil (mark_if at commented rest))) ∙ ap (λ l. ms ++ marks_in at commented l) (sym cut) ∙ so_far.whole

-- the lines of bytes, by the place of the first line feed
pub cut_there : (bytes : List ℕ) → position_or_len is_feed bytes < length bytes
    → lines bytes ≡ take (position_or_len is_feed bytes) bytes ∷ lines (drop (position_or_len is_feed bytes + 1) bytes)
cut_there bytes inside = slice_split_first is_feed bytes 0 inside

uncut_by : (c : ℕ) (cs : List ℕ) (b : Bool) → is_feed c ≡ b → cond (not b) (1 + position_or_len is_feed cs) 0 ≡ position_or_len is_feed (c ∷ cs)
    → length (c ∷ cs) ≤ position_or_len is_feed (c ∷ cs) → (length cs ≤ position_or_len is_feed cs → lines cs ≡ cs ∷ []) → lines (c ∷ cs) ≡ (c ∷ cs) ∷ []
uncut_by c cs true is at past more = absurd (omega (arith, at, past))
uncut_by c cs false is at past more =
    slice_split-cons_no is_feed c cs is ∙ ap (onto_first c) (more (omega (arith, at, past)))

pub uncut : (bytes : List ℕ) → length bytes ≤ position_or_len is_feed bytes → lines bytes ≡ bytes ∷ []
uncut [] past = refl
uncut (c ∷ cs) past = uncut_by c cs (is_feed c) refl refl past (uncut cs)

found_by : (end place : ℕ) (b : Bool) → cond b (Some place) None ≡ Some end → (b ≡ true) × (place ≡ end)
found_by end place true is = (refl, cc)
found_by end place false is = absurd (cc)

none_by : (place : ℕ) (b : Bool) → cond b (Some place) None ≡ None → b ≡ false
none_by place true is = absurd (cc)
none_by place false is = refl

pub lines_cut : (bytes : List ℕ) (end : ℕ) → position is_feed bytes ≡ Some end
    → lines bytes ≡ take end bytes ∷ lines (drop 1 (drop end bytes))
lines_cut bytes end is =
    let place = position_or_len is_feed bytes in
    let f = found_by end place (ltb place (length bytes)) is in
    cut_there bytes (ltb-true place (length bytes) f.0)
    ∙ ap (λ n. take n bytes ∷ lines (drop (n + 1) bytes)) f.1
    ∙ ap (λ l. take end bytes ∷ lines l) (sym (drop-drop 1 end bytes))

pub lines_uncut : (bytes : List ℕ) → position is_feed bytes ≡ None → lines bytes ≡ bytes ∷ []
lines_uncut bytes is =
    let place = position_or_len is_feed bytes in
    uncut bytes (ltb-false place (length bytes) (none_by place (ltb place (length bytes)) is))
