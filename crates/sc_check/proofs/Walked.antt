-- One item more of a list: what it adds, with what the items behind it add, is what is due.
use Rattle.std.proofs.Common.{◌≡◌, ℕ, ◌+◌, ◌<◌, length, drop, get_or, Option, List, ◌∷◌, ◌++◌}
use Rattle.std.proofs.Common.{append_assoc, sym, ◌∙◌, ap}
use Rattle.std.proofs.lemmas.List.{drop_more}
use Rattle.sc_tree.specs.declared.ctype.Widths.{Widths}
use Rattle.sc_tree.specs.declared.unit.Unit as file
use Rattle.sc_tree.specs.declared.unit.Segment.{Segment}
use Rattle.sc_rules.specs.declared.walk.Walk.{Walk}
use Rattle.sc_rules.specs.Walks.{then_with}
use Rattle.sc_rules.specs.declared.walk.Builtin.{Builtin}
use Rattle.sc_typing.specs.Here.{Here}
use Rattle.file_tables.specs.declared.tables.FileTables.{FileTables}
use Rattle.file_tables.specs.Linkage.{body, is_local, global_type}
use Rattle.sc_check.specs.Files.{Made, file_in, segment_in, segments_in}
use Rattle.sc_check.specs.Heres.{linked_here}
use Rattle.sc_check.specs.Typed.{walk_files}
use Rattle.sc_check.proofs.Heres.{turned_is}

-- the item at a place, before those behind it
pub cut : {A : Type 0} (xs : List A) (k : ℕ) (x : A) → x ≡ get_or xs k x → k < length xs
    → x ∷ drop (k + 1) xs ≡ drop k xs
cut {A = A} xs k x is within = ap (λ (y : A). y ∷ drop (k + 1) xs) is ∙ sym (drop_more xs k x within)

-- a file
pub one_file : (heres : ℕ → Here) (m n : Made) (xs : List file.Unit) (k : ℕ) (x : file.Unit) (v u : Walk)
    (all : Made × Walk) → x ≡ get_or xs k x → k < length xs → file_in (heres x.file) m x.segments v ≡ (n, u)
    → walk_files heres m (drop k xs) v ≡ all → walk_files heres n (drop (k + 1) xs) u ≡ all
one_file heres m n xs k x v u all is within made so_far =
    ap (λ (r : Made × Walk). then_with r (λ o. walk_files heres o (drop (k + 1) xs))) (sym made)
    ∙ ap (λ (ys : List file.Unit). walk_files heres m ys v) (cut xs k x is within)
    ∙ so_far

-- a file in the second walk, whose tables mean what those of the first file do
pub one_linked : (w : Widths) (builtins : List (Option Builtin)) (t u : FileTables) (m n : Made) (xs : List file.Unit)
    (k : ℕ) (x : file.Unit) (v v' : Walk) (all : Made × Walk) → body u ≡ body t → is_local u ≡ is_local t
    → global_type u ≡ global_type t → x ≡ get_or xs k x → k < length xs
    → file_in (linked_here w builtins u x.file) m x.segments v ≡ (n, v')
    → walk_files (linked_here w builtins t) m (drop k xs) v ≡ all
    → walk_files (linked_here w builtins t) n (drop (k + 1) xs) v' ≡ all
one_linked w builtins t u m n xs k x v v' all bodies locals types is within made so_far =
    one_file (linked_here w builtins t) m n xs k x v v' all is within
    (ap (λ (heres : ℕ → Here). file_in (heres x.file) m x.segments v)
    (turned_is w builtins t u (sym bodies) (sym locals) (sym types)) ∙ made) so_far

-- a segment of a file
pub one_segment : (here : Here) (m n : Made) (ss : List Segment) (k : ℕ) (s : Segment) (v u : Walk) (all : Made × Walk)
    → s ≡ get_or ss k s → k < length ss → segment_in here m s v ≡ (n, u) → segments_in here m (drop k ss) v ≡ all
    → segments_in here n (drop (k + 1) ss) u ≡ all
one_segment here m n ss k s v u all is within made so_far =
    ap (λ (r : Made × Walk). then_with r (λ o. segments_in here o (drop (k + 1) ss))) (sym made)
    ∙ ap (λ (ys : List Segment). segments_in here m ys v) (cut ss k s is within)
    ∙ so_far

-- an item that adds to a list
pub one_added : {A B : Type 0} (all_of : List A → List B) (of : A → List B) (before new due : List B) (xs : List A)
    (k : ℕ) (x : A) → ((y : A) (ys : List A) → all_of (y ∷ ys) ≡ of y ++ all_of ys) → x ≡ get_or xs k x → k < length xs
    → new ≡ before ++ of x → before ++ all_of (drop k xs) ≡ due → new ++ all_of (drop (k + 1) xs) ≡ due
one_added {A = A} {B = B} all_of of before new due xs k x by is within added so_far =
    ap (λ (b : List B). b ++ all_of (drop (k + 1) xs)) added
    ∙ append_assoc before (of x) (all_of (drop (k + 1) xs))
    ∙ ap (λ (b : List B). before ++ b) (sym (by x (drop (k + 1) xs)))
    ∙ ap (λ (ys : List A). before ++ all_of ys) (cut xs k x is within)
    ∙ so_far
