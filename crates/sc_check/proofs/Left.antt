-- What a walk over files leaves does not rest on what was made before.
use Rattle.std.proofs.Common.{◌≡◌, ℕ, ◌+◌, ◌<◌, length, drop, get_or, Option, Some, None, List, [], ◌∷◌, ◌++◌}
use Rattle.std.proofs.Common.{Result, Ok, Err, IfOk, true, refl, sym, ◌∙◌, ap}
use Rattle.sc_base.specs.declared.skip.Skip.{Skip}
use Rattle.sc_tree.specs.declared.unit.Unit as file
use Rattle.sc_tree.specs.declared.unit.FileDecl.TheVariants as file_decl
use Rattle.sc_tree.specs.declared.unit.Segment.{Segment}
use Rattle.sc_tree.specs.declared.unit.Segment.TheVariants as segment
use Rattle.sc_tree.specs.declared.decl.Decl.{Decl}
use Rattle.sc_rules.specs.declared.walk.Walk.{Walk}
use Rattle.sc_rules.specs.declared.walk.Fault.{Fault}
use Rattle.sc_typed.specs.declared.program.Function.{Function}
use Rattle.sc_rules.specs.Walks.{then_with, done}
use Rattle.sc_files.specs.declared.notes.Before.{Before}
use Rattle.sc_files.specs.Notes.{so_far, noted, begin_file}
use Rattle.sc_declarations.specs.Declarations.{declaration}
use Rattle.sc_typing.specs.Here.{Here}
use Rattle.sc_check.specs.Files.{Made, function, file_declaration, file_in, segment_in, segments_in}
use Rattle.sc_check.specs.Left.{segment_left, segments_left, file_left, files_left}
use Rattle.sc_check.specs.Typed.{walk_files}
use Rattle.sc_check.proofs.Walked.{cut}

-- a step behind which the walk stays
stays : {A B : Type 0} (r : A × Walk) (g : A → B) → (then_with r (λ a. done (g a))).1 ≡ r.1
stays (a, w) g = refl

noted_left : (b : Before) (f : Option Fault) (ns ms : List Skip) (w : Walk)
    → (noted b f ns w).1 ≡ (noted b f ms w).1
noted_left b None ns ms w = refl
noted_left b (Some f) ns ms w = refl

declaration_left : (here : Here) (d : Decl) (ns : List Skip) (w : Walk)
    → (file_declaration here d ns w).1 ≡ (file_declaration here d [] w).1
declaration_left here d ns w =
    noted_left (so_far w) (declaration here true d w).1.first ns []
    (declaration here true d w).1

one_left : (here : Here) (m : Made) (s : Segment) (w : Walk) → (segment_in here m s w).1 ≡ segment_left here s w
one_left here m (segment.Skipped k) w = refl
one_left here m (segment.Function h b) w =
    stays (function here h b w) (λ (f : Function). record m { functions = m.functions ++ f ∷ [] })
one_left here m (segment.Decl (file_decl.Empty at)) w = refl
one_left here m (segment.Decl (file_decl.Full d)) w =
    stays (file_declaration here d m.notes w) (λ (ns : List Skip). record m { notes = ns })
    ∙ declaration_left here d m.notes w

after_one : (here : Here) (ss : List Segment) (r : Made × Walk)
    → ((m : Made) (w : Walk) → (segments_in here m ss w).1 ≡ segments_left here ss w)
    → (then_with r (λ n. segments_in here n ss)).1 ≡ segments_left here ss r.1
after_one here ss (n, v) rest = rest n v

all_left : (here : Here) (ss : List Segment) (m : Made) (w : Walk)
    → (segments_in here m ss w).1 ≡ segments_left here ss w
all_left here [] m w = refl
all_left here (s ∷ ss) m w =
    after_one here ss (segment_in here m s w) (all_left here ss)
    ∙ ap (segments_left here ss) (one_left here m s w)

after_file : (heres : ℕ → Here) (xs : List file.Unit) (r : Made × Walk)
    → ((m : Made) (w : Walk) → (walk_files heres m xs w).1 ≡ files_left heres xs w)
    → (then_with r (λ n. walk_files heres n xs)).1 ≡ files_left heres xs r.1
after_file heres xs (n, v) rest = rest n v

pub walk_left : (heres : ℕ → Here) (xs : List file.Unit) (m : Made) (w : Walk)
    → (walk_files heres m xs w).1 ≡ files_left heres xs w
walk_left heres [] m w = refl
walk_left heres (x ∷ xs) m w =
    after_file heres xs (file_in (heres x.file) m x.segments w) (walk_left heres xs)
    ∙ ap (files_left heres xs) (all_left (heres x.file) x.segments m (begin_file w).1)

-- A segment, and a file, that was walked over.

-- what a step leaves that is known to end in a walk
pub step_left : {A : Type 0} (due : A × Walk) (x : A) (v : Walk) → due ≡ (x, v) → v ≡ due.1
step_left {A = A} due x v is = ap (λ (p : A × Walk). p.1) (sym is)

pub next_segment : (here : Here) (ss : List Segment) (k : ℕ) (s : Segment) (v u all : Walk)
    → s ≡ get_or ss k s → k < length ss → u ≡ segment_left here s v → segments_left here (drop k ss) v ≡ all
    → segments_left here (drop (k + 1) ss) u ≡ all
next_segment here ss k s v u all is within left so_far =
    ap (segments_left here (drop (k + 1) ss)) left
    ∙ ap (λ (ys : List Segment). segments_left here ys v) (cut ss k s is within)
    ∙ so_far

pub next_file : (heres : ℕ → Here) (xs : List file.Unit) (k : ℕ) (x : file.Unit) (v u all : Walk)
    → x ≡ get_or xs k x → k < length xs → u ≡ file_left (heres x.file) x.segments v
    → files_left heres (drop k xs) v ≡ all → files_left heres (drop (k + 1) xs) u ≡ all
next_file heres xs k x v u all is within left so_far =
    ap (files_left heres (drop (k + 1) xs)) left
    ∙ ap (λ (ys : List file.Unit). files_left heres ys v) (cut xs k x is within)
    ∙ so_far

-- the walk that the first walk over all files leaves
pub walked : {E : Type 0} (heres : ℕ → Here) (xs : List file.Unit) (m : Made) (w : Walk) (r : Result Walk E)
    → IfOk r (λ v. v ≡ files_left heres xs w) → IfOk r (λ v. v ≡ (walk_files heres m xs w).1)
walked heres xs m w (Ok v) is = is ∙ sym (walk_left heres xs m w)
walked heres xs m w (Err e) is = tt
