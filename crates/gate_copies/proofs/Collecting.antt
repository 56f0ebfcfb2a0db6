-- The cells of an object, one location after another.
use Rattle.std.proofs.Common.{◌≡◌, ℕ, suc, ◌+◌, ◌<◌, ◌≤◌, Bool, true, false, ◌&&◌, List, [], ◌∷◌, ◌++◌, length, map, if◌then◌else◌, refl, sym, ◌∙◌, ap, append_assoc, add-one}
use Rattle.std.proofs.lemmas.List.{append-nil}
use Rattle.std.specs.List.{range_with_len}
use Rattle.sc_world.specs.Layout.{Layout, location, is_cell}
use Rattle.sc_world.specs.Eval.{is_within, cells_among, cells_of}
use Rattle.run_values.specs.Objects.{is_cell_of, cells_from}
use Rattle.run_values.proofs.Cells.{cells_all, cells_in as next_cell, cells_out, cells_end}
use Rattle.gate_copies.specs.Objects.{cell_targets}

pub cell_added : (p : Layout) (at k target : ℕ) (old new : List ℕ) → k < length p.locations → is_cell_of p at k ≡ true → target ≡ k + 1
    → new ≡ old ++ target ∷ [] → new ++ map suc (cells_from p at (k + 1)) ≡ old ++ map suc (cells_from p at k)
cell_added p at k target old new low is one pushed =
    let rest = map suc (cells_from p at (k + 1)) in
    ap (λ ts. ts ++ rest) pushed ∙ append_assoc old (target ∷ []) rest ∙ ap (λ n. old ++ n ∷ rest) (one ∙ add-one k)
    ∙ ap (λ ks. old ++ map suc ks) (sym (next_cell p at k low is))

pub cell_passed : (p : Layout) (at k : ℕ) (old : List ℕ) → k < length p.locations → is_cell_of p at k ≡ false
    → old ++ map suc (cells_from p at (k + 1)) ≡ old ++ map suc (cells_from p at k)
cell_passed p at k old low is = ap (λ ks. old ++ map suc ks) (sym (cells_out p at k low is))

pub cells_first : (p : Layout) (at : ℕ) (cells : List ℕ) → cells ≡ [] → cells ++ map suc (cells_from p at 0) ≡ cell_targets p at
cells_first p at cells e = ap (λ ts. ts ++ map suc (cells_from p at 0)) e ∙ ap (map suc) (sym (cells_all p at))

pub cells_last : (p : Layout) (at k : ℕ) (cells : List ℕ) → length p.locations ≤ k → cells ++ map suc (cells_from p at k) ≡ cell_targets p at
    → cells ≡ cell_targets p at
cells_last p at k cells past h = sym (ap (λ ks. cells ++ map suc ks) (cells_end p at k past) ∙ append-nil cells) ∙ h

-- all of them are cells
abbrev pub AreCells : Layout → List ℕ → Type 0
AreCells p [] = Unit {0}
AreCells p (k ∷ ks) = (is_cell (location p k) ≡ true) × AreCells p ks

cells_are_among : (p : Layout) (at : ℕ) (ks : List ℕ) → AreCells p (cells_among p at ks)
cells_are_among p at [] = tt
cells_are_among p at (k ∷ ks) = by (is_cell (location p k)) (is_within 256 p at k) refl (cells_are_among p at ks)
  where
    by : (b c : Bool) → is_cell (location p k) ≡ b → AreCells p (cells_among p at ks)
        → AreCells p (if b && c then k ∷ cells_among p at ks else cells_among p at ks)
    by true true e rest = (e, rest)
    by true false e rest = rest
    by false c e rest = rest

pub cells_are : (p : Layout) (at : ℕ) → AreCells p (cells_of p at)
cells_are p at = cells_are_among p at (range_with_len 0 (length p.locations))
