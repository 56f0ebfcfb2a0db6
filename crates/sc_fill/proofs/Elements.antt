-- One element of an array takes values: it is the last one, or the next one follows.
use Rattle.std.proofs.Common.{◌≡◌, ℕ, zero, suc, ◌+◌, Bool, true, false, List, [], ◌∷◌, ◌++◌, length, Option, nat_eq, if◌then◌else◌, refl, sym, ◌∙◌, ap}
use Rattle.std.proofs.lemmas.Bool.{ne_eqb, eq-eqb}
use Rattle.sc_base.specs.declared.pos.Pos.{Pos}
use Rattle.sc_tree.specs.declared.ctype.Widths.{Widths}
use Rattle.sc_typed.specs.declared.stmt.InitStep.{InitStep}
use Rattle.sc_typed.specs.declared.stmt.InitStep.TheVariants as step
use Rattle.sc_rules.specs.declared.walk.Walk.{Walk}
use Rattle.sc_rules.specs.Walks.{Check, ◌>>=◌, done, then_with}
use Rattle.sc_fill.specs.declared.filling.Filling.{Filling}
use Rattle.sc_fill.specs.Filling.{Filler, elements, is_full}

module _ (w : Widths) (at : Pos) (inner : Filler) (n : Option ℕ) where
  -- what follows an element
  abbrev after : (rest k : ℕ) → List InitStep → (f g : Filling) → Check Filling
  after rest k way f g = if nat_eq (length g.left) (length f.left) then done g else elements w at inner n rest (k + 1) way g

  full_here : (fuel k : ℕ) (way : List InitStep) (f : Filling) (v : Walk) → is_full n k ≡ true → elements w at inner n fuel k way f v ≡ (f, v)
  full_here zero k way f v full = refl
  full_here (suc rest) k way f v full = ap (λ (b : Bool). (if b then done f else (inner (way ++ step.Elem k ∷ []) true f >>= after rest k way f)) v) full

  pub element_full : (fuel k : ℕ) (way : List InitStep) (f : Filling) (v : Walk) → is_full n k ≡ true → elements w at inner n fuel k way f v ≡ (f, v)
  element_full fuel k way f v full = full_here fuel k way f v full

  filled : (rest k : ℕ) (way : List InitStep) (f g : Filling) (v u : Walk) → is_full n k ≡ false → inner (way ++ step.Elem k ∷ []) true f v ≡ (g, u) → elements w at inner n (suc rest) k way f v ≡ after rest k way f g u
  filled rest k way f g v u room ran =
      ap (λ (b : Bool). (if b then done f else (inner (way ++ step.Elem k ∷ []) true f >>= after rest k way f)) v) room
      ∙ ap (λ (r : Filling × Walk). then_with r (after rest k way f)) ran

  pub element_last : (fuel rest k : ℕ) (way : List InitStep) (f g : Filling) (v u : Walk) → fuel ≡ suc rest → is_full n k ≡ false → inner (way ++ step.Elem k ∷ []) true f v ≡ (g, u) → length g.left ≡ length f.left
      → elements w at inner n fuel k way f v ≡ (g, u)
  element_last fuel rest k way f g v u count room ran same =
      ap (λ (m : ℕ). elements w at inner n m k way f v) count ∙ filled rest k way f g v u room ran
      ∙ ap (λ (b : Bool). (if b then done g else elements w at inner n rest (k + 1) way g) u) (eq-eqb (length g.left) (length f.left) same)

  pub element_next : (fuel rest k : ℕ) (way way' : List InitStep) (f g : Filling) (v u : Walk) → fuel ≡ suc rest → is_full n k ≡ false → inner (way ++ step.Elem k ∷ []) true f v ≡ (g, u) → (length g.left ≡ length f.left → ⊥)
      → way' ≡ way → elements w at inner n rest (k + 1) way' g u ≡ elements w at inner n fuel k way f v
  element_next fuel rest k way way' f g v u count room ran differ ways =
      ap (λ (x : List InitStep). elements w at inner n rest (k + 1) x g u) ways
      ∙ sym (ap (λ (m : ℕ). elements w at inner n m k way f v) count ∙ filled rest k way f g v u room ran
      ∙ ap (λ (b : Bool). (if b then done g else elements w at inner n rest (k + 1) way g) u) (ne_eqb (length g.left) (length f.left) differ))
