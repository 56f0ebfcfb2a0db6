-- Values go one level deeper.
use Rattle.std.proofs.Common.{◌≡◌, ℕ, zero, suc, ◌-◌, ◌<◌, Bool, List, [], ◌∷◌, length, refl, arith}
use Rattle.sc_base.specs.declared.pos.Pos.{Pos}
use Rattle.sc_tree.specs.declared.ctype.CType.{CType, out-CType}
use Rattle.sc_tree.specs.declared.ctype.Widths.{Widths}
use Rattle.sc_typed.specs.declared.expr.TExpr.{TExpr}
use Rattle.sc_typed.specs.declared.stmt.InitStep.{InitStep}
use Rattle.sc_rules.specs.declared.walk.Walk.{Walk}
use Rattle.sc_fill.specs.declared.filling.Filling.{Filling}
use Rattle.sc_fill.specs.Filling.{Filler, fill, fill_layer, fill_if_left}

layered : (w : Widths) (at : Pos) (left : List TExpr) (inner : Filler) (way : List InitStep) (whole : Bool) (f : Filling) (v : Walk) → 0 < length left → fill_if_left w at left inner way whole f v ≡ inner way whole f v
layered w at [] inner way whole f v some = absurd (omega (arith, some))
layered w at (e ∷ es) inner way whole f v some = refl

pub deeper : (w : Widths) (at : Pos) (deep : ℕ) (t : CType) (way : List InitStep) (whole : Bool) (f : Filling) (v : Walk) → 0 < deep → 0 < length f.left → fill w at deep t way whole f v ≡ fill_layer w at (fill w at (deep - 1)) t (out-CType t) way whole f v
unfolding fill
deeper w at zero t way whole f v some left = absurd (omega (arith, some))
deeper w at (suc deep) t way whole f v some left =
    let e : suc deep - 1 ≡ deep = omega arith in
    rw e (layered w at f.left (fill_layer w at (fill w at deep) t (out-CType t)) way whole f v left)

none_by : (w : Widths) (at : Pos) (left : List TExpr) (inner : Filler) (way : List InitStep) (whole : Bool) (f : Filling) (v : Walk) → length left ≡ 0 → fill_if_left w at left inner way whole f v ≡ (f, v)
none_by w at [] inner way whole f v none = refl
none_by w at (e ∷ es) inner way whole f v none = absurd (omega (arith, none))

pub none_left : (w : Widths) (at : Pos) (deep : ℕ) (t : CType) (way : List InitStep) (whole : Bool) (f : Filling) (v : Walk) → length f.left ≡ 0 → fill w at deep t way whole f v ≡ (f, v)
unfolding fill
none_left w at zero t way whole f v none = refl
none_left w at (suc deep) t way whole f v none = none_by w at f.left (fill_layer w at (fill w at deep) t (out-CType t)) way whole f v none

pub none_deep : (w : Widths) (at : Pos) (deep : ℕ) (t : CType) (way : List InitStep) (whole : Bool) (f : Filling) (v : Walk) → deep ≡ 0 → fill w at deep t way whole f v ≡ (f, v)
unfolding fill
none_deep w at zero t way whole f v none = refl
none_deep w at (suc deep) t way whole f v none = absurd (omega (arith, none))
