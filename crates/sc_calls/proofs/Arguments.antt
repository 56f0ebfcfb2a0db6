-- The arguments so far, with those that are left behind them.
use Rattle.std.proofs.Common.{◌≡◌, refl, ap, Option, Some, None, List, [], ◌∷◌, ◌++◌, append_assoc, append-nil}
use Rattle.sc_typed.specs.declared.expr.TExpr.{TExpr}
use Rattle.sc_rules.specs.declared.walk.Walk.{Walk}
use Rattle.sc_rules.specs.Walks.{done, then_with}
use Rattle.sc_calls.specs.Calls.{with_first, with_last}

abbrev pub behind_those : Option (List TExpr) → Option (List TExpr) × Walk → Option (List TExpr) × Walk
behind_those None (r, w) = (None, w)
behind_those (Some xs) (None, w) = (None, w)
behind_those (Some xs) (Some ys, w) = (Some (xs ++ ys), w)

pub behind_none : (r : Option (List TExpr) × Walk) → behind_those (Some []) r ≡ r
behind_none (None, w) = refl
behind_none (Some ys, w) = refl

pub behind_end : (all : Option (List TExpr)) (w : Walk) → behind_those all (Some [], w) ≡ (all, w)
behind_end None w = refl
behind_end (Some xs) w = ap (λ zs. (Some zs, w)) (append-nil xs)

pub behind_one : (all : Option (List TExpr)) (x : Option TExpr) (r : Option (List TExpr) × Walk) → behind_those (with_last all x) r ≡ behind_those all (then_with r (λ r. done (with_first x r)))
behind_one None x (r, w) = refl
behind_one (Some xs) None (r, w) = refl
behind_one (Some xs) (Some x) (None, w) = refl
behind_one (Some xs) (Some x) (Some ys, w) = ap (λ zs. (Some zs, w)) (append_assoc xs (x ∷ []) ys)
