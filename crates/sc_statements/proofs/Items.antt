-- The items so far, with those that are left behind them.
use Rattle.std.proofs.Common.{◌≡◌, refl, ap, Option, Some, None, List, [], ◌∷◌, ◌++◌, append_assoc, append-nil}
use Rattle.sc_typed.specs.declared.stmt.TStmt.{TStmt}
use Rattle.sc_statements.specs.Forms.{in_front, with_last}

abbrev pub behind_those : Option (List TStmt) → Option (List TStmt) → Option (List TStmt)
behind_those None ys = None
behind_those (Some xs) None = None
behind_those (Some xs) (Some ys) = Some (xs ++ ys)

pub behind_none : (ys : Option (List TStmt)) → behind_those (Some []) ys ≡ ys
behind_none None = refl
behind_none (Some ys) = refl

pub behind_end : (all : Option (List TStmt)) → behind_those all (Some []) ≡ all
behind_end None = refl
behind_end (Some xs) = ap (λ zs. Some zs) (append-nil xs)

pub behind_one : (all : Option (List TStmt)) (x : Option TStmt) (ys : Option (List TStmt)) → behind_those (with_last all x) ys ≡ behind_those all (in_front x ys)
behind_one None x ys = refl
behind_one (Some xs) None ys = refl
behind_one (Some xs) (Some x) None = refl
behind_one (Some xs) (Some x) (Some ys) = ap (λ zs. Some zs) (append_assoc xs (x ∷ []) ys)
