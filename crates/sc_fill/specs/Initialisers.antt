-- Initialisers of locals on values that have their types (C11 6.7.9). Designators, braces inside braces, and a string
-- for an array are not taken.
use Rattle.std.specs.Prelude.{ℕ, ◌+◌, max, Bool, false, ◌&&◌, Option, Some, None, is_some, List, [], ◌∷◌, if◌then◌else◌}
use Rattle.std.specs.List.{list_all}
use Rattle.sc_base.specs.declared.pos.Pos.{Pos}
use Rattle.sc_base.specs.declared.skip.Unsupported.TheVariants as u
use Rattle.sc_base.specs.declared.skip.IllTyped.TheVariants as i
use Rattle.sc_tree.specs.declared.ctype.CType.{CType}
use Rattle.sc_tree.specs.declared.ctype.Widths.{Widths}
use Rattle.sc_typed.specs.declared.expr.TExpr.{TExpr}
use Rattle.sc_typed.specs.declared.stmt.InitStep.{InitStep}
use Rattle.sc_typed.specs.declared.stmt.InitStep.TheVariants as step
use Rattle.sc_typed.specs.declared.stmt.TInit.{TInit}
use Rattle.sc_typed.specs.declared.stmt.TInit.TheVariants as init
use Rattle.sc_typed.specs.declared.stmt.TInitItem.{TInitItem}
use Rattle.sc_typed.specs.Types.{is_array}
use Rattle.sc_rules.specs.Walks.{Check, ◌>>=◌, done, given, unsupported}
use Rattle.sc_rules.specs.Conversions.{value, converted}
use Rattle.sc_fill.specs.Parts.{is_string}
use Rattle.sc_fill.specs.Filling.{spread}

abbrev pub in_front : {A : Type 0} → Option A → Option (List A) → Option (List A)
in_front None xs = None
in_front (Some x) None = None
in_front (Some x) (Some xs) = Some (x ∷ xs)

-- all values, none where one has a fault
abbrev pub all_of : List (Option TExpr) → Option (List TExpr)
all_of [] = Some []
all_of (x ∷ xs) = in_front x (all_of xs)

-- whether each value is there, and those that are
abbrev pub all_there : List (Option TExpr) → Bool
all_there xs = list_all is_some xs

abbrev pub with_one : Option TExpr → List TExpr → List TExpr
with_one None xs = xs
with_one (Some x) xs = x ∷ xs

abbrev pub those_there : List (Option TExpr) → List TExpr
those_there [] = []
those_there (x ∷ xs) = with_one x (those_there xs)

abbrev pub braces : Option (List TInitItem) → Option TInit
braces None = None
braces (Some items) = Some (init.Braces items)

abbrev pub one : Option TExpr → Option TInit
one None = None
one (Some e) = Some (init.One e)

abbrev pub value_if : Option TExpr → Check (Option TExpr)
value_if x = given x value

-- values of which one has a fault, or that are for no type: each is looked at, and nothing is made
abbrev pub each_value : List (Option TExpr) → Check (Option TInit)
each_value [] = done None
each_value (x ∷ xs) = do
  v ← value_if x
  each_value xs

abbrev pub is_array_if : Option CType → Bool
is_array_if None = false
is_array_if (Some t) = is_array t

module _ (ws : Widths) (at : Pos) where
  abbrev pub spread_whole : CType → List TExpr → Check (Option TInit)
  spread_whole t es = spread ws at t es >>= λ r. done (braces r)

  abbrev pub spread_all : CType → Option (List TExpr) → List (Option TExpr) → Check (Option TInit)
  spread_all t None xs = each_value xs
  spread_all t (Some es) xs = spread_whole t es

  -- the initialiser in braces of a local of that type; none where its type has no size
  abbrev pub spread_if : Option CType → List (Option TExpr) → Check (Option TInit)
  spread_if None xs = each_value xs
  spread_if (Some t) xs = spread_all t (all_of xs) xs

  abbrev pub converted_to : Option CType → TExpr → Check (Option TExpr)
  converted_to None e = done None
  converted_to (Some t) e = converted ws i.Operand at t e

  abbrev pub value_as : Option CType → Option TExpr → Check (Option TExpr)
  value_as t v = given v (converted_to t)

  -- the value of an initialiser without braces
  abbrev pub one_value : Option CType → TExpr → Check (Option TExpr)
  one_value t e =
      if is_string e && is_array_if t
      then unsupported u.Init at
      else (value e >>= λ v. value_as t v)

-- An array without length has as many elements as its initialiser sets (C11 6.7.9, 22).
abbrev pub index_of : Option (List InitStep) → ℕ
index_of (Some (step.Elem k ∷ ss)) = k + 1
index_of _ = 0

abbrev pub greatest : List TInitItem → ℕ
greatest [] = 0
greatest (x ∷ xs) = max (index_of x.way) (greatest xs)

abbrev pub elements_set : Option TInit → Option ℕ
elements_set (Some (init.Braces items)) = Some (greatest items)
elements_set _ = None
