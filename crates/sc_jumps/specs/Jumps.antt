-- Labels and `goto` (C11 6.8.1, 6.8.6.1). A `goto` leads to a label that is, directly or behind other labels, an
-- item of a block round the `goto`, later than the item that holds the `goto`. Any other label is not taken.
use Rattle.std.specs.Prelude.{ℕ, ◌+◌, nat_eq, nat_lt, Bool, false, ◌&&◌, Option, Some, None, is_some, List, [], ◌∷◌, ◌++◌, if◌then◌else◌}
use Rattle.std.specs.Map.{lookup}
use Rattle.sc_base.specs.declared.pos.Pos.{Pos}
use Rattle.sc_base.specs.declared.pos.NameId.{NameId}
use Rattle.sc_base.specs.declared.skip.Unsupported.TheVariants as u
use Rattle.sc_base.specs.declared.skip.IllTyped.TheVariants as i
use Rattle.sc_tree.specs.declared.stmt.Stmt.{Stmt, Stmt-F}
use Rattle.sc_tree.specs.declared.stmt.Stmt.TheFolds.{fold-Stmt}
use Rattle.sc_rules.specs.Faults.{unsupported_at, ill_typed_at}
use Rattle.sc_rules.specs.Walks.{Check, ◌>>=◌, done, holds_or}
use Rattle.sc_jumps.specs.declared.jumps.Inward.{Inward}
use Rattle.sc_jumps.specs.declared.jumps.Inward.TheVariants as inward
use Rattle.sc_jumps.specs.declared.jumps.Goto.{Goto}

-- the steps to a statement of a body, the outermost first
abbrev pub Way : Type 0
Way = List Inward

-- The jumps of a body: the first label of each name, with the way to it; the places of the labels that have a
-- name of these once more; and each `goto`.
pub record Found : Type 0 where
  pub labels : List (ℕ × Way)
  pub again : List Pos
  pub gotos : List Goto

abbrev pub nothing : Found
nothing = record { labels = []; again = []; gotos = [] }

-- the way to the label of that name
abbrev pub label_of : NameId → Found → Option Way
label_of name j = lookup (nat_eq name.at) j.labels

abbrev pub with_label : NameId → Pos → Way → Found → Found
with_label name at way j =
    if is_some (label_of name j)
    then record j { again = j.again ++ at ∷ [] }
    else record j { labels = j.labels ++ (name.at, way) ∷ [] }

abbrev pub with_goto : NameId → Pos → Way → Found → Found
with_goto name at way j = record j { gotos = j.gotos ++ record { name = name; pos = at; way = way } ∷ [] }

-- what is found when a statement, to which those steps lead, is gone through too
abbrev pub Gathering : Type 0
Gathering = Way → Found → Found

abbrev pub items_from : ℕ → List Gathering → Gathering
items_from n [] way j = j
items_from n (x ∷ xs) way j = items_from (n + 1) xs way (x (way ++ inward.Item n ∷ []) j)

abbrev pub part : ℕ → Gathering → Gathering
part n x way = x (way ++ inward.Part n ∷ [])

abbrev pub part_if : ℕ → Option Gathering → Gathering
part_if n None way j = j
part_if n (Some x) way j = part n x way j

abbrev pub gathering_step : Stmt-F Gathering → Gathering
gathering_step (Stmt-F.Block xs from to) way j = items_from 0 xs way j
gathering_step (Stmt-F.If e x y at) way j = part_if 1 y way (part 0 x way j)
gathering_step (Stmt-F.While e x at) way j = part 0 x way j
gathering_step (Stmt-F.Do x e at) way j = part 0 x way j
gathering_step (Stmt-F.For h x at) way j = part 0 x way j
gathering_step (Stmt-F.Switch e xs at to) way j = items_from 0 xs way j
gathering_step (Stmt-F.Goto name at) way j = with_goto name at way j
gathering_step (Stmt-F.Label name x at) way j = x way (with_label name at way j)
gathering_step _ way j = j

abbrev pub gathering : Stmt → Gathering
gathering s = fold-Stmt Gathering gathering_step s

abbrev pub jumps : Stmt → Found
jumps s = gathering s [] nothing

abbrev pub same_step : Inward → Inward → Bool
same_step (inward.Item m) (inward.Item n) = nat_eq m n
same_step (inward.Part m) (inward.Part n) = nat_eq m n
same_step _ _ = false

-- whether a label stands ahead of a `goto`
abbrev pub is_ahead : (label goto : Way) → Bool
is_ahead (inward.Item m ∷ []) (inward.Item n ∷ rest) = nat_lt n m
is_ahead (s ∷ ss) (t ∷ ts) = same_step s t && is_ahead ss ts
is_ahead _ _ = false

-- no label stands twice in a function
abbrev pub labels_differ : (again : List Pos) → Check (Unit {0})
labels_differ [] = done tt
labels_differ (at ∷ rest) = do
  _ ← holds_or false (ill_typed_at i.Again at)
  labels_differ rest

abbrev pub leads_to : Option Way → Goto → Check Bool
leads_to None g = holds_or false (ill_typed_at i.Label g.pos)
leads_to (Some way) g = holds_or (is_ahead way g.way) (unsupported_at u.Goto g.pos)

abbrev pub gotos_lead : Found → List Goto → Check (Unit {0})
gotos_lead j [] = done tt
gotos_lead j (g ∷ gs) = do
  _ ← leads_to (label_of g.name j) g
  gotos_lead j gs

-- the faults of the labels and jumps of a function's body
abbrev pub jumps_of : Found → Check (Unit {0})
jumps_of j = do
  _ ← labels_differ j.again
  gotos_lead j j.gotos
