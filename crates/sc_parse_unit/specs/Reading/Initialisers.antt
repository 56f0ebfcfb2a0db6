-- Initialisers (C11 6.7.9).
use Rattle.std.specs.Prelude.{ℕ, zero, suc, max, length, List, [], Some, None, if◌then◌else◌}
use Rattle.sc_base.specs.declared.pos.NameId.{NameId}
use Rattle.sc_tree.specs.declared.decl.Init.{Init}
use Rattle.sc_tree.specs.declared.decl.Init.TheVariants as init
use Rattle.sc_tree.specs.declared.decl.InitItem.{InitItem, roll-InitItem}
use Rattle.sc_tree.specs.declared.decl.Designator.{Designator}
use Rattle.sc_tree.specs.declared.decl.Designator.TheVariants as designator
use Rattle.sc_tree.specs.declared.grammar.Level.TheVariants.{Choice, Assignment}
use Rattle.sc_tree.specs.Tables.{◌>>=◌}
use Rattle.sc_parse_front.specs.Front.{front, front_word, behind, is_right_bracket, is_left_brace, is_right_brace, is_equals}
use Rattle.sc_parse_expr.specs.Read.{read, Parse, node, taking, commas}
use Rattle.sc_parse_expr.specs.Reading.Parse.{expr_at}
use Rattle.sc_parse_expr.specs.Reading.Grammar.{with_item}
use Rattle.sc_parse_unit.specs.Reading.Fronts.{is_dot, is_no_designator}

-- One or more designators, one behind the other, at most so many more.
unfoldable pub a_designator : List NameId → ℕ → Parse Designator
a_designator types limit ts = if is_dot (front ts) then (front_word (behind ts) >>= λ w. Some (read (designator.Field w) 0 (behind (behind ts))))
    else (expr_at types limit Choice (behind ts) >>= λ a. taking is_right_bracket a.rest >>= λ rest. Some (read (designator.Index a.it.tree) a.height rest))

unfoldable pub designators : List NameId → ℕ → ℕ → List Designator → ℕ → Parse (List Designator)
designators types limit zero xs h ts = if is_no_designator ts then Some (read xs h ts) else None
designators types limit (suc n) xs h ts = if is_no_designator ts then Some (read xs h ts)
    else (a_designator types limit ts >>= λ a. designators types limit n (with_item xs a.it) (max h a.height) a.rest)

abbrev pub item_of : List Designator → Init → InitItem
item_of ds i = roll-InitItem (record { designators = ds; init = i })

module _ (types : List NameId) (below : ℕ) (inner : Parse Init) where
  unfoldable pub designated : Parse InitItem
  designated ts = designators types below (length ts) [] 0 ts >>= λ ds. taking is_equals ds.rest >>= λ rest. inner rest >>= λ i.
      Some (read (item_of ds.it i.it) (max ds.height i.height) i.rest)

  unfoldable pub undesignated : Parse InitItem
  undesignated ts = inner ts >>= λ i. Some (read (item_of [] i.it) i.height i.rest)

  unfoldable pub init_item : Parse InitItem
  init_item ts = if is_no_designator ts then undesignated ts else designated ts

-- initialisers with commas between, one at least; a comma may end them
abbrev pub some_items : List NameId → ℕ → Parse Init → Parse (List InitItem)
some_items types below inner ts = commas (init_item types below inner) with_item is_right_brace (length ts) [] 0 ts >>= λ r.
    Some (read r.it.items r.height r.rest)

module _ (types : List NameId) (below : ℕ) (inner : Parse Init) where
  -- behind the opening brace
  unfoldable pub braces : Parse Init
  braces ts = if is_right_brace (front ts) then node (suc below) (init.List []) 0 (behind ts)
      else (commas (init_item types below inner) with_item is_right_brace (length ts) [] 0 ts >>= λ xs. taking is_right_brace xs.rest >>= λ rest.
      node (suc below) (init.List xs.it.items) xs.height rest)

  unfoldable pub init_value : Parse Init
  init_value ts = expr_at types (suc below) Assignment ts >>= λ a. Some (read (init.One a.it.tree) a.height a.rest)

  unfoldable pub initialiser_by : Parse Init
  initialiser_by ts = if is_left_brace (front ts) then braces (behind ts) else init_value ts

unfoldable pub initialiser : List NameId → ℕ → Parse Init
initialiser types zero ts = None
initialiser types (suc n) ts = initialiser_by types n (λ us. initialiser types n us) ts
