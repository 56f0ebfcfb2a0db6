-- The declarators of a declaration, one after the other: those so far, with those that are left, are all of them.
use Rattle.std.proofs.Common.{◌≡◌, ℕ, suc, ◌+◌, ◌<◌, Bool, Option, List, [], ◌∷◌, ◌++◌, length, drop, drop-cons, add-one, get_or, sym, ◌∙◌, ap}
use Rattle.sc_tree.specs.declared.ctype.CType.{CType}
use Rattle.sc_tree.specs.declared.expr.Storage.{Storage}
use Rattle.sc_tree.specs.declared.decl.InitDeclarator.{InitDeclarator}
use Rattle.sc_typed.specs.declared.stmt.TDeclarator.{TDeclarator}
use Rattle.sc_rules.specs.declared.walk.Walk.{Walk}
use Rattle.sc_rules.specs.Walks.{Check, ◌>>=◌, then_with, done}
use Rattle.sc_typing.specs.Here.{Here}
use Rattle.sc_declarations.specs.Declarations.{declarator, declarators}
use Rattle.sc_declarations.proofs.Joined.{joined, joined_step}

dropped : {X : Type 0} (xs : List X) (i : ℕ) (x : X) → i < length xs → x ≡ get_or xs i x → drop i xs ≡ x ∷ drop (i + 1) xs
dropped xs i x low is = drop-cons xs i x low ∙ ap (λ y. y ∷ drop (suc i) xs) (sym is) ∙ ap (λ k. x ∷ drop k xs) (sym (add-one i))

module _ (here : Here) (at_file : Bool) (ss : List Storage) (t : Option CType) where
  abbrev with_others : List InitDeclarator → TDeclarator → Check (List TDeclarator)
  with_others ds x = declarators here at_file ss t ds >>= λ xs. done (x ∷ xs)

  pub one_more : (ds : List InitDeclarator) (i : ℕ) (d : InitDeclarator) (made : List TDeclarator) (x : TDeclarator) (w v : Walk) → i < length ds → d ≡ get_or ds i d → declarator here at_file ss t d w ≡ (x, v)
      → joined (made ++ x ∷ []) (declarators here at_file ss t (drop (i + 1) ds) v) ≡ joined made (declarators here at_file ss t (drop i ds) w)
  one_more ds i d made x w v low is declared =
      joined_step made x (declarators here at_file ss t (drop (i + 1) ds) v)
      ∙ ap (λ (r : TDeclarator × Walk). joined made (then_with r (with_others (drop (i + 1) ds)))) (sym declared)
      ∙ ap (λ (l : List InitDeclarator). joined made (declarators here at_file ss t l w)) (sym (dropped ds i d low is))
