-- The labels that stand further on, as scopes.
use Rattle.std.proofs.Common.{◌≡◌, ℕ, ◌<◌, Bool, true, false, nat_eq, Option, Some, None, List, [], ◌∷◌, ◌++◌, length, map, refl, sym, ap, ◌∙◌, arith}
use Rattle.std.specs.Map.{lookup}
use Rattle.sc_base.specs.declared.pos.NameId.{NameId}
use Rattle.scopes.specs.Frames.{Frames, within, or_else, meaning, through as scopes_through, declared, opened, closed}
use Rattle.flow_graph.specs.Statements.{look}
use Rattle.sc_flow.specs.Seen.{target, through, labels}

-- the node of a label, where there is one
abbrev pub node_of : ℕ → Option ℕ → ℕ
node_of lost None = lost
node_of lost (Some at) = at

look_step : (n : NameId) (x : ℕ × ℕ) (xs : List (ℕ × ℕ)) (lost : ℕ) (b : Bool) → nat_eq n.at x.0 ≡ b
    → look n (map target xs) lost ≡ node_of lost (lookup (nat_eq n.at) xs)
    → look n (map target (x ∷ xs)) lost ≡ node_of lost (lookup (nat_eq n.at) (x ∷ xs))
look_step n x xs lost true same rest = rw same refl
look_step n x xs lost false other rest = rw other rest

look_in : (n : NameId) (xs : List (ℕ × ℕ)) (lost : ℕ) → look n (map target xs) lost ≡ node_of lost (lookup (nat_eq n.at) xs)
look_in n [] lost = refl
look_in n (x ∷ xs) lost = look_step n x xs lost (nat_eq n.at x.0) refl (look_in n xs lost)

join_step : (test : ℕ → Bool) (x : ℕ × ℕ) (xs ys : List (ℕ × ℕ)) (b : Bool) → test x.0 ≡ b
    → lookup test (xs ++ ys) ≡ or_else (lookup test xs) (lookup test ys)
    → lookup test (x ∷ (xs ++ ys)) ≡ or_else (lookup test (x ∷ xs)) (lookup test ys)
join_step test x xs ys true same rest = rw same refl
join_step test x xs ys false other rest = rw other rest

join : (test : ℕ → Bool) (xs ys : List (ℕ × ℕ)) → lookup test (xs ++ ys) ≡ or_else (lookup test xs) (lookup test ys)
join test [] ys = refl
join test (x ∷ xs) ys = join_step test x xs ys (test x.0) refl (join test xs ys)

through_is : (n : ℕ) (bs : List (List (ℕ × ℕ))) (beyond : List (ℕ × ℕ))
    → lookup (nat_eq n) (through bs beyond) ≡ scopes_through n bs (lookup (nat_eq n) beyond)
through_is n [] beyond = refl
through_is n (b ∷ bs) beyond = join (nat_eq n) b (through bs beyond) ∙ ap (or_else (within n b)) (through_is n bs beyond)

meaning_is : (n : ℕ) (f : Frames ℕ) → lookup (nat_eq n) (through f.blocks (f.fresh ++ f.file)) ≡ meaning n f
meaning_is n f = through_is n f.blocks (f.fresh ++ f.file) ∙ ap (scopes_through n f.blocks) (join (nat_eq n) f.fresh f.file)

look_is : (n : NameId) (f : Frames ℕ) (lost : ℕ) → look n (labels f) lost ≡ node_of lost (meaning n.at f)
unfolding labels
look_is n f lost = look_in n (through f.blocks (f.fresh ++ f.file)) lost ∙ ap (node_of lost) (meaning_is n.at f)

-- a `goto` leads to what the name means as a label
pub look_some : (n : NameId) (f : Frames ℕ) (lost at : ℕ) → Some at ≡ meaning n.at f → at ≡ look n (labels f) lost
look_some n f lost at found = sym (look_is n f lost ∙ ap (node_of lost) (sym found))

pub look_none : (n : NameId) (f : Frames ℕ) (lost : ℕ) → None ≡ meaning n.at f → lost ≡ look n (labels f) lost
look_none n f lost none = sym (look_is n f lost ∙ ap (node_of lost) (sym none))

-- one label more, in the innermost block
more : (n at : ℕ) (bs : List (List (ℕ × ℕ))) (fresh file : List (ℕ × ℕ))
    → labels (declared n at (record { blocks = bs; fresh = fresh; file = file }))
    ≡ target (n, at) ∷ labels (record { blocks = bs; fresh = fresh; file = file })
unfolding labels
more n at [] fresh file = refl
more n at (b ∷ bs) fresh file = refl

pub one_more : (n : NameId) (at : ℕ) (f : Frames ℕ) → labels (declared n.at at f) ≡ record { name = n; at = at } ∷ labels f
one_more n at f = more n.at at f.blocks f.fresh f.file

more_round : (n at : ℕ) (bs : List (List (ℕ × ℕ))) (fresh file : List (ℕ × ℕ)) → 0 < length bs
    → closed (declared n at (record { blocks = bs; fresh = fresh; file = file })) ≡ closed (record { blocks = bs; fresh = fresh; file = file })
more_round n at [] fresh file some = absurd (omega (arith, some))
more_round n at (b ∷ bs) fresh file some = refl

pub one_more_round : (n at : ℕ) (f : Frames ℕ) → 0 < length f.blocks → closed (declared n at f) ≡ closed f
one_more_round n at f some = more_round n at f.blocks f.fresh f.file some

more_open : (n at : ℕ) (bs : List (List (ℕ × ℕ))) (fresh file : List (ℕ × ℕ)) → 0 < length bs
    → 0 < length (declared n at (record { blocks = bs; fresh = fresh; file = file })).blocks
more_open n at [] fresh file some = absurd (omega (arith, some))
more_open n at (b ∷ bs) fresh file some = omega arith

pub one_more_open : (n at : ℕ) (f : Frames ℕ) → 0 < length f.blocks → 0 < length (declared n at f).blocks
one_more_open n at f some = more_open n at f.blocks f.fresh f.file some

-- a block without labels
pub none_more : (f : Frames ℕ) → labels (opened [] f) ≡ labels f
unfolding labels
none_more f = refl

pub none_more_round : (f : Frames ℕ) → closed (opened [] f) ≡ f
none_more_round f = refl

pub none_more_open : (f : Frames ℕ) → 0 < length (opened [] f).blocks
none_more_open f = omega arith
