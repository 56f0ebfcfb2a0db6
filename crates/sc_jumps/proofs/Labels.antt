-- A label put under its name is one put behind the others.
use Rattle.std.proofs.Common.{◌≡◌, ℕ, nat_eq, false, is_some, List, [], ◌∷◌, ◌++◌, refl, ◌∙◌}
use Rattle.std.specs.Map.{lookup}
use Rattle.sc_base.specs.declared.pos.Pos.{Pos}
use Rattle.sc_base.specs.declared.pos.NameId.{NameId}
use Rattle.sc_base.specs.Numbers.{insert_pair}
use Rattle.sc_jumps.specs.declared.jumps.Goto.{Goto}
use Rattle.sc_jumps.specs.Jumps.{Way, Found, with_label}

abbrev found : List (ℕ × Way) → List Pos → List Goto → Found
found labels again gotos = record { labels = labels; again = again; gotos = gotos }

pub label_added : (name : NameId) (at : Pos) (way copy : Way) (old new : List (ℕ × Way)) (again : List Pos) (gotos : List Goto)
    → is_some (lookup (nat_eq name.at) old) ≡ false → copy ≡ way → new ≡ insert_pair nat_eq old name.at copy
    → found new again gotos ≡ with_label name at way (found old again gotos)
label_added name at way copy old new again gotos none same is =
    let put : new ≡ old ++ (name.at, copy) ∷ [] = rw none at is in
    rw (none, put, same) refl
