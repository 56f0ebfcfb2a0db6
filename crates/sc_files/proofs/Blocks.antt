-- A block that is closed and opened again stands as before.
use Rattle.std.proofs.Common.{◌≡◌, ℕ, ◌<◌, List, [], ◌∷◌, ◌++◌, length, refl, ap, arith}
use Rattle.scopes.specs.Frames.{Frames, innermost, without_innermost, opened, closed, kept, forgotten}

blocks_back : {T : Type 0} (bs : List (List (ℕ × T))) → 0 < length bs → innermost bs ∷ without_innermost bs ≡ bs
blocks_back [] some = absurd (omega (arith, some))
blocks_back (b ∷ bs) some = refl

fewer_by : {T : Type 0} (bs : List (List (ℕ × T))) → 0 < length bs → length (without_innermost bs) < length bs
fewer_by [] some = absurd (omega (arith, some))
fewer_by (b ∷ bs) some = omega arith

pub fewer : {T : Type 0} (f : Frames T) → 0 < length f.blocks → length (closed f).blocks < length f.blocks
fewer f some = fewer_by f.blocks some

pub kept_behind : {T : Type 0} (f : Frames T) → 0 < length f.blocks → opened (innermost f.blocks) (kept (closed f)) ≡ kept f
kept_behind {T} f some = ap (λ (bs : List (List (ℕ × T))). record { blocks = bs; fresh = []; file = f.fresh ++ f.file }) (blocks_back f.blocks some)

pub forgotten_behind : {T : Type 0} (f : Frames T) → 0 < length f.blocks → opened (innermost f.blocks) (forgotten (closed f)) ≡ forgotten f
forgotten_behind {T} f some = ap (λ (bs : List (List (ℕ × T))). record { blocks = bs; fresh = []; file = f.file }) (blocks_back f.blocks some)
