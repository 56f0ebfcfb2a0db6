-- The scopes round a point, told from one stack of declarations: the top so many belong to the innermost
-- scope, the next so many to the scope round it, and so on outwards. The outermost of these scopes is the
-- declaration at hand at file scope; what lies below it are the earlier declarations at file scope.
use Rattle.std.specs.Prelude.{ℕ, List, [], ◌∷◌, take, drop}
use Rattle.scopes.specs.Frames.{Frames, opened}

abbrev pub frames : {T : Type 0} → ℕ → List ℕ → List (ℕ × T) → Frames T
frames here [] stack = record { blocks = []; fresh = take here stack; file = drop here stack }
frames here (next ∷ outer) stack = opened (take here stack) (frames next outer (drop here stack))
