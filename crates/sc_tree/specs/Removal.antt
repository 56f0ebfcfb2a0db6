-- The tokens without the words that leave nothing, and without the bracketed parts that follow some of
-- those at once.
use Rattle.std.specs.Prelude.{ℕ, zero, suc, ◌+◌, ◌-◌, ◌==◌, List, [], ◌∷◌, if◌then◌else◌}
use Rattle.sc_tree.specs.declared.token.Token.{Token}
use Rattle.sc_tree.specs.declared.piece.Role.{Role}
use Rattle.sc_tree.specs.declared.piece.Role.TheVariants as role
use Rattle.sc_tree.specs.Roles.{role_of}

-- how many brackets are open behind a token
abbrev pub depth_behind : ℕ → Role → ℕ
depth_behind depth (role.Opens b) = depth + 1
depth_behind depth (role.Closes b) = depth - 1
depth_behind depth _ = depth

-- how many tokens there are up to and with the one behind which nothing is open
abbrev pub closing_len : ℕ → List Token → ℕ
closing_len depth [] = 0
closing_len depth (t ∷ ts) =
    let next = depth_behind depth (role_of t.kind) in
    if next == 0 then 1 else 1 + closing_len next ts

-- how many tokens the bracketed part at the front has
abbrev pub bracketed_by : Role → List Token → ℕ
bracketed_by (role.Opens b) ts = 1 + closing_len 1 ts
bracketed_by _ ts = 0

abbrev pub bracketed_len : List Token → ℕ
bracketed_len [] = 0
bracketed_len (t ∷ ts) = bracketed_by (role_of t.kind) ts

-- a token before the others, unless it leaves nothing, where the others are those behind so many more
abbrev pub left_by : Role → Token → List Token → (ℕ → List Token) → List Token
left_by role.Nothing t ts others = others 0
left_by role.Attribute t ts others = others (bracketed_len ts)
left_by _ t ts others = t ∷ others 0

-- the tokens that are left, where so many at the front are left out
abbrev pub kept : ℕ → List Token → List Token
kept skip [] = []
kept (suc skip) (t ∷ ts) = kept skip ts
kept zero (t ∷ ts) = left_by (role_of t.kind) t ts (λ skip. kept skip ts)
