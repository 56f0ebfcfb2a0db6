-- What reading at the front of tokens gives, and lists that are read item by item.
use Rattle.std.specs.Prelude.{ℕ, zero, suc, max, nat_lt, Bool, true, false, List, Option, Some, None, if◌then◌else◌}
use Rattle.sc_tree.specs.declared.token.Token.{Token}
use Rattle.sc_tree.specs.declared.token.Punct.{Punct}
use Rattle.sc_tree.specs.Tables.{◌>>=◌}
use Rattle.sc_parse_front.specs.Front.{front, behind, is_comma}

-- What was read, the height of its tree, and the tokens behind it.
pub record Read (A : Type 0) : Type 0 where
  pub it : A
  pub height : ℕ
  pub rest : List Token

abbrev pub read : {A : Type 0} → A → ℕ → List Token → Read A
read x h ts = record { it = x; height = h; rest = ts }

abbrev pub Parse : Type 0 → Type 0
Parse A = List Token → Option (Read A)

-- a node over parts of that height, where the limit allows one more
abbrev pub node : {A : Type 0} → ℕ → A → ℕ → List Token → Option (Read A)
node limit x below ts = if nat_lt below limit then Some (read x (suc below) ts) else None

-- the tokens behind a punctuator that the test takes
abbrev pub taking : (Option Punct → Bool) → List Token → Option (List Token)
taking test ts = if test (front ts) then Some (behind ts) else None

-- Items with commas between, and whether a comma stands behind the last.
pub record Listed (B : Type 0) : Type 0 where
  pub items : B
  pub comma : Bool

-- Items with commas between, at most so many, added to those before; behind a comma they may end where
-- the test says so.
module _ {A B : Type 0} (item : Parse A) (add : B → A → B) (ends : Option Punct → Bool) where
  unfoldable pub listing : (B → ℕ → Parse (Listed B)) → B → ℕ → Bool → List Token → Option (Read (Listed B))
  listing go xs h true ts = if ends (front ts) then Some (read (record { items = xs; comma = true }) h ts) else go xs h ts
  listing go xs h false ts = Some (read (record { items = xs; comma = false }) h ts)

  unfoldable pub listed : (B → ℕ → Parse (Listed B)) → B → ℕ → Read A → Option (Read (Listed B))
  listed go xs h a = listing go (add xs a.it) (max h a.height) (is_comma (front a.rest)) (if is_comma (front a.rest) then behind a.rest else a.rest)

  unfoldable pub commas : ℕ → B → ℕ → Parse (Listed B)
  commas zero xs h ts = None
  commas (suc n) xs h ts = item ts >>= λ a. listed (λ ys m us. commas n ys m us) xs h a

-- Items up to where the test says that they end, at most so many.
module _ {A B : Type 0} (item : Parse A) (add : B → A → B) (ends : Option Punct → Bool) where
  unfoldable pub many : ℕ → B → ℕ → Parse B
  many zero xs h ts = if ends (front ts) then Some (read xs h ts) else None
  many (suc n) xs h ts = if ends (front ts) then Some (read xs h ts) else (item ts >>= λ a. many n (add xs a.it) (max h a.height) a.rest)
