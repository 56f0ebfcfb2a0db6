-- The punctuators of C11 6.4.6 without digraphs, `#` and `##`.
--
-- In the table each stands before those that it begins with, so the first one that stands at the front
-- of some bytes is the longest.
use Rattle.std.specs.Prelude.{ℕ, List, [], ◌∷◌, codes, Option}
use Rattle.sc_tree.specs.declared.token.Punct.{Punct}
use Rattle.sc_tree.specs.declared.token.Punct.TheVariants as punct
use Rattle.sc_tree.specs.Tables.{Table, Row, first_fit}

-- each punctuator with its spelling
abbrev pub punctuators : Table Punct
punctuators =
    (codes "(", punct.LeftParen)
    ∷ (codes ")", punct.RightParen)
    ∷ (codes ";", punct.Semicolon)
    ∷ (codes ",", punct.Comma)
    ∷ (codes "{", punct.LeftBrace)
    ∷ (codes "}", punct.RightBrace)
    ∷ (codes "[", punct.LeftBracket)
    ∷ (codes "]", punct.RightBracket)
    ∷ (codes "...", punct.Ellipsis)
    ∷ (codes ".", punct.Dot)
    ∷ (codes "->", punct.Arrow)
    ∷ (codes "--", punct.MinusMinus)
    ∷ (codes "-=", punct.MinusAssign)
    ∷ (codes "-", punct.Minus)
    ∷ (codes "==", punct.EqualEqual)
    ∷ (codes "=", punct.Assign)
    ∷ (codes "*=", punct.StarAssign)
    ∷ (codes "*", punct.Star)
    ∷ (codes "&&", punct.AmpAmp)
    ∷ (codes "&=", punct.AmpAssign)
    ∷ (codes "&", punct.Amp)
    ∷ (codes "++", punct.PlusPlus)
    ∷ (codes "+=", punct.PlusAssign)
    ∷ (codes "+", punct.Plus)
    ∷ (codes "<<=", punct.ShiftLeftAssign)
    ∷ (codes "<<", punct.ShiftLeft)
    ∷ (codes "<=", punct.LessEqual)
    ∷ (codes "<", punct.Less)
    ∷ (codes ">>=", punct.ShiftRightAssign)
    ∷ (codes ">>", punct.ShiftRight)
    ∷ (codes ">=", punct.GreaterEqual)
    ∷ (codes ">", punct.Greater)
    ∷ (codes "!=", punct.NotEqual)
    ∷ (codes "!", punct.Not)
    ∷ (codes "||", punct.PipePipe)
    ∷ (codes "|=", punct.PipeAssign)
    ∷ (codes "|", punct.Pipe)
    ∷ (codes "?", punct.Question)
    ∷ (codes ":", punct.Colon)
    ∷ (codes "~", punct.Tilde)
    ∷ (codes "/=", punct.SlashAssign)
    ∷ (codes "/", punct.Slash)
    ∷ (codes "%=", punct.PercentAssign)
    ∷ (codes "%", punct.Percent)
    ∷ (codes "^=", punct.CaretAssign)
    ∷ (codes "^", punct.Caret)
    ∷ []

-- the longest punctuator at the front, with its spelling
unfoldable pub punctuator : List ℕ → Option (Row Punct)
punctuator bytes = first_fit punctuators bytes
