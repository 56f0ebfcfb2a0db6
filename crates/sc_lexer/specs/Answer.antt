-- What a pass over the file may answer, beside what is due, and how the names may grow.
use Rattle.std.specs.Prelude.{◌≡◌, ℕ, ◌≤◌, List, ◌++◌, length, Result, Ok, Err}
use Rattle.sc_base.specs.declared.pos.Pos.{Pos}
use Rattle.sc_tree.specs.declared.token.Token.{Token}
use Rattle.sc_tree.specs.declared.token.Tokens.{Tokens}
use Rattle.sc_tree.specs.Lexed.{Lexed}
use Rattle.sc_tree.specs.Lexed as lex
use Rattle.sc_lexer.specs.declared.answer.LexAnswer.{LexAnswer}
use Rattle.sc_lexer.specs.declared.answer.LexAnswer.TheVariants as answer

-- the pass stopped because of that place, or for want of memory
abbrev pub Stops : LexAnswer → Result (List Token) Pos → Type 0
Stops (answer.Lexical pos) due = due ≡ Err pos
Stops (answer.Unbalanced pos) due = ⊥
Stops answer.OutOfMemory due = Unit {0}

-- the tokens are those that are due, or the pass stopped
abbrev pub Scans : Result (List Token) LexAnswer → Result (List Token) Pos → Type 0
Scans (Ok tokens) due = due ≡ Ok tokens
Scans (Err e) due = Stops e due

-- why there are no tokens
abbrev pub Refuses : LexAnswer → Lexed → Type 0
Refuses (answer.Lexical pos) lexed = lexed ≡ lex.Lexical pos
Refuses (answer.Unbalanced pos) lexed = lexed ≡ lex.Unbalanced pos
Refuses answer.OutOfMemory lexed = Unit {0}

-- The answer is the one that is due for the file of that number: its tokens and ends, or its refusal. Only
-- want of memory may come at any time.
abbrev pub Answers : ℕ → Result Tokens LexAnswer → Lexed → Type 0
Answers file (Ok tokens) lexed = (tokens.file ≡ file) × (lexed ≡ lex.Lexemes tokens.list tokens.ends)
Answers file (Err e) lexed = Refuses e lexed

-- The earlier names keep their places, and at most so many stand behind them.
pub record Grow (count : ℕ) (old new : List (List ℕ)) : Type 0 where
  pub added : List (List ℕ)
  pub grown : new ≡ old ++ added
  pub few : length added ≤ count
