-- What is open behind the tokens that are left is what is open behind all.
use Rattle.std.proofs.Common.{◌≡◌, drop}
use Rattle.sc_tree.specs.Brackets.{open_behind, nothing_open}
use Rattle.sc_lexer.specs.OpenBrackets.{now_open}
use Rattle.sc_lexer.proofs.brackets.Open.unbalanced.Given as goal

abbrev pub invariant-loop-token : goal.invariant-loop-token
invariant-loop-token l = open_behind (now_open l.now) (drop l.token-index l.tokens) ≡ open_behind nothing_open l.tokens
