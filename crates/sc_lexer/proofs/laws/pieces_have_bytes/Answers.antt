use Rattle.sc_lexer.proofs.LawProofs.{piece_has_bytes}
use Rattle.sc_lexer.proofs.laws.pieces_have_bytes.Goals as goal

pub returns : goal.returns
returns c = λ fresh bytes p e. piece_has_bytes fresh bytes p e
