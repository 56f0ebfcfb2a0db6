use Rattle.std.proofs.Common.{◌≡◌, Some, true, false, is_some, max, sym, ap, ◌∙◌}
use Rattle.sc_tree.specs.Tables.{◌>>=◌}
use Rattle.sc_parse_expr.specs.Nests.{below}
use Rattle.sc_parse_expr.specs.Read.{read}
use Rattle.sc_parse_front.specs.Start.{start_of}
use Rattle.sc_parse_front.specs.Start.{start}
use Rattle.sc_parse_expr.specs.Reading.{piece_by}
use Rattle.sc_parse_expr.proofs.Steps.{gather_loop, joined_piece, loop_stops, loop_refused, loop_next, loop_out, passed_on, made_passed_on, starts_as}
use Rattle.sc_parse_expr.proofs.grammar.Grammar.gather.Goals as goal

pub returns-in_default : goal.returns-in_default
returns-in_default g c = loop_stops (gather_loop c.args.self.now.types.now c.args.self.now.limit
    (below c.args.self.now.types.now c.args.self.now.limit)) _ (read c.loop-turn.gathered c.loop-turn.height c.loop-turn.tokens)
    c.loop-turn.invariant (starts_as c.args.self.now.types.now c.args.self.now.limit (below c.args.self.now.types.now c.args.self.now.limit)
    c.begun_piece.result _ false c.begun_piece.ensures (ap is_some c.in_default.is))

pub returns-in_err-piece : goal.returns-in_err-piece
returns-in_err-piece g c =
    let same : start_of (Some c.in-Some.start) ≡ start c.args.self.now.types.now c.loop-turn.gathered.so_far c.loop-turn.tokens =
    ap start_of (sym c.in-Some.is) ∙ c.begun_piece.ensures in
    passed_on c.from_residual.result c.piece.new.tokens c.piece.new.tokens c.in_err-piece.field-0.0 c.in_err-piece.ensures c.from_residual.ensures.1
    (λ none. loop_refused (gather_loop c.args.self.now.types.now c.args.self.now.limit
    (below c.args.self.now.types.now c.args.self.now.limit)) _ _ (read c.loop-turn.gathered c.loop-turn.height c.loop-turn.tokens)
    c.loop-turn-test.true c.loop-turn.invariant (starts_as c.args.self.now.types.now c.args.self.now.limit
    (below c.args.self.now.types.now c.args.self.now.limit) c.begun_piece.result _ true c.begun_piece.ensures (ap is_some c.in-Some.is))
    (ap (λ s. piece_by c.args.self.now.types.now c.args.self.now.limit (below c.args.self.now.types.now c.args.self.now.limit) s
    c.loop-turn.tokens >>= λ p. joined_piece c.args.self.now.types.now c.args.self.now.limit
    (below c.args.self.now.types.now c.args.self.now.limit) (read c.loop-turn.gathered c.loop-turn.height c.loop-turn.tokens) p)
    (sym same) ∙ ap (λ o. o >>= λ p. joined_piece c.args.self.now.types.now c.args.self.now.limit
    (below c.args.self.now.types.now c.args.self.now.limit) (read c.loop-turn.gathered c.loop-turn.height c.loop-turn.tokens) p) none))

pub returns-in_err-gathered : goal.returns-in_err-gathered
returns-in_err-gathered g c =
    let same : start_of (Some c.in-Some.start) ≡ start c.args.self.now.types.now c.loop-turn.gathered.so_far c.loop-turn.tokens =
    ap start_of (sym c.in-Some.is) ∙ c.begun_piece.ensures in
    made_passed_on c.from_residual-in_err-gathered.result c.piece.new.tokens c.in_err-gathered.field-0.0 c.in_err-gathered.ensures
    c.from_residual-in_err-gathered.ensures.1
    (λ none. loop_refused (gather_loop c.args.self.now.types.now c.args.self.now.limit
    (below c.args.self.now.types.now c.args.self.now.limit)) _ _ (read c.loop-turn.gathered c.loop-turn.height c.loop-turn.tokens)
    c.loop-turn-test.true c.loop-turn.invariant (starts_as c.args.self.now.types.now c.args.self.now.limit
    (below c.args.self.now.types.now c.args.self.now.limit) c.begun_piece.result _ true c.begun_piece.ensures (ap is_some c.in-Some.is))
    (ap (λ s. piece_by c.args.self.now.types.now c.args.self.now.limit (below c.args.self.now.types.now c.args.self.now.limit) s
    c.loop-turn.tokens >>= λ p. joined_piece c.args.self.now.types.now c.args.self.now.limit
    (below c.args.self.now.types.now c.args.self.now.limit) (read c.loop-turn.gathered c.loop-turn.height c.loop-turn.tokens) p)
    (sym same) ∙ ap (λ o. o >>= λ p. joined_piece c.args.self.now.types.now c.args.self.now.limit
    (below c.args.self.now.types.now c.args.self.now.limit) (read c.loop-turn.gathered c.loop-turn.height c.loop-turn.tokens) p)
    c.in_ok-piece.ensures
    ∙ ap (λ m. m >>= λ more. Some (read more (max c.loop-turn.height c.in_ok-piece.piece.height) c.piece.new.tokens)) none))

pub loop-turn-preserved : goal.loop-turn-preserved
loop-turn-preserved g c =
    let same : start_of (Some c.in-Some.start) ≡ start c.args.self.now.types.now c.loop-turn.gathered.so_far c.loop-turn.tokens =
    ap start_of (sym c.in-Some.is) ∙ c.begun_piece.ensures in
    loop_next (gather_loop c.args.self.now.types.now c.args.self.now.limit (below c.args.self.now.types.now c.args.self.now.limit)) _ _
    (read c.loop-turn.gathered c.loop-turn.height c.loop-turn.tokens)
    (read c.in_ok-gathered.gathered c.max-height.result c.piece.new.tokens) c.loop-turn-test.true c.loop-turn.invariant
    (starts_as c.args.self.now.types.now c.args.self.now.limit (below c.args.self.now.types.now c.args.self.now.limit) c.begun_piece.result
    _ true c.begun_piece.ensures (ap is_some c.in-Some.is))
    (ap (λ s. piece_by c.args.self.now.types.now c.args.self.now.limit (below c.args.self.now.types.now c.args.self.now.limit) s
    c.loop-turn.tokens >>= λ p. joined_piece c.args.self.now.types.now c.args.self.now.limit
    (below c.args.self.now.types.now c.args.self.now.limit) (read c.loop-turn.gathered c.loop-turn.height c.loop-turn.tokens) p)
    (sym same) ∙ ap (λ o. o >>= λ p. joined_piece c.args.self.now.types.now c.args.self.now.limit
    (below c.args.self.now.types.now c.args.self.now.limit) (read c.loop-turn.gathered c.loop-turn.height c.loop-turn.tokens) p)
    c.in_ok-piece.ensures
    ∙ ap (λ m. m >>= λ more. Some (read more (max c.loop-turn.height c.in_ok-piece.piece.height) c.piece.new.tokens)) c.in_ok-gathered.ensures
    ∙ ap (λ h. Some (read c.in_ok-gathered.gathered h c.piece.new.tokens)) (sym c.max-height.ensures))

pub returns-then-is_some : goal.returns-then-is_some
returns-then-is_some g c = loop_out (gather_loop c.args.self.now.types.now c.args.self.now.limit
    (below c.args.self.now.types.now c.args.self.now.limit)) _ _ (read c.loop-turn.gathered c.loop-turn.height c.loop-turn.tokens)
    c.loop-turn-test.false c.loop-turn.invariant (starts_as c.args.self.now.types.now c.args.self.now.limit
    (below c.args.self.now.types.now c.args.self.now.limit) c.begun_piece-2.result _ true c.begun_piece-2.ensures
    (sym c.is_some.ensures ∙ c.if-is_some.true))

pub returns : goal.returns
returns g c = loop_stops (gather_loop c.args.self.now.types.now c.args.self.now.limit
    (below c.args.self.now.types.now c.args.self.now.limit)) _ (read c.loop-turn.gathered c.loop-turn.height c.loop-turn.tokens)
    c.loop-turn.invariant (starts_as c.args.self.now.types.now c.args.self.now.limit (below c.args.self.now.types.now c.args.self.now.limit)
    c.begun_piece-2.result _ false c.begun_piece-2.ensures (sym c.is_some.ensures ∙ c.if-is_some.false))
