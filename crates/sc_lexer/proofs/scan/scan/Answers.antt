use Rattle.std.proofs.Common.{◌≡◌, Bool, Err, ◌+◌, arith, sym, ap, length, length-drop, drop, take, ◌∙◌, ◌++◌, refl}
use Rattle.sc_base.specs.declared.pos.Pos.{Pos}
use Rattle.sc_tree.specs.Pieces.{piece}
use Rattle.sc_tree.specs.Places.{is_fresh_at}
use Rattle.sc_tree.specs.Cut.{token_of}
use Rattle.sc_lexer.specs.declared.place.Place.{Place}
use Rattle.sc_lexer.proofs.PlaceProofs.{pos_is, place_room}
use Rattle.sc_lexer.proofs.WordProofs.{grow_more, grow_at_most}
use Rattle.sc_lexer.proofs.ScanProofs.{so_far_more, so_far_ends, so_far_out, so_far_stops, past_is, token_more}
use Rattle.sc_lexer.proofs.NamingProofs.{named_more, named_ends, named_out}
use Rattle.sc_lexer.proofs.scan.scan.Goals as goal

pub returns-then-at-end-clause-tokens : goal.returns-then-at-end-clause-tokens
returns-then-at-end-clause-tokens c =
    let bytes = c.args.bytes.now in
    let z : length (drop c.loop.at bytes) ≡ 0 = omega (arith, length-drop c.loop.at bytes) in
    so_far_ends c.loop.names c.args.file c.loop.counter c.loop.at bytes (drop c.loop.at bytes) c.loop.tokens refl z c.loop.invariant.3

pub returns-in_default-clause-tokens : goal.returns-in_default-clause-tokens
returns-in_default-clause-tokens c =
    let bytes = c.args.bytes.now in
    let before = take c.loop.at bytes in
    let fresh : c.loop.place.is_fresh ≡ is_fresh_at before = ap (λ (p : Place). p.is_fresh) c.loop.invariant.1 in
    let none = ap (λ (b : Bool). piece b c.split_at.result.1.now) (sym fresh) ∙ sym c.in_default.ensures.piece in
    so_far_stops c.loop.names c.args.file c.loop.counter c.loop.at bytes c.split_at.result.1.now c.loop.tokens c.split_at.ensures.back
    c.loop-test.true (omega (arith, c.split_at.ensures.back_len)) none c.loop.invariant.3
    ∙ ap (λ (p : Pos). Err p) (sym (pos_is c.args.file c.loop.place before c.pos.result c.pos.ensures c.loop.invariant.1))

pub returns-in_err-kind-clause-names : goal.returns-in_err-kind-clause-names
returns-in_err-kind-clause-names c =
    grow_at_most (c.loop.counter + 1) (length c.args.bytes.now) c.args.names.now c.kind_of.new.names (omega arith)
    (grow_more c.loop.counter 1 c.args.names.now c.loop.names c.kind_of.new.names c.loop.invariant.2 c.kind_of.ensures.names)

pub returns-in_err-push-clause-names : goal.returns-in_err-push-clause-names
returns-in_err-push-clause-names c =
    grow_at_most (c.loop.counter + 1) (length c.args.bytes.now) c.args.names.now c.kind_of.new.names (omega arith)
    (grow_more c.loop.counter 1 c.args.names.now c.loop.names c.kind_of.new.names c.loop.invariant.2 c.kind_of.ensures.names)

pub past-place-requires-clause-line : goal.past-place-requires-clause-line
past-place-requires-clause-line c =
    (place_room c.loop.place c.loop.at c.in-Some.piece.len c.args.bytes.now c.split_at-in-loop.result.0.now c.loop.invariant.1
    (omega (arith, c.split_at.ensures.back_len, c.in-Some.ensures.within)) c.split_at-in-loop.ensures.front_len (omega arith)).0

pub past-place-requires-clause-col : goal.past-place-requires-clause-col
past-place-requires-clause-col c =
    (place_room c.loop.place c.loop.at c.in-Some.piece.len c.args.bytes.now c.split_at-in-loop.result.0.now c.loop.invariant.1
    (omega (arith, c.split_at.ensures.back_len, c.in-Some.ensures.within)) c.split_at-in-loop.ensures.front_len (omega arith)).1

pub loop-preserved : goal.loop-preserved
loop-preserved c =
    let bytes = c.args.bytes.now in
    let before = take c.loop.at bytes in
    let rest = c.split_at.result.1.now in
    let text = c.split_at-in-loop.result.0.now in
    let p = c.in-Some.piece in
    let fresh : c.loop.place.is_fresh ≡ is_fresh_at before = ap (λ (q : Place). q.is_fresh) c.loop.invariant.1 in
    let is_piece = ap (λ (b : Bool). piece b rest) (sym fresh) ∙ sym c.in-Some.ensures.piece in
    let longer = c.in_ok-push.ensures ∙ ap (λ (q : Pos). c.loop.tokens ++ token_of c.in_ok-kind.kind q)
    (pos_is c.args.file c.loop.place before c.pos-in-loop.result c.pos-in-loop.ensures c.loop.invariant.1) in (
      omega (arith, c.split_at.ensures.back_len, c.in-Some.ensures.within),
      past_is c.loop.place c.past-place.result c.loop.at p.len bytes rest text c.past-place.ensures c.loop.invariant.1
          c.split_at.ensures.back c.split_at-in-loop.ensures.front,
      grow_more c.loop.counter 1 c.args.names.now c.loop.names c.kind_of.new.names c.loop.invariant.2 c.kind_of.ensures.names,
      so_far_more c.loop.names c.kind_of.new.names c.args.file c.loop.counter c.loop.at bytes rest text c.loop.tokens c.push.new.tokens p
          c.in_ok-kind.kind c.kind_of.ensures.names c.split_at.ensures.back c.split_at-in-loop.ensures.front c.in_ok-kind.ensures.kind
          c.loop-test.true (omega (arith, c.split_at.ensures.back_len)) is_piece longer c.loop.invariant.3,
      token_more c.loop.tokens c.push.new.tokens c.in_ok-kind.kind c.pos-in-loop.result c.loop.counter c.in_ok-push.ensures c.loop.invariant.4,
      named_more c.args.names.now c.loop.names c.kind_of.new.names c.loop.counter c.loop.at bytes rest text p
          c.split_at.ensures.back c.split_at-in-loop.ensures.front c.in_ok-kind.ensures.named
          c.loop-test.true (omega (arith, c.split_at.ensures.back_len)) is_piece c.loop.invariant.5,
    )

pub returns-clause-tokens : goal.returns-clause-tokens
returns-clause-tokens c = so_far_out c.loop.names c.args.file c.loop.counter c.loop.at c.args.bytes.now c.loop.tokens c.loop-test.false c.loop.invariant.3

pub returns-then-at-end-clause-named : goal.returns-then-at-end-clause-named
returns-then-at-end-clause-named c =
    let bytes = c.args.bytes.now in
    let z : length (drop c.loop.at bytes) ≡ 0 = omega (arith, length-drop c.loop.at bytes) in
    named_ends c.args.names.now c.loop.names c.loop.counter c.loop.at bytes z c.loop.invariant.5

pub returns-clause-named : goal.returns-clause-named
returns-clause-named c = named_out c.args.names.now c.loop.names c.loop.counter c.loop.at c.args.bytes.now c.loop-test.false c.loop.invariant.5
