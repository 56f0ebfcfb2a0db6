use Rattle.std.proofs.Common.{◌≡◌, Bool, true, false, refl}
use Rattle.bit_net.specs.Value.{xor}
use Rattle.gate_tests.proofs.words.ten_calls.Goals as goal

ten_times : (p q : Bool) → xor (xor (xor (xor (xor (xor (xor (xor (xor (xor p q) q) q) q) q) q) q) q) q) q ≡ p
ten_times true true = refl
ten_times true false = refl
ten_times false true = refl
ten_times false false = refl

pub returns-clause-ok : goal.returns-clause-ok
returns-clause-ok c = record {
  below = c.in_ok-g10.ensures.ok.below;
  value = λ choice v r10.
      let r9 = c.in_ok-g10.ensures.grown.runs choice v r10 in
      let r8 = c.in_ok-g9.ensures.grown.runs choice v r9 in
      let r7 = c.in_ok-g8.ensures.grown.runs choice v r8 in
      let r6 = c.in_ok-g7.ensures.grown.runs choice v r7 in
      let r5 = c.in_ok-g6.ensures.grown.runs choice v r6 in
      let r4 = c.in_ok-g5.ensures.grown.runs choice v r5 in
      let r3 = c.in_ok-g4.ensures.grown.runs choice v r4 in
      let r2 = c.in_ok-g3.ensures.grown.runs choice v r3 in
      let r1 = c.in_ok-g2.ensures.grown.runs choice v r2 in
      cc (
        ten_times (v c.args.a.at) (v c.args.b.at),
        c.in_ok-g10.ensures.ok.value choice v r10,
        c.in_ok-g9.ensures.ok.value choice v r9,
        c.in_ok-g8.ensures.ok.value choice v r8,
        c.in_ok-g7.ensures.ok.value choice v r7,
        c.in_ok-g6.ensures.ok.value choice v r6,
        c.in_ok-g5.ensures.ok.value choice v r5,
        c.in_ok-g4.ensures.ok.value choice v r4,
        c.in_ok-g3.ensures.ok.value choice v r3,
        c.in_ok-g2.ensures.ok.value choice v r2,
        c.in_ok-g1.ensures.ok.value choice v r1,
      );
}
