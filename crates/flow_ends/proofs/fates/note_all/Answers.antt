use Rattle.std.proofs.Common.{refl, ◌∙◌, arith}
use Rattle.bit_net.proofs.Growth.{Grown-refl, Grown-trans}
use Rattle.flow_ends.proofs.Noting.{begin_noting, note_more}
use Rattle.flow_ends.proofs.fates.note_all.Goals as goal

pub loop-k-init : goal.loop-k-init
loop-k-init c = record {
  grown = Grown-refl _;
  touched = refl;
  noted = refl;
  touched_top = c.requires.touched;
  noted_top = c.requires.noted;
  so_far = record { holds = λ choice v r. begin_noting v c.args.stopped.at c.args.store.now.locations.items c.args.touched.now c.args.noted.now };
}

pub flag_anywhere-told-requires : goal.flag_anywhere-told-requires
flag_anywhere-told-requires c = omega (arith, c.requires.store, c.loop-k.invariant.grown.longer)

pub loop-k-preserved : goal.loop-k-preserved
loop-k-preserved c =
    let grown = c.in_ok-note_at.ensures.grown in
    record {
      grown = Grown-trans _ _ _ c.loop-k.invariant.grown grown;
      touched = c.note_at.ensures.touched ∙ c.loop-k.invariant.touched;
      noted = c.note_at.ensures.noted ∙ c.loop-k.invariant.noted;
      touched_top = c.in_ok-note_at.ensures.tops.0;
      noted_top = c.in_ok-note_at.ensures.tops.1;
      so_far = record {
        holds = λ choice v r.
            (let r0 = grown.runs choice v r in
            note_more v c.args.stopped.at c.loop-k.k c.args.store.now.locations.items (v c.flag_anywhere-told.result.at) _ _ _ _ _ _
            (c.loop-k.invariant.so_far.holds choice v r0) (λ ps m. c.flag_anywhere-told.ensures.value choice v r0 ps m)
            (c.in_ok-note_at.ensures.ok.holds choice v r));
      };
    }

pub returns-clause-ok : goal.returns-clause-ok
returns-clause-ok c = record {
  holds = λ choice v r.
      (let stop = c.loop-k-test.false in
      let so_far = c.loop-k.invariant.so_far.holds choice v r in
      record {
        stays = so_far.stays;
        noted = λ ps m l low. so_far.noted ps m l (omega arith);
        same = so_far.same;
      });
}
