use Rattle.std.proofs.Common.{◌∙◌, ap, sym, subst, arith}
use Rattle.flow_ways.specs.declared.ways.Split.{Split}
use Rattle.flow_ways.specs.Held.{AllSplit, splits_top}
use Rattle.flow_ways.proofs.WayLemmas.{parted, split_push, splits_top_push}
use Rattle.flow_ways.proofs.ways.Ways.part.Goals as goal

pub returns-clause-within : goal.returns-clause-within
returns-clause-within c =
    let s : Split = record { hit = c.args.hits; miss = c.args.misses; before = c.args.ways } in
    let one = splits_top_push c.args.self.now.splits.items s in
    record {
      waits = omega (arith, c.in_ok-come_alone.ensures.within, c.in_ok-come_alone-2.ensures.within, one, ap splits_top c.in_ok-push.ensures.items, ap splits_top c.in_ok-come_alone.ensures.ok.splits, c.requires.within.waits, c.requires.within.splits, c.requires.ways);
      splits = omega (arith, one, ap splits_top c.in_ok-push.ensures.items, ap splits_top c.in_ok-come_alone.ensures.ok.splits, ap splits_top c.in_ok-come_alone-2.ensures.ok.splits, c.requires.within.splits, c.requires.ways);
    }

pub returns-clause-splits : goal.returns-clause-splits
returns-clause-splits c = record {
  all = λ choice v r. subst (AllSplit v) (sym (c.in_ok-come_alone-2.ensures.ok.splits ∙ (c.in_ok-come_alone.ensures.ok.splits ∙ c.in_ok-push.ensures.items)))
      (split_push v c.args.self.now.splits.items _ (c.requires.splits.all choice v r) (c.requires.sides.holds choice v r));
}

pub returns-clause-ok : goal.returns-clause-ok
returns-clause-ok c = record {
  holds = λ choice v r q.
      (let first = subst (AllSplit v) (sym c.in_ok-push.ensures.items) (split_push v c.args.self.now.splits.items _ (c.requires.splits.all choice v r) (c.requires.sides.holds choice v r)) in
      parted v c.args.self.now.waits.items _ c.come_alone-2.new.self.waits.items (record { node = c.args.hit; gate = c.args.hits; split = 0 }) (record { node = c.args.miss; gate = c.args.misses; split = 0 }) q (c.in_ok-come_alone.ensures.ok.held v first q)
      (c.in_ok-come_alone-2.ensures.ok.held v (subst (AllSplit v) (sym c.in_ok-come_alone.ensures.ok.splits) first) q));
}
