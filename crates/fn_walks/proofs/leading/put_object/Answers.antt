use Rattle.std.proofs.Common.{ℕ, List, subst}
use Rattle.fn_walks.specs.Walks.{IsCovered}
use Rattle.fn_walks.proofs.Stepping.{covers_passed, covers_pushed}
use Rattle.fn_walks.proofs.leading.put_object.Goals as goal

pub returns-then-is_passed : goal.returns-then-is_passed
returns-then-is_passed c =
    record {
      ok = λ h.
          covers_passed c.args.around.now c.args.from c.args.objects.now.items c.args.at h
          (subst (λ (ms : List ℕ). IsCovered c.args.around.now c.args.from ms c.args.at) c.as_slice.ensures.value
          (c.is_passed.ensures c.if-is_passed.true));
    }

pub returns : goal.returns
returns c =
    record {
      ok = λ h. covers_pushed c.args.around.now c.args.from c.args.objects.now.items _ c.args.at _ c.in_ok-push.ensures.items c.root_at.ensures h;
    }
