use Rattle.std.proofs.Common.{◌≡◌, length}
use Rattle.std.specs.List.{list_any}
use Rattle.run_answers.specs.Rest.{rest}
use Rattle.run_answers.specs.Seen.{over, leads_at, some_leads}
use Rattle.run_answers.proofs.walks.some_leads.Given as goal

abbrev pub invariant-loop-k : goal.invariant-loop-k
invariant-loop-k l =
    list_any (leads_at (over l.over) l.objects l.to) (rest l.k (length (over l.over).layout.locations))
    ≡ some_leads (over l.fn.over) l.fn.objects l.fn.to
