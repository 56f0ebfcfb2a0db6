use Rattle.std.proofs.Common.{◌≡◌, ℕ, refl, subst, ap}
use Rattle.report_text.specs.Shown.{choice_text}
use Rattle.sc_world.specs.Verdict.{run_over}
use Rattle.choice_texts.specs.Choices.{choice_spelled}
use Rattle.fn_replay.specs.Replays.{on_choice, told_run, Told}
use Rattle.fn_replay.proofs.laws.printed_runs_are_replayed.Goals as goal

pub returns-clause-printed : goal.returns-clause-printed
returns-clause-printed c form p f s x choice long =
    let P : ℕ → Type 0 =
    λ bits. on_choice form p f s x (choice_spelled bits (choice_text choice)) ≡ Told (told_run form p f s x (run_over s x.layout choice)) in
    subst P long (ap (on_choice form p f s x) (c.no_two_are_spelled_alike.ensures.printed choice))

pub returns-clause-path : goal.returns-clause-path
returns-clause-path c p x o = refl
