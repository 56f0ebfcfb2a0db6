use Rattle.std.proofs.Common.{◌≡◌, ◌∙◌, ◌++◌, ap}
use Rattle.std.specs.Prelude.{Some}
use Rattle.json.specs.Print.{print}
use Rattle.json.specs.Tree.{json_tokens}
use Rattle.layout_base.specs.Seen.{ground_of}
use Rattle.location_texts.specs.Seen as named
use Rattle.verdict_json.specs.Tellings.{says_told, says_with}
use Rattle.run_json.specs.Runs.{replay_value}
use Rattle.run_json.specs.Seen.{shown_of}
use Rattle.run_json.proofs.Depths.{replay_depth}
use Rattle.run_json.proofs.runs.run_json.Goals as goal

pub returns-clause-bytes : goal.returns-clause-bytes
unfolding says_told
returns-clause-bytes c =
    let check = c.args.check.now in
    let told = c.args.telling in
    let value =
    replay_value check.program.now check.marks.now check.depth check.reach (says_told check (Some told)) told.names.now.function.now
    (shown_of c.args.ran.now) c.args.ran.now.ending in
    c.into_bytes.ensures.bytes ∙ ap print (c.in_ok-put_replay.ensures ∙ ap (λ ts. ts ++ json_tokens value) c.new-text.ensures)

pub returns-clause-value : goal.returns-clause-value
unfolding says_told
returns-clause-value c =
    let check = c.args.check.now in
    let told = c.args.telling in
    let says = says_with check.program.now check.marks.now (ground_of told.ground).source (named.texts told.names.now) in
    let value =
    replay_value check.program.now check.marks.now check.depth check.reach says told.names.now.function.now
    (shown_of c.args.ran.now) c.args.ran.now.ending in
    c.into_bytes.ensures.value value
    (c.in_ok-put_replay.ensures ∙ ap (λ ts. ts ++ json_tokens value) c.new-text.ensures)
    (replay_depth check.program.now check.marks.now check.depth check.reach (ground_of told.ground).source (named.texts told.names.now)
    told.names.now.function.now (shown_of c.args.ran.now) c.args.ran.now.ending)
