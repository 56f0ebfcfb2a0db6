-- A replay of the code, and its form, as plain data.
use Rattle.fn_replay.specs.declared.forms.Form.{Form as CodeForm}
use Rattle.fn_replay.specs.declared.forms.Form.TheVariants as form
use Rattle.fn_replay.specs.declared.replayed.Replayed.{Replayed as Code}
use Rattle.fn_replay.specs.declared.replayed.Replayed.TheVariants as code
use Rattle.fn_replay.specs.Replays.{Form, AsText, AsJson, Replayed, Skipped, BadChoice, Told}

abbrev pub form_of : CodeForm → Form
form_of form.Text = AsText
form_of (form.Json marks) = AsJson marks.now

abbrev pub seen : Code → Replayed
seen code.Skipped = Skipped
seen code.BadChoice = BadChoice
seen (code.Told bytes) = Told bytes.items
