-- What a replay says, as plain data.
use Rattle.whole_replays.specs.declared.told.Told.{Told as Code}
use Rattle.whole_replays.specs.declared.told.Told.TheVariants as code
use Rattle.whole_replays.specs.Told.{Told, Run, Twice, Beyond, NoFunction, Skipped, BadChoice}

abbrev pub seen : Code → Told
seen (code.Run bytes) = Run bytes.items
seen (code.Twice name) = Twice name.items
seen (code.Beyond kind count) = Beyond kind count
seen code.NoFunction = NoFunction
seen code.Skipped = Skipped
seen code.BadChoice = BadChoice
