-- What contracts see of a question: the question of the definitions.
use Rattle.sc_world.specs.Shows as spec
use Rattle.run_questions.specs.declared.queries.Query.{Query}
use Rattle.run_questions.specs.declared.queries.Query.TheVariants as asks

abbrev pub query : Query → spec.Query
query (asks.Exits r) = spec.Exits r
query (asks.Touches at) = spec.Touches at
query (asks.Locks at r) = spec.Locks at r
query (asks.Changes n) = spec.Changes n
query (asks.Params n r) = spec.Params n r
query (asks.Sets n) = spec.Sets n
query (asks.Outs n r) = spec.Outs n r
query (asks.Writes at) = spec.Writes at
query (asks.EndsAt at) = spec.EndsAt at
query (asks.Errs t) = spec.Errs t.now
query (asks.Leaks p) = spec.Leaks p
