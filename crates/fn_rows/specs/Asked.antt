-- Rows and numbers for which some run answers yes.
use Rattle.std.specs.Prelude.{ℕ, List, filter}
use Rattle.sum_rows.specs.declared.row.Row.{Row}
use Rattle.sc_world.specs.Shows.{Query, Exits, Touches, Locks, Changes, Params, Sets, Outs, Writes}
use Rattle.sc_world.specs.Verdict.{Answers}
use Rattle.fn_rows.specs.declared.asking.Subject.{Subject}
use Rattle.fn_rows.specs.declared.asking.Subject.TheVariants as subject
use Rattle.fn_rows.specs.declared.asking.Listed.{Listed}
use Rattle.fn_rows.specs.declared.asking.Listed.TheVariants as listed

-- whether a row stands
abbrev pub row_query : Subject → Row → Query
row_query subject.Exit r = Exits r
row_query (subject.Lock at) r = Locks at r
row_query (subject.Param n) r = Params n r
row_query (subject.Out n) r = Outs n r

-- whether a location or a parameter is listed
abbrev pub number_query : Listed → ℕ → Query
number_query listed.Touches n = Touches n
number_query listed.Changes n = Changes n
number_query listed.Sets n = Sets n
number_query listed.Writes n = Writes n

abbrev pub standing : Answers → Subject → List Row → List Row
standing q s rows = filter (λ r. q.some (row_query s r)) rows

abbrev pub those : Answers → Listed → List ℕ → List ℕ
those q l ns = filter (λ n. q.some (number_query l n)) ns
