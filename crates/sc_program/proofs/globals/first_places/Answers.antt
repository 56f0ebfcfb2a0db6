use Rattle.std.proofs.Common.{[]}
use Rattle.sc_program.specs.Globals.{any_record}
use Rattle.sc_program.specs.Tables.{local_in, with_records}
use Rattle.sc_program.proofs.RecordTable.{one_more}
use Rattle.sc_program.proofs.globals.first_places.Goals as goal

pub loop-k-preserved : goal.loop-k-preserved
loop-k-preserved c =
    one_more any_record (local_in c.args.local.now) c.args.records.now c.loop-k.k c.in_ok-number.field-0 c.index-records-k.result c.loop-k.places c.note_record.new.places
    (with_records any_record (local_in c.args.local.now) 0 c.args.records.now []) c.loop-k-test.true c.index-records-k.is c.in_ok-number.ensures c.in_ok-note_record.ensures c.loop-k.invariant
