-- What a known call has to do with, as gates, and what of it a run sees for a choice.
use Rattle.std.specs.Prelude.{List}
use Rattle.bit_net.specs.declared.nodes.Node.{Node}
use Rattle.run_store.specs.Concrete.{Cell}
use Rattle.sc_world.specs.Known as known
use Rattle.sc_world.specs.Known.{Acting, Locked, Outed, given_number}
use Rattle.layout_base.specs.Seen.{occurrence_of}
use Rattle.gate_rows.specs.Entries.{AreBelow}
use Rattle.gate_paths.specs.Cells.{AreCellsBelow}
use Rattle.gate_paths.specs.Gathered.{AreItemsBelow}
use Rattle.gate_rows.specs.Entries.{AreEntryBits}
use Rattle.gate_states.specs.declared.called.Called.{Called}

-- all gates are gates of the net, and the entry bits are those of the arguments
pub record IsCalled (ns : List Node) (c : Called) : Type 0 where
  pub args : AreBelow ns c.args.now
  pub given : AreEntryBits ns c.args.now c.given.now
  pub locks : AreItemsBelow ns c.locks.now
  pub outs : AreItemsBelow ns c.outs.now
  pub writes : AreCellsBelow ns c.writes.now

-- the call with these arguments, and with those of its items that are not missing
abbrev pub acting_of : Called → List Cell → List Locked → List Outed → List known.Written → Acting
acting_of c cs ls os ws =
    record {
      summary = c.summary.now;
      occurrence = occurrence_of c.occurrence;
      args = cs;
      given = given_number cs;
      locks = ls;
      outs = os;
      writes = ws;
    }
