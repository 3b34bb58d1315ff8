-- The answer and the room are those of `writer_is_exact`.
use Rattle.roundtrip.specs.WriterExact.{writer_is_exact}
use Rattle.demands.proofs.clients.write_records.Goals as goal

pub returns : goal.returns
returns c = let called = c.write in
    rw (called.ensures.0, called.ensures.1) (writer_is_exact c.args.site.now c.args.room.now)
