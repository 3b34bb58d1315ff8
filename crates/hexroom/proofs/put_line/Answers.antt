-- The fields, the tail behind them and the LF behind both are one line put.
use Rattle.std.proofs.Common.{arith}
use Rattle.hexroom.specs.Fields.{bytes_of_fields}
use Rattle.hexroom.specs.Room.{fields_line_length, line_put}
use Rattle.hexroom.proofs.put_line.Goals as goal

pub returns : goal.returns
returns c =
    let first = c.put_fields-behind.ensures in
    let second = c.put_bytes-end.ensures in
    (omega (arith, fields_line_length (bytes_of_fields c.args.fields.now) c.args.tail.now, first.0, second.0), rw (second.1, first.1) (line_put _ _ _ _ _ _ first.0 second.0))
