-- A line put and those behind it are the lines from that one on, and behind the last nothing is left to put.
use Rattle.std.proofs.Common.{arith, ap, ◌∙◌, length}
use Rattle.hexroom.specs.Room.{put_none}
use Rattle.writer.specs.Rows.{none_left, rows-length, row_put}
use Rattle.writer.proofs.put_rows.Goals as goal

pub put_line-to-requires : goal.put_line-to-requires
put_line-to-requires g c =
    let row = rows-length g.R.Row.bytes c.args.rows.now c.loop-row.row-index _ c.loop-row-test.true c.row-item.is in
    omega (arith, row, c.loop-row.invariant.1, c.requires, c.loop-row.auto.room)

pub loop-row-preserved : goal.loop-row-preserved
loop-row-preserved g c =
    let called = c.put_line-to.ensures in
    let row = rows-length g.R.Row.bytes c.args.rows.now c.loop-row.row-index _ c.loop-row-test.true c.row-item.is in
    let put_next = row_put g.R.Row.bytes c.args.rows.now c.loop-row.row-index _ c.loop-row-test.true c.row-item.is c.loop-row.room c.loop-row.to c.put_line-to.result called.0 in
    (rw called.1 (put_next ∙ c.loop-row.invariant.0), omega (arith, row, c.loop-row.invariant.1, called.0))

pub returns : goal.returns
returns g c =
    let none = none_left g.R.Row.bytes c.args.rows.now c.loop-row.row-index c.loop-row-test.false in
    (omega (arith, ap length none, c.loop-row.invariant.1), rw (none, put_none c.loop-row.room c.loop-row.to) at c.loop-row.invariant.0)
