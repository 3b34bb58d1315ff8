use Rattle.std.proofs.Common.{arith, ap, length}
use Rattle.writer.specs.Rows.{none_left, rows-length}
use Rattle.writer.proofs.size_of.Goals as goal

pub loop-row-preserved : goal.loop-row-preserved
loop-row-preserved g c =
    let row = rows-length g.R.Row.bytes c.args.rows.now c.loop-row.row-index _ c.loop-row-test.true c.row-item.is in
    (omega (arith, row, c.loop-row.invariant.0, c.size-size.ensures.0), omega (arith, c.loop-row.invariant.1, c.size-size.ensures.1))

pub returns : goal.returns
returns g c =
    let none = ap length (none_left g.R.Row.bytes c.args.rows.now c.loop-row.row-index c.loop-row-test.false) in
    (omega (arith, none, c.loop-row.invariant.0), omega (arith, c.loop-row.invariant.1, c.loop-row.auto.row-index-end))
