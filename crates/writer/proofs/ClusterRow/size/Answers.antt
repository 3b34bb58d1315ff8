-- Four bytes and the tag bytes that count, two digits each, and LF.
use Rattle.std.proofs.Common.{arith, ap, length}
use Rattle.writer.specs.TextLaws.{cluster-size}
use Rattle.writer.proofs.ClusterRow.size.Goals as goal

pub returns : goal.returns
returns c = let bytes = c.counted_bytes.ensures in
    (omega (arith, cluster-size c.args.self.now, ap length bytes.0), omega (arith, bytes.1))
