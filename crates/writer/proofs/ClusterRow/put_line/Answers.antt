-- The fields and the tag bytes that count are the cluster's bytes.
use Rattle.writer.specs.Text.{cluster_bytes}
use Rattle.writer.proofs.ClusterRow.put_line.Goals as goal

pub put_line-requires : goal.put_line-requires
unfolding cluster_bytes
put_line-requires c = rw (c.byte.ensures, c.byte-2.ensures, c.byte-3.ensures, c.byte-4.ensures, c.counted_bytes.ensures.0) c.requires

pub returns : goal.returns
unfolding cluster_bytes
returns c = rw (c.byte.ensures, c.byte-2.ensures, c.byte-3.ensures, c.byte-4.ensures, c.counted_bytes.ensures.0) at c.put_line.ensures
