-- The fields are the flow's bytes, and nothing follows them.
use Rattle.hexline.specs.Digits.{number_bytes, field_bytes}
use Rattle.writer.specs.Text.{flow_bytes}
use Rattle.writer.proofs.FlowRow.put_line.Goals as goal

pub put_line-requires : goal.put_line-requires
unfolding flow_bytes field_bytes number_bytes
put_line-requires c = rw (c.byte.ensures, c.new.ensures, c.from.ensures, c.new-2.ensures, c.from-2.ensures, c.new-3.ensures, c.from-3.ensures, c.new-4.ensures, c.from-4.ensures) c.requires

pub returns : goal.returns
unfolding flow_bytes field_bytes number_bytes
returns c = rw (c.byte.ensures, c.new.ensures, c.from.ensures, c.new-2.ensures, c.from-2.ensures, c.new-3.ensures, c.from-3.ensures, c.new-4.ensures, c.from-4.ensures) at c.put_line.ensures
