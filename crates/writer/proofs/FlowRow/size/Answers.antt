use Rattle.std.proofs.Common.{sym, arith}
use Rattle.writer.specs.TextLaws.{flow-length}
use Rattle.writer.proofs.FlowRow.size.Goals as goal

pub returns : goal.returns
returns c = (sym (flow-length c.args.self.now), omega arith)
