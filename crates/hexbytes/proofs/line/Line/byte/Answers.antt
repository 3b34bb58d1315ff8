-- A byte beside the line is the line's.
use Rattle.hexbytes.specs.DecodeLaws.{decoded_at}
use Rattle.hexbytes.proofs.line.Line.byte.Goals as goal

pub returns : goal.returns
returns c = decoded_at _ _ _ c.args.self.now.decoded c.requires
