-- Blocks of pairs reach the whole line, and where all characters are digits the bytes are those of the definition.
use Rattle.hexbytes.specs.DecodeLaws.{decoded}
use Rattle.hexbytes.proofs.decode.Goals as goal

pub returns-in-16-to-31 : goal.returns-in-16-to-31
returns-in-16-to-31 c = decoded _ _ _ _ c.requires.1 c.decode_blocks.ensures.0 c.decode_blocks.ensures.1

pub returns-in_default : goal.returns-in_default
returns-in_default c = decoded _ _ _ _ c.requires.1 c.decode_blocks-in_default.ensures.0 c.decode_blocks-in_default.ensures.1
