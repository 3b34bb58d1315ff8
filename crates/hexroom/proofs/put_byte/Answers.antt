-- Two digits stored are the byte put.
use Rattle.hexroom.specs.Room.{byte_put}
use Rattle.hexroom.proofs.put_byte.Goals as goal

pub returns : goal.returns
returns c = byte_put _ _ _ _ _ c.hex_of.ensures c.hex_of-2.ensures
