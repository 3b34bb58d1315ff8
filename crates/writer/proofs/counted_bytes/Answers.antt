use Rattle.std.proofs.Common.{◌≡◌, min, rules, arith, length, length-take-le}
use Rattle.writer.specs.TextLaws.{tag_counted}
use Rattle.writer.proofs.counted_bytes.Goals as goal
use Rattle.writer.proofs.counted_bytes.Goals.{After-counted}

-- as many bytes of the tag are taken as its length says, and never more than 64
all-counted : (called : After-counted) → called.counted.result ≡ min called.args.tag.now.len 64
all-counted called = called.counted.ensures

pub returns : goal.returns
returns c =
    let counted = all-counted (goal.at.returns c).After-counted in
    let whole : length c.args.tag.now.bytes ≡ 64 = search rules in
    (tag_counted c.args.tag.now c.counted.result whole counted, omega (arith, length-take-le c.counted.result c.args.tag.now.bytes (omega arith)))
