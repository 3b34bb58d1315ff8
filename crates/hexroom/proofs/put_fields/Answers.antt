-- A field put and those behind it are the fields from that one on, and behind the last field nothing is left to put.
use Rattle.std.proofs.Common.{arith, ◌∙◌, drop_of_length-le}
use Rattle.hexline.specs.Digits.{hexes, field_bytes}
use Rattle.hexroom.specs.Fields.{fields-length, fields_next}
use Rattle.hexroom.specs.Room.{put_none}
use Rattle.hexroom.proofs.put_fields.Goals as goal

pub put_number-to-requires : goal.put_number-to-requires
put_number-to-requires c = omega (arith, fields-length c.args.fields.now c.loop-field.field-index c.loop-field-test.true)

pub loop-field-preserved : goal.loop-field-preserved
loop-field-preserved c =
    let called = c.put_number-to.ensures in
    let turn = c.loop-field-test.true in
    (rw called.1 (fields_next _ _ turn _ _ _ called.0 ∙ c.loop-field.invariant.0), omega (arith, fields-length c.args.fields.now c.loop-field.field-index turn, called.0))

pub returns : goal.returns
unfolding hexes field_bytes
returns c =
    let none = drop_of_length-le c.args.fields.now c.loop-field-test.false in
    (omega (arith, rw none at c.loop-field.invariant.1), rw (none, put_none c.loop-field.room c.loop-field.to) at c.loop-field.invariant.0)
