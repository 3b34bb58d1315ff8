-- A block that begins before `i` stores some bytes again.
use Rattle.std.proofs.Common.{◌≡◌, ◌/◌, length, refl, sym, rules, arith}
use Rattle.hexline.specs.Loops.{every_none, filled}
use Rattle.hexbytes.specs.Blocks.{block_more}
use Rattle.hexbytes.specs.DecodeLaws.{block_stored}
use Rattle.hexbytes.proofs.decode_blocks.Goals as goal

pub loop-i-init : goal.loop-i-init
unfolding filled
loop-i-init g c = record { within = search rules; tested = sym (every_none _); stored = refl }

pub loop-i-preserved : goal.loop-i-preserved
loop-i-preserved g c =
    let next = c.next_block-at.ensures in
    record {
      within = search rules;
      tested = rw (c.loop-i.invariant.tested, c.are_digits-all.ensures, c.requires.whole) (block_more g.row.PAIRS _ _ _ next.0 (omega arith));
      stored = rw (c.store.ensures, c.loop-i.invariant.stored, c.nibbles.ensures, c.requires.whole) (block_stored g.row.PAIRS _ _ _ _ next.0 (omega arith));
    }

pub returns : goal.returns
returns g c = let all : c.loop-i.i ≡ length c.args.line.now / 2 = omega arith in
    (rw all at c.loop-i.invariant.tested, rw all at c.loop-i.invariant.stored)
