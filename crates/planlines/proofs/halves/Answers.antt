-- A turn stores the halves of one byte.
use Rattle.std.proofs.Common.{rules, arith, refl}
use Rattle.planlines.specs.WrittenLaws.{halves_more}
use Rattle.planlines.proofs.halves.Goals as goal

pub loop-i-preserved : goal.loop-i-preserved
loop-i-preserved c = (search rules, halves_more c.args.bytes.now c.loop-i.out c.loop-i.i _ _ (omega arith) refl refl c.loop-i.invariant.1)
