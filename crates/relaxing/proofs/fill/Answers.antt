-- A turn stores the entry of one place more. At the end each place has its own.
use Rattle.std.proofs.Common.{◌∙◌, arith, below_more, get_or-set_same, get_or-set_other, ext_get_or}
use Rattle.constraints.specs.Entries.{blank}
use Rattle.relaxing.proofs.fill.Goals as goal

pub loop-place-preserved : goal.loop-place-preserved
loop-place-preserved c = below_more _ _
    (λ k h. get_or-set_other c.loop-place.list c.loop-place.place k _ blank (omega arith) ∙ c.loop-place.invariant k h)
    (get_or-set_same c.loop-place.list c.loop-place.place _ blank (omega arith) ∙ c.constraint_at.ensures)

pub returns : goal.returns
returns c = ext_get_or blank _ _ (omega arith) (λ k h. c.loop-place.invariant k (omega arith))
