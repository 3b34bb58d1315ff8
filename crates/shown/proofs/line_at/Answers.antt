-- The part begins where `line_start` says, within the text, and ends where `line_end` says, within it too; so its place and its bytes are those of line k.
-- A part `&s[a..e]` has the place of `s` with `a` added to its offset, which is all that `place` asks.
use Rattle.std.proofs.Common.{arith, ap, ℕ}
use Rattle.shown.specs.ShownLaws.{start_fits, end_fits, line_between}
use Rattle.shown.proofs.line_at.Goals as goal

pub line_end-end-requires : goal.line_end-end-requires
line_end-end-requires c = omega (arith, start_fits c.args.text.now c.args.k)

pub slice_bounds-result-end : goal.slice_bounds-result-end
slice_bounds-result-end c = omega (arith, end_fits _ c.args.k _ _ c.line_start-start.ensures c.line_end-end.ensures)

pub returns : goal.returns
returns c = record {
  place = ap (λ (o : ℕ). (c.args.text.ref_ptr.0, o)) (omega arith);
  bytes = line_between _ _ _ _ c.line_start-start.ensures c.line_end-end.ensures;
}
