-- The two numbers lead to a part of the text, which is line k by the laws of the part shown.
-- A part `&s[a..e]` has the place of `s` with `a` added to its offset.
use mathlib.Core.Path.{◌≡◌, ap}
use mathlib.Core.List.{List}
use Prim.Native.Nat.{ℕ, ◌+◌, ◌-◌, ◌≤◌}
use native.Mathlib.Omega.{arith}
use lib.ListN.{length, take, drop}
use Rattle.shown.specs.Shown.{line_at}
use Rattle.demands.specs.DemandLaws.{part_fits, part_between, line_shown}
use Rattle.demands.proofs.clients.shown_part.Goals as goal
use Rattle.demands.proofs.clients.shown_part.Goals.{After-cartheron_line_length-length}

-- the two numbers, and the part between them
module _ (c : After-cartheron_line_length-length) where
  abbrev text : List ℕ
  text = c.args.text.now

  abbrev line : ℕ
  line = c.args.line

  abbrev from : ℕ
  from = c.cartheron_line_start-start.result

  abbrev size : ℕ
  size = c.cartheron_line_length-length.result

  ends_inside : from + size ≤ length text
  ends_inside = omega (arith, part_fits text line, c.cartheron_line_start-start.ensures, c.cartheron_line_length-length.ensures)

  is_line : take (from + size - from) (drop from text) ≡ line_at text line
  is_line = part_between text line from size c.cartheron_line_start-start.ensures c.cartheron_line_length-length.ensures

pub overflow_add-result : goal.overflow_add-result
overflow_add-result c = omega (arith, ends_inside (goal.at.overflow_add-result c).After-cartheron_line_length-length, c.well_formed.0.0)

pub slice_bounds-result-end : goal.slice_bounds-result-end
slice_bounds-result-end c = ends_inside (goal.at.slice_bounds-result-end c).After-cartheron_line_length-length

pub returns : goal.returns
returns c = let called = (goal.at.returns c).After-cartheron_line_length-length in
    line_shown _ _ _ (record {
      place = ap (λ (o : ℕ). (called.args.text.ref_ptr.0, o)) (omega (arith, called.cartheron_line_start-start.ensures));
      bytes = is_line called;
    })
