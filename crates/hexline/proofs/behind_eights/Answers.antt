-- Eight bytes without an LF are passed at a time.
use Rattle.std.proofs.Common.{◌≡◌, ◌++◌, length, drop, ◌∙◌, sym, ap, arith, length-drop, length-append}
use Rattle.std.specs.Slice.Iter.{chunks_exact_rest}
use Rattle.hexline.specs.LineLaws.{rest_at, part_passes}
use Rattle.hexline.proofs.behind_eights.Goals as goal

pub loop-eight-preserved : goal.loop-eight-preserved
loop-eight-preserved c =
    let was = c.loop-eight.invariant in
    let step = c.in-Some.ensures.steps in
    let text = c.args.text.now in
    let part = c.in-Some.eight.now in
    let rest = chunks_exact_rest c.next.new.self in
    let here : drop c.loop-eight.i text ≡ part ++ rest = sym was.left ∙ step.1.0 in
    let eight : length part ≡ 8 = step.1.1 ∙ was.size in
    let behind = rw eight at (rest_at text part rest c.loop-eight.i here) in
    let passed = rw eight at (part_passes text part rest c.loop-eight.i here (sym c.goes_on.ensures ∙ c.if-not-goes_on.false)) in
    record {
      within = omega (arith, ap length here, length-drop c.loop-eight.i text, length-append part rest);
      left = behind;
      size = step.0 ∙ was.size;
      same_line = rw (← behind) (passed ∙ was.same_line);
    }
