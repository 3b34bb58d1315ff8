-- The invariant: the eights that are left begin at `i`, and the line that begins there ends where the one that begins at `at` does.
use Rattle.std.proofs.Common.{◌≡◌, ◌+◌, ◌≤◌, length, drop}
use Rattle.hexline.specs.Lines.{line_length}
use Rattle.std.specs.Slice.Iter.{chunks_exact_rest, chunks_exact_size}
use Rattle.hexline.proofs.behind_eights.Given as goal

abbrev pub invariant-loop-eight : goal.invariant-loop-eight
invariant-loop-eight l = record {
  within : l.i ≤ length l.text;
  left : chunks_exact_rest l.eight-iterator ≡ drop l.i l.text;
  size : chunks_exact_size l.eight-iterator ≡ 8;
  same_line : l.i + line_length (drop l.i l.text) ≡ l.at + line_length (drop l.at l.text);
}
