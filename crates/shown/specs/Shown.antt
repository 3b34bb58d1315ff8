-- The part of a text that is shown for a line (docs/FORMATS.md, "Refusal numbers", its last part): where it begins, and its bytes. Lines count from 1, and a
-- last line that no LF ends is a line too. Where there is no line k, the part is empty and stands at the text's end.
use Rattle.std.specs.Prelude.{◌≡◌, cond, List, [], ◌∷◌, ℕ, zero, suc, ◌+◌, eqb, length, take, drop}
use Rattle.std.specs.Borrow.{Bor}
use Rattle.hexline.specs.Lines.{line_length}

-- the place behind the first n lines, or the text's end where there are fewer
unfoldable pub behind_lines : List ℕ → ℕ → ℕ
behind_lines [] n = 0
behind_lines (b ∷ t) zero = 0
behind_lines (b ∷ t) (suc n) = suc (behind_lines t (cond (eqb b 10) n (suc n)))

-- where line k begins: behind the k - 1 lines before it. There is no line 0: the text's end
unfoldable pub line_start : List ℕ → ℕ → ℕ
line_start t zero = length t
line_start t (suc n) = behind_lines t n

-- the bytes of line k: from where it begins to the next LF, or to the text's end
unfoldable pub line_at : List ℕ → ℕ → List ℕ
line_at t k = take (line_length (drop (line_start t k) t)) (drop (line_start t k) t)

-- `part` is what is shown for line k of `text`: it lies in the text's own memory, as far behind the text's first byte as line k begins, and holds that line's
-- bytes. A slice's `ptr` is its place in memory, a block and an offset in bytes.
pub record Shown (text part : Bor (List ℕ)) (k : ℕ) : Type 0 where
  pub place : part.ref_ptr ≡ (text.ref_ptr.0, text.ref_ptr.1 + line_start text.now k)
  pub bytes : part.now ≡ line_at text.now k
