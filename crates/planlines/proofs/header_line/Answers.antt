-- Each return but the last shows that the line is not what is asked of a first line, and the last one that it is.
use Rattle.std.proofs.Common.{◌≡◌, ◌≤◌, true, false, arith, sym, ◌∙◌, zero-add, Bool, true≢false, List, ℕ, ◌+◌, get_or}
use Rattle.hexline.specs.Digits.{is_digit}
use Rattle.hexline.specs.Loops.{every, every_all, every_at}
use Rattle.planlines.specs.PlanLineLaws.{header_refused, header_kept}
use Rattle.planlines.proofs.header_line.Goals as goal
use Rattle.planlines.proofs.header_line.Goals.{then-line-ne8-via-then-line-ne8, then-line-ne8-via-else-line-ne8+then-not-ended, then-line-ne8-via-else-line-ne8+else-not-ended+then-not-are_digits, then-byte_at-ne129-via-then-byte_at-ne129, then-byte_at-ne129-via-else-byte_at-ne129+then-byte_at-ne1}

-- where another character stands among those that were looked at, it stands among the first eight
other_among_eight : (line : List ℕ) (n : ℕ) (whole : Bool) → whole ≡ every n (λ i. is_digit (get_or line (0 + i) 0)) → n ≤ 8 → whole ≡ false → every 8 (λ i. is_digit (get_or line i 0)) ≡ true → ⊥
other_among_eight line n whole looked few other e =
    let all : every n (λ i. is_digit (get_or line (0 + i) 0)) ≡ true = every_all _ n (λ i l. rw zero-add (every_at _ 8 i e (omega arith))) in
    true≢false (sym all ∙ sym looked ∙ other)

pub returns-then-line-ne8 : goal.returns-then-line-ne8
returns-then-line-ne8 c = header_refused _ (λ k. elim c.then-line-ne8.branch [
  | then-line-ne8-via-then-line-ne8 w ↦ omega (arith, k.long)
  | then-line-ne8-via-else-line-ne8+then-not-ended w ↦ true≢false (cc (k.ended, w.if-not-ended.true))
  | then-line-ne8-via-else-line-ne8+else-not-ended+then-not-are_digits w ↦ other_among_eight _ _ _ w.are_digits.ensures (omega arith) w.if-not-are_digits.true k.digits
])

pub returns-then-byte_at-ne129 : goal.returns-then-byte_at-ne129
returns-then-byte_at-ne129 c = header_refused _ (λ k. elim c.then-byte_at-ne129.branch [
  | then-byte_at-ne129-via-then-byte_at-ne129 w ↦ omega (arith, k.kind)
  | then-byte_at-ne129-via-else-byte_at-ne129+then-byte_at-ne1 w ↦ omega (arith, k.version)
])

pub returns : goal.returns
returns c = rw (c.byte_at-2.ensures, c.byte_at-3.ensures) (header_kept _ record {
  long = omega arith;
  ended = c.if-not-ended.false;
  digits = simp zero-add at (sym c.are_digits.ensures ∙ c.if-not-are_digits.false);
  kind = omega arith;
  version = omega arith;
})
