-- The first sixteen characters and those from the seventh on are all of them.
use Rattle.std.proofs.Common.{◌≡◌, ◌&&◌, ◌∙◌, sym, true≢false, zero-add, arith, get_or}
use Rattle.hexline.specs.Digits.{is_digit}
use Rattle.hexline.specs.Loops.{every}
use Rattle.hexbytes.specs.Blocks.{every_join}
use Rattle.planlines.proofs.Front.new.Goals as goal
use Rattle.planlines.proofs.Front.new.Goals.{After-are_digits-2}

both : (c : After-are_digits-2) → (c.are_digits.result && c.are_digits-2.result) ≡ every 22 (λ i. is_digit (get_or c.args.rest.now i 0))
both c =
    let rest = c.args.rest.now in
    let first : c.are_digits.result ≡ every 16 (λ i. is_digit (get_or rest i 0)) = c.are_digits.ensures ∙ simp zero-add in
    rw (first, c.are_digits-2.ensures) (every_join (λ i. is_digit (get_or rest i 0)) 16 6 16 (omega arith) (omega arith))

pub returns-then-not-are_digits-clause-whole : goal.returns-then-not-are_digits-clause-whole
returns-then-not-are_digits-clause-whole c = (λ e. absurd (true≢false (sym e)), λ w. absurd (true≢false (sym w.digits ∙ sym (both (goal.at.returns-then-not-are_digits-clause-whole c).After-are_digits-2) ∙ c.if-not-are_digits.true)))

pub invariant_of-result : goal.invariant_of-result
invariant_of-result c = record { whole = record { long = omega arith; digits = sym (both (goal.at.invariant_of-result c).After-are_digits-2) ∙ c.if-not-are_digits.false } }
