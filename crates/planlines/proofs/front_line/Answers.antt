-- Each return but the last shows that the line is not what is asked of a cluster's line up to its tag and at its end, and the last one that it is.
use Rattle.std.proofs.Common.{◌≡◌, ℕ, ◌+◌, ◌*◌, not, ◌&&◌, eqb, ltb, List, length, get_or, Option, Some, None, is_some, arith, sym, ap, ◌∙◌, true≢false, lt-ltb, eq-eqb, Bor}
use Rattle.std.specs.Option.{option_eq, option_map, unwrap_or}
use Rattle.planlines.specs.PlanFront.{end_in}
use Rattle.planlines.specs.FrontLaws.{front_refused, front_kept}
use Rattle.model.specs.CountingLaws.{and_both}
use borrow.Author.Tests.{not-true, not-false, ltb-true, eqb-true}
use Rattle.planlines.proofs.front_line.Goals as goal
use Rattle.planlines.proofs.front_line.Goals.{After-ne}

-- what `get` found is a byte exactly if that byte stands there
found_is : (rest : List ℕ) (end : ℕ) (found : Option (Bor ℕ)) (byte : Bor ℕ) → is_some found ≡ ltb end (length rest) → unwrap_or (option_map (λ (x : Bor ℕ). x.now) found) 0 ≡ get_or rest end 0
    → option_eq (λ (x y : Bor ℕ). eqb x.now y.now) found (Some byte) ≡ (ltb end (length rest) && eqb (get_or rest end 0) byte.now)
found_is rest end None byte p q = rw (← p)
found_is rest end (Some x) byte p q = rw (← p, ← q)

-- the test of the end says whether no LF stands where the tag length says
unended : (c : After-ne) → c.ne.result ≡ not (ltb (end_in c.args.rest.now) (length c.args.rest.now) && eqb (get_or c.args.rest.now (end_in c.args.rest.now) 0) 10)
unended c =
    let rest = c.args.rest.now in
    let end : 22 + 2 * c.from.result ≡ end_in rest = omega (arith, c.from.ensures, rw c.in_ok-front.ensures.same at c.byte-len.ensures) in
    let at : ℕ = 22 + 2 * c.from.result in
    c.ne.ensures
    ∙ ap not (found_is rest at c.get.result _ c.get.ensures.lookup.0 (c.get.ensures.lookup.4 (omega arith) 0))
    ∙ ap (λ (b : ℕ). not (ltb at (length rest) && eqb (get_or rest at 0) b)) (omega arith)
    ∙ ap (λ (n : ℕ). not (ltb n (length rest) && eqb (get_or rest n 0) 10)) end

pub returns-in_err-front : goal.returns-in_err-front
returns-in_err-front c = c.from_residual.ensures ∙ front_refused _ (λ k. true≢false (sym (c.in_err-front.ensures.whole.1 record { long = k.long; digits = k.digits })))

pub returns-then-byte : goal.returns-then-byte
returns-then-byte c = front_refused _ (λ k. omega (arith, k.kind, rw c.in_ok-front.ensures.same at c.byte.ensures))

pub returns-then-ne : goal.returns-then-ne
returns-then-ne c =
    let rest = c.args.rest.now in
    let other = not-true _ (sym (unended (goal.at.returns-then-ne c).After-ne) ∙ c.if-ne.true) in
    front_refused rest (λ k. true≢false (simp (lt-ltb (end_in rest) (length rest) k.inside, eq-eqb (get_or rest (end_in rest) 0) 10 k.ended) at other))

pub returns : goal.returns
returns c =
    let rest = c.args.rest.now in
    let same = c.in_ok-front.ensures.same in
    let there = and_both _ _ (not-false _ (sym (unended (goal.at.returns c).After-ne) ∙ c.if-ne.false)) in
    let whole = rw same at c.in_ok-front.front.whole in
    rw (c.byte-2.ensures, c.number.ensures, c.number-2.ensures, c.byte-len.ensures, same) (front_kept rest record {
      long = whole.long;
      digits = whole.digits;
      kind = omega (arith, rw same at c.byte.ensures);
      inside = ltb-true _ _ there.0;
      ended = eqb-true _ _ there.1;
    })
