-- Laws of a line read without a search for its end: what is asked of it up to its tag, and of its tag, is what the layout asks of the first row of the text.
-- A line that keeps the layout is digits only, so that the first LF behind its 22 first digits and its tag is the one that ends it.
use Rattle.std.proofs.Math.Path.{◌≡◌, sym, ap}
use Rattle.std.proofs.Common.{◌∙◌, true≢false, zero-add, arith, get_or-take}
use Rattle.std.proofs.Math.Bool.{Bool, true, not}
use Rattle.std.specs.Prelude.{Some, None, false, List, [], ◌∷◌, ltb, eqb, take}
use Rattle.std.proofs.Math.Logic.{inl, inr}
use Prim.Native.Nat.{ℕ, ◌+◌, ◌*◌, ◌≤◌, ◌<◌}
use Rattle.std.proofs.Math.Dec.{leb}
use Rattle.std.proofs.Math.ListN.{length, get_or}
use Rattle.std.proofs.Math.Seq.{length-take-le}
use borrow.Author.Tests.{ltb-true, ltb-false, leb-false, eqb-true, not-false, lt-ltb, le-ltb, lt-leb, eq-eqb, ne_eqb}
use Rattle.hexline.specs.Loops.{decide, every, every_at, every_all}
use Rattle.hexline.specs.Digits.{is_digit, all_digits, byte_at, number_at}
use Rattle.hexline.specs.DigitLaws.{below_digits, byte_taken, number_taken}
use Rattle.hexline.specs.Lines.{line_length}
use Rattle.hexline.specs.LineLaws.{first_row, none_of, line_within, line_ends, line_ended, line_passes}
use Rattle.hexbytes.specs.Blocks.{every_join}
use Rattle.planlines.specs.declared.PlanLine.{PlanLine}
use Rattle.planlines.specs.PlanFront.{end_in, bad_front, front_in, tag_digits}
use Rattle.planlines.specs.PlanLines.{bad_cluster}
use Rattle.planlines.specs.PlanLineLaws.{KeptCluster, kept_cluster_lem, cluster_good}
use Rattle.planlines.specs.SaidLaws.{LineSays}

-- what is asked of a line up to its tag, and at its end
pub record KeptFront (rest : List ℕ) : Type 0 where
  pub long : 22 ≤ length rest
  pub digits : every 22 (λ i. is_digit (get_or rest i 0)) ≡ true
  pub kind : byte_at rest 0 ≡ 130
  pub inside : end_in rest < length rest
  pub ended : get_or rest (end_in rest) 0 ≡ 10

-- a digit is no LF
digit_goes_on : (b : ℕ) → is_digit b ≡ true → not (eqb b 10) ≡ true
digit_goes_on b d = ap not (ne_eqb b 10 (λ e. true≢false (sym d ∙ ap is_digit e ∙ (below_digits 10 (omega arith)).0)))

module _ (rest : List ℕ) where
  kept_front : bad_front rest ≡ false → KeptFront rest
  unfolding bad_front
  kept_front e =
      let h = none_of (ltb (length rest) 22 ∷ not (every 22 (λ i. is_digit (get_or rest i 0))) ∷ not (eqb (byte_at rest 0) 130) ∷ leb (length rest) (end_in rest) ∷ not (eqb (get_or rest (end_in rest) 0) 10) ∷ []) e in
      record {
        long = ltb-false (length rest) 22 h.0;
        digits = not-false _ h.1.0;
        kind = eqb-true (byte_at rest 0) 130 (not-false _ h.1.1.0);
        inside = leb-false (length rest) (end_in rest) h.1.1.1.0;
        ended = eqb-true (get_or rest (end_in rest) 0) 10 (not-false _ h.1.1.1.1.0);
      }

  pub front_refused : (KeptFront rest → ⊥) → None ≡ front_in rest
  unfolding front_in
  front_refused differs = elim (decide (bad_front rest)) [ inl e ↦ rw e | inr e ↦ absurd (differs (kept_front e)) ]

  pub front_kept : KeptFront rest → Some (record { number = byte_at rest 1; start = number_at rest 2 4; length = number_at rest 6 4; len = byte_at rest 10 }) ≡ front_in rest
  unfolding front_in bad_front
  front_kept k =
      simp (le-ltb (length rest) 22 k.long, k.digits, eq-eqb (byte_at rest 0) 130 k.kind, lt-leb (length rest) (end_in rest) k.inside, eq-eqb (get_or rest (end_in rest) 0) 10 k.ended)

  -- a first row that keeps the layout ends where its tag length says, and its tag has digits only
  row_asked : bad_cluster (first_row rest) ≡ false → KeptFront rest × (tag_digits rest (byte_at rest 10) ≡ true)
  unfolding all_digits tag_digits
  row_asked formed =
      let n : ℕ = line_length rest in
      let k = kept_cluster_lem (first_row rest) formed in
      let size : length (take n rest) ≡ n = length-take-le n rest (line_within rest) in
      let inside = ltb-true n (length rest) k.ended in
      let exact = k.exact in
      let end : n ≡ end_in rest = omega (arith, byte_taken rest n 10 (omega arith)) in
      let digit : (i : ℕ) → i < n → is_digit (get_or rest i 0) ≡ true = λ i h. ap is_digit (sym (get_or-take n rest i 0 h)) ∙ every_at _ (length (take n rest)) i k.digits (omega arith) in (
        record {
          long = omega arith;
          digits = every_all _ 22 (λ i h. digit i (omega arith));
          kind = sym (byte_taken rest n 0 (omega arith)) ∙ k.kind;
          inside = omega arith;
          ended = ap (λ (j : ℕ). get_or rest j 0) (sym end) ∙ line_ended rest inside;
        },
        every_all _ (2 * byte_at rest 10) (λ i h. digit (22 + i) (omega arith)),
      )

  -- a line that is asked so is the first row
  module _ (k : KeptFront rest) (tagged : tag_digits rest (byte_at rest 10) ≡ true) where
    digits_to_end : every (end_in rest) (λ i. is_digit (get_or rest i 0)) ≡ true
    unfolding tag_digits
    digits_to_end =
        let f : ℕ → Bool = λ i. is_digit (get_or rest i 0) in
        sym (every_join f 22 22 (2 * byte_at rest 10) (omega arith) (omega arith)) ∙ simp (k.digits, tagged)

    ends_there : line_length rest ≡ end_in rest
    ends_there =
        let on = every_all (λ i. not (eqb (get_or rest (0 + i) 0) 10)) (end_in rest) (λ i h. rw zero-add (digit_goes_on (get_or rest i 0) (every_at _ (end_in rest) i digits_to_end h))) in
        let passes = simp zero-add at (line_passes rest 0 (end_in rest) (omega (arith, k.inside)) on) in
        omega (arith, passes, line_ends rest (end_in rest) k.inside k.ended)

    row_kept : KeptCluster (first_row rest)
    unfolding all_digits
    row_kept =
        let n : ℕ = line_length rest in
        let size : length (take n rest) ≡ n = length-take-le n rest (line_within rest) in
        let end = ends_there in
        record {
          exact = omega (arith, byte_taken rest n 10 (omega arith));
          ended = lt-ltb n (length rest) (omega (arith, k.inside));
          digits = every_all _ (length (take n rest)) (λ i h. ap is_digit (get_or-take n rest i 0 (omega arith)) ∙ every_at _ (end_in rest) i digits_to_end (omega arith));
          kind = byte_taken rest n 0 (omega arith) ∙ k.kind;
        }

  -- a line that is broken up to its tag or at its end breaks the layout
  pub front_breaks : front_in rest ≡ None → bad_cluster (first_row rest) ≡ true
  front_breaks e = elim (decide (bad_cluster (first_row rest))) [
    | inl b ↦ b
    | inr b ↦ absurd (let says = front_kept (row_asked b).0 ∙ e in cc)
  ]

  module _ (number start len tag : ℕ) (e : front_in rest ≡ Some (record { number = number; start = start; length = len; len = tag })) where
    asked : KeptFront rest
    unfolding front_in
    asked = elim (decide (bad_front rest)) [
      | inl b ↦ absurd (let no = rw b at e in cc)
      | inr b ↦ kept_front b
    ]

    -- the fields of another are the text's, and its tag and the LF are within the text
    pub front_fits : (22 + 2 * tag < length rest) × (number ≡ byte_at rest 1) × (start ≡ number_at rest 2 4) × (len ≡ number_at rest 6 4) × (tag ≡ byte_at rest 10)
    front_fits =
        let same : ◌≡◌ {A = PlanLine} (record { number = number; start = start; length = len; len = tag }) (record { number = byte_at rest 1; start = number_at rest 2 4; length = number_at rest 6 4; len = byte_at rest 10 }) = let says = front_kept asked ∙ e in cc in
        let t : tag ≡ byte_at rest 10 = ap (λ (l : PlanLine). l.len) same in
        (omega (arith, asked.inside), ap (λ (l : PlanLine). l.number) same, ap (λ (l : PlanLine). l.start) same, ap (λ (l : PlanLine). l.length) same, t)

    -- with a tag of digits it says what the first row says, which ends behind the tag
    pub front_says : tag_digits rest tag ≡ true → LineSays (first_row rest) number start len tag × (line_length rest ≡ 22 + 2 * tag)
    front_says tagged =
        let n : ℕ = line_length rest in
        let fits = front_fits in
        let here = rw fits.4 at tagged in
        let end = ends_there asked here in
        let kept = row_kept asked here in
        let t = byte_taken rest n 10 (omega arith) ∙ sym fits.4 in (
          record {
            formed = cluster_good (first_row rest) kept;
            numbered = byte_taken rest n 1 (omega arith) ∙ sym fits.1;
            starts = number_taken rest n 2 4 (omega arith) ∙ sym fits.2;
            long = number_taken rest n 6 4 (omega arith) ∙ sym fits.3;
            tagged = t;
            whole = omega (arith, kept.exact);
          },
          omega arith,
        )

    -- with another tag the layout is broken
    pub front_not : tag_digits rest tag ≡ false → bad_cluster (first_row rest) ≡ true
    front_not other = elim (decide (bad_cluster (first_row rest))) [
      | inl b ↦ b
      | inr b ↦ absurd (true≢false (sym (row_asked b).1 ∙ ap (tag_digits rest) (sym front_fits.4) ∙ other))
    ]
