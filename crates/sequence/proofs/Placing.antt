-- The lowest-numbered cluster that nothing holds back is the lowest of the set and comes next in the sequence, and placing it keeps the state of the loop.
use Rattle.std.specs.Prelude.{◌≡◌, List, ℕ, ◌+◌, ◌-◌, ◌≤◌, ◌<◌, ltb, eqb, take, drop, set}
use Rattle.std.proofs.Common.{[], ◌∷◌, ◌++◌, sym, ap, ◌∙◌, arith, add-one, append_assoc, length-set, take-suc-set, drop-set-lt, drop-drop, ltb-true, eqb-true}
use Rattle.std.proofs.Math.Option.{some}
use mathlib.Core.List.{reverse, reverse-append}
use Rattle.model.specs.Counting.{at}
use Rattle.model.specs.CountingLaws.{and_both, lowest_found}
use Rattle.model.specs.Sequences.{next, next_ones}
use Rattle.model.specs.SequenceLaws.{next_comes_first}
use Rattle.sequence.specs.Holding.{Held, LowestFree, Marked}
use Rattle.sequence.specs.HoldingLaws.{Released, candidate, free_is_candidate, held_is_no_candidate, released_holds}
use Rattle.sequence.specs.MarkLaws.{bit_true, free_marked}
use Rattle.sequence.specs.Running.{Running}
use Rattle.sequence.specs.Sets.{LowestOf}

module _ (size : ℕ) (held : List ℕ) (free : ℕ) (few : size ≤ 64) (w : Marked size held free) where
  pub lowest_free : (x : ℕ) → LowestOf free x → LowestFree size held x
  lowest_free x f =
      let both = and_both (ltb x size) (eqb (at held x) 0) (bit_true _ (sym (w.each x f.few) ∙ f.there)) in
      let there = ltb-true x size both.0 in
      (there, eqb-true (at held x) 0 both.1, λ c l e. omega (arith, f.below c, free_marked size held free few w c (omega arith) e))

module _ (size : ℕ) (parent N : ℕ → ℕ) (placed held : List ℕ) (h : Held size parent N placed held) where
  pub free_comes_next : (x : ℕ) → LowestFree size held x → next size parent N placed ≡ some x
  unfolding next
  free_comes_next x f =
      lowest_found (candidate size parent N placed held h) size x f.0 (free_is_candidate size parent N placed held h x f.0 f.1)
      (λ c l. held_is_no_candidate size parent N placed held h c (omega (arith, f.0)) (f.2 c l))

module _ (size : ℕ) (parent N : ℕ → ℕ) (earlier : List ℕ) (k : ℕ) (room held : List ℕ) (w : Running size parent N earlier k room held) where
  abbrev placed : List ℕ
  placed = reverse (take k room)

  pub running_on : (x : ℕ) (later : List ℕ) → k < size → LowestFree size held x → Released size parent N x held later → Running size parent N earlier (k + 1) (set room k x) later
  running_on x later l f r = record {
    within = omega arith;
    sized = length-set room k x ∙ w.sized;
    holds = rw turned (released_holds size parent N placed held w.holds x f later r);
    ahead = rw (turned, front, append_assoc) (ap (λ l. take k room ++ l) (sym x_follows) ∙ w.ahead);
    behind = drop-set-lt (k + 1) room k x (omega arith) ∙ sym (drop-drop 1 k room) ∙ ap (drop 1) w.behind ∙ drop-drop 1 k earlier;
  }
    where
      front : take (k + 1) (set room k x) ≡ take k room ++ (x ∷ [])
      front = rw add-one (take-suc-set room k x (omega (arith, w.sized)))

      turned : reverse (take (k + 1) (set room k x)) ≡ x ∷ placed
      turned = ap reverse front ∙ reverse-append (take k room) (x ∷ [])

      x_follows : next_ones size parent N (size - k) placed ≡ x ∷ next_ones size parent N (size - (k + 1)) (x ∷ placed)
      x_follows =
          ap (λ j. next_ones size parent N j placed) (omega arith)
          ∙ next_comes_first size parent N (size - (k + 1)) placed (free_comes_next size parent N placed held w.holds x f)
