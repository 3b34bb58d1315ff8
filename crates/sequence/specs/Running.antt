-- The state of the loop that places the clusters: how it begins, and what it says at the end. That a turn keeps it stands in proofs/Placing.antt.
use Rattle.std.specs.Prelude.{◌≡◌, length, take, drop}
use Rattle.std.proofs.Math.Path.{refl}
use Rattle.std.proofs.Common.{sym, ap, ◌∙◌, take-append-drop, length-take-le}
use mathlib.Core.List.{List, [], ◌++◌, reverse, append-nil}
use Prim.Native.Nat.{ℕ, zero, suc, ◌-◌, ◌≤◌}
use native.Mathlib.Omega.{arith}
use Rattle.model.specs.Sequences.{next_ones}
use Rattle.sequence.specs.Holding.{Held, NoneFree, in_order, Sequenced}
use Rattle.sequence.specs.HoldingLaws.{none_comes_next}

module _ (size : ℕ) (parent N : ℕ → ℕ) (earlier : List ℕ) where
  -- the first k clusters stand in the room, `held` says what holds each cluster back after them, and the others follow
  pub record Running (k : ℕ) (room held : List ℕ) : Type 0 where
    pub within : k ≤ size
    pub sized : length room ≡ size
    pub holds : Held size parent N (reverse (take k room)) held
    pub ahead : take k room ++ next_ones size parent N (size - k) (reverse (take k room)) ≡ in_order size parent N
    pub behind : drop k room ≡ drop k earlier

  pub running_at_first : (held : List ℕ) → length earlier ≡ size → Held size parent N [] held → Running 0 earlier held
  running_at_first held e h =
      record { within = omega arith; sized = e; holds = h; ahead = ap (λ k. next_ones size parent N k []) (omega arith); behind = refl }

  module _ (k : ℕ) (room held : List ℕ) (w : Running k room held) where
    abbrev placed : List ℕ
    placed = reverse (take k room)

    none_left : next_ones size parent N (size - k) placed ≡ [] → Sequenced size parent N earlier room k
    none_left e = let all : take k room ≡ in_order size parent N = sym (append-nil (take k room)) ∙ ap (λ l. take k room ++ l) (sym e) ∙ w.ahead in
        record { number = sym (length-take-le k room (omega (arith, w.within, w.sized))) ∙ ap length all; first = all; behind = w.behind }

    pub all_placed : size ≤ k → Sequenced size parent N earlier room k
    unfolding next_ones
    all_placed l = let none_more : size - k ≡ 0 = omega arith in none_left (ap (λ j. next_ones size parent N j placed) none_more)

    pub none_free : NoneFree size held → Sequenced size parent N earlier room k
    unfolding next_ones
    none_free f = none_left (none_follow (size - k))
      where
        none_follow : (j : ℕ) → next_ones size parent N j placed ≡ []
        none_follow zero = refl
        none_follow (suc j) = rw (none_comes_next size parent N placed held w.holds f, next_ones)

-- what a contract with Sequenced says of the room, as an equation
pub sequenced_room : (size : ℕ) (parent N : ℕ → ℕ) (earlier later : List ℕ) (r : ℕ) → Sequenced size parent N earlier later r
    → later ≡ in_order size parent N ++ drop (length (in_order size parent N)) earlier
sequenced_room size parent N earlier later r w = let placed = in_order size parent N in
    sym (take-append-drop r later) ∙ ap (λ l. l ++ drop r later) w.first ∙ ap (λ l. placed ++ l) w.behind ∙ ap (λ k. placed ++ drop k earlier) w.number
