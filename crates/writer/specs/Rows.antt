-- The lines of a list from row i on: that of row i, then those behind it.
use Rattle.std.specs.Prelude.{◌≡◌, List, [], ◌++◌, ℕ, ◌+◌, ◌≤◌, ◌<◌, length, get_or, drop}
use Rattle.std.proofs.Common.{sym, ap, ◌∙◌, add-one, length-append, drop-cons, drop_of_length-le}
use Rattle.hexline.specs.Digits.{line_of}
use Rattle.hexroom.specs.Listing.{lines_of}
use Rattle.hexroom.specs.Room.{put, put-append}

module _ {A : Type 0} (bytes : A → List ℕ) (xs : List A) (i : ℕ) where
  abbrev from : ℕ → List ℕ
  from j = lines_of bytes (drop j xs)

  pub none_left : length xs ≤ i → from i ≡ []
  unfolding lines_of
  none_left l = rw (drop_of_length-le xs l)

  module _ (x : A) (l : i < length xs) (e : x ≡ get_or xs i x) where
    pub rows_next : from i ≡ line_of (bytes x) ++ from (i + 1)
    unfolding lines_of
    rows_next = rw (add-one i, drop-cons xs i x l, ← e)

    pub rows-length : length (from i) ≡ length (line_of (bytes x)) + length (from (i + 1))
    rows-length = ap length rows_next ∙ length-append (line_of (bytes x)) (from (i + 1))

    pub row_put : (room : List ℕ) (at to : ℕ) → to ≡ at + length (line_of (bytes x)) → put (put room at (line_of (bytes x))) to (from (i + 1)) ≡ put room at (from i)
    row_put room at to p = put-append room at to (line_of (bytes x)) (from (i + 1)) p ∙ ap (put room at) (sym rows_next)
