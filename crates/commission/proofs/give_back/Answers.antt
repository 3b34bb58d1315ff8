-- The text is copied where the room is long enough, and nothing is written where it is not.
use mathlib.Core.Path.{◌≡◌, sym}
use mathlib.Core.List.{List, ◌++◌}
use Prim.Native.Nat.{ℕ, ◌≤◌, ◌<◌}
use native.Mathlib.Omega.{arith}
use borrow.Author.Tests.{le-leb, lt-leb}
use lib.ListN.{length, drop}
use Rattle.hexroom.specs.Room.{handed, short_handed}
use Rattle.commission.proofs.give_back.Goals as goal

copied : (text room : List ℕ) → length text ≤ length room → text ++ drop (length text) room ≡ handed text room
unfolding handed
copied text room fits = rw (le-leb (length text) (length room) fits)

pub returns-then-room-text : goal.returns-then-room-text
returns-then-room-text c = let args = c.args in
    let short : length args.room.now < length args.text.now = omega arith in
    record { answer = rw (lt-leb _ _ short, c.in_line.ensures); after = sym (short_handed args.room.now args.text.now short) }

pub returns : goal.returns
returns c =
    let text = c.args.text.now in
    let room = c.args.room.now in
    record { answer = rw (le-leb (length text) (length room) c.if-room-text.false); after = rw c.copy_from_slice.ensures.after (copied text room c.if-room-text.false) }
