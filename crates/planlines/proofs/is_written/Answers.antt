-- None ends the walk. Two digits are those of a byte's halves, so that all of them are the digits of the tag's bytes.
use Rattle.std.proofs.Common.{◌≡◌, ℕ, ◌+◌, ◌*◌, ◌<◌, List, length, get_or, take, drop, arith, sym, ap, ◌∙◌, get_or-take, length-take, length-drop}
use Rattle.std.specs.Iterator.Adapters.{zip_first, zip_second}
use Rattle.std.specs.Slice.Iter.{iter_rest}
use Rattle.std.proofs.lemmas.List.{length_push, get_or-drop}
use Rattle.std.proofs.lemmas.Slice.Zip.{zip_turn, zip_end}
use Rattle.hexline.specs.Loops.{every_none, every_next}
use Rattle.hexline.specs.LineLaws.{part_to_end}
use Rattle.planlines.specs.PlanFront.{half_at}
use Rattle.planlines.specs.WrittenLaws.{digits_written}
use Rattle.planlines.proofs.is_written.Goals as goal
use Rattle.planlines.proofs.is_written.Goals.{After-hex_of, In-None}

-- an element of a list's front is the list's
taken_at : (n : ℕ) (l : List ℕ) (i : ℕ) → i < length (take n l) → (get_or (take n l) i 0 ≡ get_or l i 0) × (i < length l)
taken_at n l i h = (get_or-take n l i 0 (omega (arith, length-take n l)), omega (arith, length-take n l))

-- a turn compares the next character with the next half
module _ (turn : After-hex_of) where
  abbrev before : ℕ
  before = length turn.loop-c.yielded

  pair : (turn.in-Some.field-0-0.now ≡ get_or turn.args.rest.now (22 + before) 0) × (turn.in-Some.field-0-1.now ≡ half_at turn.args.tag.now.bytes before)
  pair =
      let zipped = turn.zip-c-items.ensures in
      let made = turn.into_iter-c-iterator.ensures.into_iter_gives in
      let s = turn.into_iter-c-iterator.result in
      let first : iter_rest (zip_first s) ≡ drop 22 turn.args.rest.now = rw (made, zipped.first, turn.iter.ensures.rest) (part_to_end turn.args.rest.now 22) in
      let next = zip_turn _ _ turn.loop-c.yielded s turn.loop-c.c-iterator turn.next.new.self _ first (ap (λ z. iter_rest (zip_second z)) made ∙ zipped.second.0) turn.loop-c.yielded_by _ turn.in-Some.is turn.next.ensures.steps in
      let half = taken_at _ turn.halves-digits.result before next.1 in
      (next.2 0 ∙ get_or-drop 22 turn.args.rest.now before 0, next.3 0 ∙ half.0 ∙ turn.halves-digits.ensures before (omega (arith, half.1)))

pub loop-c-init : goal.loop-c-init
loop-c-init c = sym (every_none _)

pub loop-c-preserved : goal.loop-c-preserved
loop-c-preserved c =
    let next = pair (goal.at.loop-c-preserved c).After-hex_of in
    rw (length_push c.loop-c.yielded _, c.loop-c.invariant, c.hex_of.ensures, next.0, next.1) (every_next _ _)

pub returns : goal.returns
returns c =
    let rest = c.args.rest.now in
    let tag = c.args.tag.now in
    let zipped = c.zip-c-items.ensures in
    let made = c.into_iter-c-iterator.ensures.into_iter_gives in
    let s = c.into_iter-c-iterator.result in
    let first : iter_rest (zip_first s) ≡ drop 22 rest = rw (made, zipped.first, c.iter.ensures.rest) (part_to_end rest 22) in
    let end = zip_end _ _ c.loop-c.yielded s c.loop-c.c-iterator c.next.new.self _ first (ap (λ z. iter_rest (zip_second z)) made ∙ zipped.second.0) c.loop-c.yielded_by c.in-None.is c.next.ensures.steps in
    let all : length c.loop-c.yielded ≡ 2 * tag.len = omega (arith, end, length-drop 22 rest, length-take {A = ℕ}) in
    c.loop-c.invariant ∙ rw all (digits_written rest tag.bytes tag.len)
