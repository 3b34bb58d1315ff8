-- What the writer wrote reads to the same records, and a refusal of the writer is given as it is.
use Rattle.std.specs.Prelude.{Ok, Err}
use mathlib.Core.Path.{◌≡◌, subst}
use mathlib.Core.Bool.{true}
use mathlib.Core.List.{List}
use Prim.Native.Nat.{ℕ, ◌≤◌}
use native.Mathlib.Omega.{arith}
use lib.ListN.{length}
use Rattle.site.specs.declared.Site.{Site}
use Rattle.site.specs.Table.{record_number}
use Rattle.site.specs.Told.{Told, refusal}
use Rattle.reader.specs.declared.Reading.{Reading}
use Rattle.reader.specs.Reading.{accepted, refused_by}
use Rattle.records.specs.CheckNumbers.{ByRecords, check_by_records}
use Rattle.writer.specs.Text.{Written}
use Rattle.roundtrip.specs.Kept.{kept}
use Rattle.roundtrip.specs.WriterExact.{ExactWriting}
use Rattle.demands.specs.Demands.{BackAgain}
use Rattle.demands.proofs.clients.there_and_back.Goals as goal
use Rattle.demands.proofs.clients.there_and_back.Goals.{After-write_records}

-- what the writer answered, and what was read or made of it
module _ (s : Site) (before : List ℕ) (w : Written) (after : List ℕ) (exact : ExactWriting s before w after) (r : Reading) where
  written_back : (n : ℕ) → w ≡ Ok n → r ≡ accepted (kept s) → BackAgain s before r after
  written_back n is back =
      let whole = exact.written_exactly.0 (n, is) in
      let text = exact.text_is n is in
      record {
        same_records = λ a fits. (back, rw text.size at text.bytes);
        refused_alike = λ number line place e. absurd (let a = whole.0 in let z : ◌≡◌ {A = ℕ} 0 1 = cc in omega arith);
        short_room_lem = λ a less. absurd (omega (arith, whole.1));
      }

  refused_back : (told : Told) → w ≡ Err told → r ≡ refused_by told → BackAgain s before r after
  refused_back (refusal m k p) is back =
      let same = exact.refusal_writes_nothing m k p is in
      record {
        same_records = λ a fits. absurd (let e = (exact.written_exactly.1 (a, fits)).1 in let z : ◌≡◌ {A = ℕ} 0 1 = cc in omega arith);
        refused_alike = λ number line place e.
            let by : record_number number ≡ true = subst ByRecords e (check_by_records s) in
            let q = (exact.refused_exactly number line place by).1 e in
            let b : m ≡ number = cc in let l : k ≡ line = cc in let at : p ≡ place = cc in
            (rw (b, l, at) at back, same);
        short_room_lem = λ a less.
            let q = exact.short_exactly.1 (a, less) in
            let b : m ≡ 9 = cc in let l : k ≡ 0 = cc in let at : p ≡ 255 = cc in
            (rw (b, l, at) at back, same);
      }

-- a text that was written is no longer than the room after it
text_fits : (c : After-write_records) (n : ℕ) → c.write_records.result ≡ Ok n → n ≤ length c.write_records.new.room
text_fits c n is =
    let exact = c.write_records.ensures in
    omega (arith, (exact.text_is n is).size, (exact.written_exactly.0 (n, is)).1, c.write_records.auto.room)

pub slice_bounds-read_text-end : goal.slice_bounds-read_text-end
slice_bounds-read_text-end c = text_fits (goal.at.slice_bounds-read_text-end c).After-write_records _ c.in-Ok.is

pub returns-in-Err : goal.returns-in-Err
returns-in-Err c = refused_back c.args.site.now c.args.room.now _ _ c.write_records.ensures _ _ c.in-Err.is c.refused.ensures
