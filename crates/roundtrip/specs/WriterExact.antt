-- The site writer is exact, for any records and any room (docs/FORMATS.md, "Site text" and "Refusal numbers"): the numbers of records come exactly as the check gives them, with line and place. For records
-- that it accepts the text comes back exactly if the room is as long as it, and reads to the same records again; 9 comes exactly if the room is shorter.
use Rattle.std.specs.Prelude.{◌≡◌, true, List, ◌++◌, ◌↔◌, ◌⊎◌, ℕ, ◌≤◌, ◌<◌, leb, length, take, Ok, Err}
use Rattle.std.proofs.Math.Path.{refl}
use Rattle.std.proofs.Common.{sym, subst, true≢false, arith, leb-true, leb-false}
use Rattle.std.proofs.Math.Logic.{inl, inr}
use Rattle.std.proofs.Math.ListN.{drop}
use Rattle.std.proofs.Math.Seq.{take-append_seam}
use Rattle.hexline.specs.Loops.{decide}
use Rattle.hexroom.specs.Room.{handed}
use Rattle.site.specs.declared.Site.{Site}
use Rattle.site.specs.Refusals.{Verdict, accepted}
use Rattle.site.specs.Told.{refusal}
use Rattle.site.specs.Table.{record_number}
use Rattle.reader.specs.Reading.{accepted as taken, read_text}
use Rattle.records.specs.Check.{checked}
use Rattle.records.specs.CheckNumbers.{ByRecords, check_by_records}
use Rattle.writer.specs.Text.{Written, text_of, written, room_after}
use Rattle.roundtrip.specs.Kept.{kept}
use Rattle.roundtrip.specs.ReadOfWrite.{read_of_write}

-- ---- the statement

-- the text of the records in the first `len` bytes of a room, and the old bytes behind them; reading it gives the records back, up to their counts and tag lengths
pub record TextIn (s : Site) (before : List ℕ) (len : ℕ) (after : List ℕ) : Type 0 where
  pub size : len ≡ length (text_of s)
  pub bytes : after ≡ text_of s ++ drop len before
  pub reads_back : read_text (take len after) ≡ taken (kept s)

-- the answer r to the records s, and the room before and after it
pub record ExactWriting (s : Site) (before : List ℕ) (r : Written) (after : List ℕ) : Type 0 where
  pub refused_exactly : (number line place : ℕ) → record_number number ≡ true → (r ≡ Err (refusal number line place)) ↔ (checked s ≡ Err (refusal number line place))
  pub written_exactly : ((len : ℕ) × (r ≡ Ok len)) ↔ ((checked s ≡ accepted) × (length (text_of s) ≤ length before))
  pub text_is : (len : ℕ) → r ≡ Ok len → TextIn s before len after
  pub short_exactly : (r ≡ Err (refusal 9 0 255)) ↔ ((checked s ≡ accepted) × (length before < length (text_of s)))
  -- no other refusal is given
  pub refusal_known : (number line place : ℕ) → r ≡ Err (refusal number line place) → (record_number number ≡ true) ⊎ ((number ≡ 9) × (line ≡ 0) × (place ≡ 255))
  pub refusal_writes_nothing : (number line place : ℕ) → r ≡ Err (refusal number line place) → after ≡ before

-- ---- one of three comes back

data Wrote (s : Site) (before : List ℕ) (r : Written) (after : List ℕ) : Type 0 where
  refuses : (number line place : ℕ) → checked s ≡ Err (refusal number line place) → record_number number ≡ true → r ≡ Err (refusal number line place) → after ≡ before → Wrote s before r after
  writes : (len : ℕ) → checked s ≡ accepted → length (text_of s) ≤ length before → TextIn s before len after → r ≡ Ok len → Wrote s before r after
  short : checked s ≡ accepted → length before < length (text_of s) → r ≡ Err (refusal 9 0 255) → after ≡ before → Wrote s before r after

module _ (s : Site) (room : List ℕ) where
  abbrev text : List ℕ
  text = text_of s

  abbrev answer : Written
  answer = written (checked s) text (length room)

  abbrev after : List ℕ
  after = room_after (checked s) text room

  writer_wrote : Wrote s room answer after
  unfolding written room_after handed
  writer_wrote = by_verdict (checked s) refl
    where
      by_verdict : (v : Verdict) → checked s ≡ v → Wrote s room answer after
      by_verdict (Err (refusal number line place)) e = refuses number line place e (subst ByRecords e (check_by_records s)) (rw e) (rw e)
      by_verdict (Ok _) e = elim (decide (leb (length text) (length room))) [
        | inl f ↦
            let bytes : after ≡ text ++ drop (length text) room = rw (e, f) in
            let back : read_text (take (length text) after) ≡ taken (kept s) = rw (bytes, take-append_seam text (drop (length text) room)) (read_of_write s e) in
            writes (length text) e (leb-true (length text) (length room) f) (record { size = refl; bytes = bytes; reads_back = back }) (rw (e, f))
        | inr f ↦ short e (leb-false (length text) (length room) f) (rw (e, f)) (rw (e, f))
      ]

-- ---- and each exactly where it should

nine_no_record : record_number 9 ≡ true → ⊥
nine_no_record e = true≢false (sym e)

accepted_or_refused : {A : Type 0} (v : Verdict) (number line place : ℕ) → v ≡ accepted → v ≡ Err (refusal number line place) → A
accepted_or_refused v number line place a e = absurd (let z : ◌≡◌ {A = ℕ} 0 1 = cc in omega arith)

module _ (s : Site) (before : List ℕ) (r : Written) (after : List ℕ) (wrote : Wrote s before r after) where
  writing_exact : ExactWriting s before r after
  writing_exact = record {
    refused_exactly = λ number line place known. (
      λ e. elim wrote [
        | refuses m k p c h is same ↦ cc
        | writes len a fits text is ↦ absurd (let z : ◌≡◌ {A = ℕ} 0 1 = cc in omega arith)
        | short a less is same ↦ absurd (let q : number ≡ 9 = cc in nine_no_record (rw q at known))
      ],
      λ e. elim wrote [
        | refuses m k p c h is same ↦ cc
        | writes len a fits text is ↦ accepted_or_refused (checked s) number line place a e
        | short a less is same ↦ accepted_or_refused (checked s) number line place a e
      ],
    );
    written_exactly = (
      λ e. let is = e.1 in elim wrote [
        | refuses m k p c h q same ↦ absurd (let z : ◌≡◌ {A = ℕ} 0 1 = cc in omega arith)
        | writes len a fits text q ↦ (a, fits)
        | short a less q same ↦ absurd (let z : ◌≡◌ {A = ℕ} 0 1 = cc in omega arith)
      ],
      λ w. elim wrote [
        | refuses m k p c h is same ↦ accepted_or_refused (checked s) m k p w.0 c
        | writes len a fits text is ↦ (len, is)
        | short a less is same ↦ absurd (omega arith)
      ],
    );
    text_is = λ len e. elim wrote [
      | refuses m k p c h is same ↦ absurd (let z : ◌≡◌ {A = ℕ} 0 1 = cc in omega arith)
      | writes n a fits text is ↦ let q : n ≡ len = cc in rw q at text
      | short a less is same ↦ absurd (let z : ◌≡◌ {A = ℕ} 0 1 = cc in omega arith)
    ];
    short_exactly = (
      λ e. elim wrote [
        | refuses m k p c h is same ↦ absurd (let q : m ≡ 9 = cc in nine_no_record (rw q at h))
        | writes len a fits text is ↦ absurd (let z : ◌≡◌ {A = ℕ} 0 1 = cc in omega arith)
        | short a less is same ↦ (a, less)
      ],
      λ w. elim wrote [
        | refuses m k p c h is same ↦ accepted_or_refused (checked s) m k p w.0 c
        | writes len a fits text is ↦ absurd (omega arith)
        | short a less is same ↦ is
      ],
    );
    refusal_known = λ number line place e. elim wrote [
      | refuses m k p c h is same ↦ let q : m ≡ number = cc in inl (rw q at h)
      | writes len a fits text is ↦ absurd (let z : ◌≡◌ {A = ℕ} 0 1 = cc in omega arith)
      | short a less is same ↦ inr ((cc), (cc), (cc))
    ];
    refusal_writes_nothing = λ number line place e. elim wrote [
      | refuses m k p c h is same ↦ same
      | writes len a fits text is ↦ absurd (let z : ◌≡◌ {A = ℕ} 0 1 = cc in omega arith)
      | short a less is same ↦ same
    ];
  }

pub writer_is_exact : (s : Site) (room : List ℕ) → ExactWriting s room (written (checked s) (text_of s) (length room)) (room_after (checked s) (text_of s) room)
writer_is_exact s room = writing_exact s room (answer s room) (after s room) (writer_wrote s room)
