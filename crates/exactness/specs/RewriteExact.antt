-- The number of `cartheron_rewrite` is exact, for any text and any room (docs/FORMATS.md, "The program and the C functions"): it is below 65,536 exactly if the text reads and
-- the room is as long as it. The room then begins with that same text. It is 65,536 x 9 exactly if the text reads and the room is shorter, and 65,536 x m + k for one of
-- the site's own numbers m exactly if the reader refuses by m at line k. There is no 7 and no 8.
use Rattle.std.specs.Prelude.{◌≡◌, true, List, ◌++◌, ◌↔◌, ◌⊎◌, ℕ, ◌+◌, ◌*◌, ◌≤◌, ◌<◌, leb, Ok, Err}
use Rattle.std.proofs.Math.Path.{refl}
use Rattle.std.proofs.Common.{sym, ◌∙◌, arith, leb-true, leb-false}
use Rattle.std.proofs.Math.Logic.{inl, inr}
use Rattle.std.proofs.Math.ListN.{length, drop}
use Rattle.hexline.specs.Loops.{decide}
use Rattle.hexroom.specs.Room.{handed}
use Rattle.site.specs.declared.Site.{Site}
use Rattle.site.specs.Refusals.{Verdict}
use Rattle.site.specs.Told.{refusal}
use Rattle.site.specs.Table.{own_number}
use Rattle.reader.specs.Reading.{read_text}
use Rattle.writer.specs.Text.{written, room_after as written_room}
use Rattle.commission.specs.Numbers.{rewrite_number, rewrite_room}
use Rattle.roundtrip.specs.LongestSite.{longest_site}
use Rattle.roundtrip.specs.WriteOfRead.{write_of_read}
use Rattle.exactness.specs.CallerExact.{Reads, refusal_in_range, own_large, own_not, reads_or_refused}

-- ---- the statement

-- the number n for a text, and the room before and after it
pub record ExactRewrite (text before : List ℕ) (n : ℕ) (after : List ℕ) : Type 0 where
  pub refused_exactly : (number line : ℕ) → own_number number ≡ true → line < 65536 → (n ≡ 65536 * number + line) ↔ ((place : ℕ) × ((read_text text).verdict ≡ Err (refusal number line place)))
  pub written_exactly : (n < 65536) ↔ ((s : Site) × Reads text s × (length text ≤ length before))
  pub text_is : n < 65536 → (n ≡ length text) × (after ≡ text ++ drop n before)
  pub short_exactly : (n ≡ 65536 * 9) ↔ ((s : Site) × Reads text s × (length before < length text))
  -- no other refusal is given
  pub refusal_known : 65536 ≤ n → (number line : ℕ) × (n ≡ 65536 * number + line) × ((own_number number ≡ true) ⊎ ((number ≡ 9) × (line ≡ 0))) × (line ≤ 194)
  pub refusal_writes_nothing : 65536 ≤ n → after ≡ before

-- ---- one of three comes back

data Rewrote (text before : List ℕ) (n : ℕ) (after : List ℕ) : Type 0 where
  refuses : (m k p : ℕ) → (read_text text).verdict ≡ Err (refusal m k p) → (own_number m ≡ true) × (k ≤ 194) → n ≡ 65536 * m + k → after ≡ before → Rewrote text before n after
  writes : (s : Site) → Reads text s → length text ≤ length before → n ≡ length text → n ≤ 11721 → after ≡ text ++ drop n before → Rewrote text before n after
  short : (s : Site) → Reads text s → length before < length text → n ≡ 65536 * 9 → after ≡ before → Rewrote text before n after

module _ (text room : List ℕ) where
  abbrev number : ℕ
  number = rewrite_number text (length room)

  rewritten_by_writer : (s : Site) → Reads text s → Rewrote text room number (rewrite_room text room)
  unfolding rewrite_number rewrite_room written written_room handed
  rewritten_by_writer s read = let back = write_of_read text s read in elim (decide (leb (length text) (length room))) [
    | inl f ↦
        let n : number ≡ length text = rw (read, back.0, back.1, f) in
        let after : rewrite_room text room ≡ text ++ drop (length text) room = rw (read, back.0, back.1, f) in
        writes s read (leb-true (length text) (length room) f) n (omega (arith, longest_site text s read)) (rw n after)
    | inr f ↦ short s read (leb-false (length text) (length room) f) (rw (read, back.0, back.1, f)) (rw (read, back.0, back.1, f))
  ]

  rewrote : Rewrote text room number (rewrite_room text room)
  unfolding rewrite_number rewrite_room
  rewrote = by_verdict (read_text text).verdict refl
    where
      by_verdict : (v : Verdict) → (read_text text).verdict ≡ v → Rewrote text room number (rewrite_room text room)
      by_verdict (Err (refusal m k p)) e = refuses m k p e (refusal_in_range text m k p e) (rw e) (rw e)
      by_verdict (Ok _) e = rewritten_by_writer (read_text text).site (λ i. record { site = (read_text text).site; verdict = e i })

  -- ---- and each exactly where it should

  pub rewrite_is_exact : ExactRewrite text room (rewrite_number text (length room)) (rewrite_room text room)
  rewrite_is_exact = record {
    refused_exactly = λ m₁ line own near. (
      λ e. elim rewrote [
        | refuses m k p v limits is same ↦ let by : m ≡ m₁ = omega arith in let there : k ≡ line = omega arith in (p, rw (by, there) at v)
        | writes s read fits is most bytes ↦ absurd (omega (arith, own_large m₁ line own))
        | short s read less is same ↦ absurd (own_not m₁ 9 line own refl near (sym is ∙ e))
      ],
      λ e. let told = e.1 in elim rewrote [
        | refuses m k p v limits is same ↦ let by : m ≡ m₁ = cc in let there : k ≡ line = cc in omega arith
        | writes s read fits is most bytes ↦ reads_or_refused text s m₁ line e.0 read told
        | short s read less is same ↦ reads_or_refused text s m₁ line e.0 read told
      ],
    );
    written_exactly = (
      λ small. elim rewrote [
        | refuses m k p v limits is same ↦ absurd (omega (arith, own_large m k limits.0))
        | writes s read fits is most bytes ↦ (s, read, fits)
        | short s read less is same ↦ absurd (omega arith)
      ],
      λ w. elim rewrote [
        | refuses m k p v limits is same ↦ reads_or_refused text w.0 m k p w.1 v
        | writes s read fits is most bytes ↦ omega arith
        | short s read less is same ↦ absurd (omega (arith, w.2))
      ],
    );
    text_is = λ small. elim rewrote [
      | refuses m k p v limits is same ↦ absurd (omega (arith, own_large m k limits.0))
      | writes s read fits is most bytes ↦ (is, bytes)
      | short s read less is same ↦ absurd (omega arith)
    ];
    short_exactly = (
      λ e. elim rewrote [
        | refuses m k p v limits is same ↦ absurd (own_not m 9 k limits.0 refl (omega arith) (sym e ∙ is))
        | writes s read fits is most bytes ↦ absurd (omega arith)
        | short s read less is same ↦ (s, read, less)
      ],
      λ w. elim rewrote [
        | refuses m k p v limits is same ↦ reads_or_refused text w.0 m k p w.1 v
        | writes s read fits is most bytes ↦ absurd (omega (arith, w.2))
        | short s read less is same ↦ is
      ],
    );
    refusal_known = λ large. elim rewrote [
      | refuses m k p v limits is same ↦ (m, k, is, inl limits.0, limits.1)
      | writes s read fits is most bytes ↦ absurd (omega arith)
      | short s read less is same ↦ (9, 0, is, inr (refl, refl), omega arith)
    ];
    refusal_writes_nothing = λ large. elim rewrote [
      | refuses m k p v limits is same ↦ same
      | writes s read fits is most bytes ↦ absurd (omega arith)
      | short s read less is same ↦ same
    ];
  }
