-- Two tags are the same exactly if their lengths are equal and so is every byte up to that length (docs/FORMATS.md, "Site text"). So any byte up to the length tells
-- two tags apart; two tags of the pump hall that agree in 16 bytes and differ in the 17th are worked through.
use Rattle.std.specs.Prelude.{◌≡◌, refl, Bool, true, false, ◌&&◌, List, [], ◌∷◌, ◌++◌, ◌↔◌, ℕ, ◌-◌, ◌≤◌, ◌<◌, length, get_or, take, replicate, eqb, Err}
use Rattle.std.proofs.Common.{sym, ◌∙◌, arith, ext_get_or, get_or-take, length-take-le}
use Rattle.std.proofs.Math.Bool.{and-false}
use Prim.Native.Char.{code}
use Prim.Native.String.{String}
use borrow.Author.Tests.{eq-eqb, ne_eqb, eqb-true}
use Rattle.hexline.specs.Loops.{every, every_all, every_at, every_fails, filled}
use Rattle.hexline.specs.Digits.{is_digit, digit, all_digits, byte_at}
use Rattle.hexline.specs.Lines.{rows, malformed}
use Rattle.site.specs.declared.Tag.{Tag}
use Rattle.site.specs.Refusals.{accepted}
use Rattle.site.specs.Told.{refusal}
use Rattle.site.specs.Records.{no_site, same_tag, wrong_parent, tag_taken}
use Rattle.site.specs.Fields.{first_bad, header_verdict, cluster_verdict}
use Rattle.site.specs.Lines.{size, tag_at, cluster_of}
use Rattle.site.specs.Table.{due, wrong_kind, wrong_length, fields_verdict, misplaced, repeated, line_verdict}
use Rattle.reader.specs.Reading.{with_header, with_cluster, entered, read_rows, read_text}

both_hold : (p q : Bool) → p && q ≡ true → (p ≡ true) × (q ≡ true)
both_hold true q e = (refl, e)
both_hold false q e = absurd (let z : ◌≡◌ {A = ℕ} 0 1 = cc in omega arith)

module _ (a b : Tag) where
  abbrev agree : ℕ → Bool
  agree i = eqb (get_or a.bytes i 0) (get_or b.bytes i 0)

  pub same_tag_exactly : (same_tag a b ≡ true) ↔ ((a.len ≡ b.len) × ((i : ℕ) → i < a.len → get_or a.bytes i 0 ≡ get_or b.bytes i 0))
  unfolding same_tag
  same_tag_exactly = (
    (λ e. let h = both_hold (eqb a.len b.len) (every a.len agree) e in (eqb-true _ _ h.0, λ i l. eqb-true _ _ (every_at agree a.len i h.1 l))),
    (λ h. rw (eq-eqb _ _ h.0, every_all agree a.len (λ i l. eq-eqb _ _ (h.1 i l)))),
  )

  -- so the bytes that count are the same list
  pub same_tag_same_bytes : same_tag a b ≡ true → a.len ≤ length a.bytes → b.len ≤ length b.bytes → take a.len a.bytes ≡ take b.len b.bytes
  same_tag_same_bytes e p q =
      let h = same_tag_exactly.0 e in
      let m : length (take a.len a.bytes) ≡ a.len = length-take-le a.len a.bytes p in
      let n : length (take b.len b.bytes) ≡ b.len = length-take-le b.len b.bytes q in
      let same : a.len ≡ b.len = h.0 in
      ext_get_or 0 (take a.len a.bytes) (take b.len b.bytes) (m ∙ same ∙ sym n)
      (λ i l. get_or-take a.len a.bytes i 0 (omega arith) ∙ h.1 i (omega arith) ∙ sym (get_or-take b.len b.bytes i 0 (omega arith)))

  -- a byte up to the length tells two tags apart
  pub other_byte_other_tag : (i : ℕ) → i < a.len → (get_or a.bytes i 0 ≡ get_or b.bytes i 0 → ⊥) → same_tag a b ≡ false
  unfolding same_tag
  other_byte_other_tag i l h = rw (every_fails agree a.len i l (ne_eqb _ _ h)) (and-false (eqb a.len b.len))

-- ---- two tags of the pump hall

unfoldable pub ascii : String → List ℕ
ascii String.[] = []
ascii (String.◌∷◌ c s) = code c ∷ ascii s

unfoldable pub tag_of : String → Tag
tag_of s = let bytes : List ℕ = ascii s in record { bytes = bytes ++ replicate (64 - length bytes) 0; len = length bytes }

pub pump_hall_tags :
    (take 16 (ascii "PUMPHALL-NORTH-1A") ≡ take 16 (ascii "PUMPHALL-NORTH-1B")) × (same_tag (tag_of "PUMPHALL-NORTH-1A") (tag_of "PUMPHALL-NORTH-1B") ≡ false)
unfolding ascii tag_of same_tag every
pump_hall_tags = (refl, refl)

-- a site of the two is accepted; with the first tag twice it is refused by 6 at line 3
pub pump_hall_site :
    ((read_text (ascii "01010200\n02FF001150554D5048414C4C2D4E4F5254482D3141\n0200001150554D5048414C4C2D4E4F5254482D3142\n")).verdict ≡ accepted)
    × ((read_text (ascii "01010200\n02FF001150554D5048414C4C2D4E4F5254482D3141\n0200001150554D5048414C4C2D4E4F5254482D3141\n")).verdict ≡ Err (refusal 6 3 255))
unfolding ascii rows malformed all_digits is_digit digit byte_at every filled no_site same_tag first_bad header_verdict cluster_verdict wrong_parent tag_taken
    size tag_at cluster_of due wrong_kind wrong_length fields_verdict misplaced repeated line_verdict with_header with_cluster entered read_rows read_text
pump_hall_site = (refl, refl)
