-- Laws of the tag that a cluster line spells, as it is copied from the line's bytes.
use Rattle.std.specs.Prelude.{◌≡◌, List, ℕ, ◌+◌, ◌/◌, ◌<◌, ltb, length, get_or, replicate}
use Rattle.std.proofs.Common.{sym, ◌∙◌, inl, inr, arith, ext_get_or, ltb-true, ltb-false}
use Rattle.std.proofs.lemmas.List.{length-replicate, get_or-replicate}
use Rattle.hexline.specs.Loops.{decide, filled, filled_at, filled_behind, filled-length}
use Rattle.hexbytes.specs.Decoded.{Decoded}
use Rattle.hexbytes.specs.DecodeLaws.{decoded_at}
use Rattle.hexline.specs.Digits.{byte_at}
use Rattle.site.specs.declared.Tag.{Tag}
use Rattle.site.specs.Lines.{tag_at}
use Rattle.tags.specs.TagBytes.{tag_bytes}

-- a tag whose first i bytes are filled in, and i is its length
pub tag_made : (l : List ℕ) (k n : ℕ) (bytes : List ℕ) (i : ℕ) → bytes ≡ filled (λ j. byte_at l (k + j)) (replicate 64 0) i → i ≡ n
    → ◌≡◌ {A = Tag} (record { bytes = bytes; len = n }) (tag_at l k n)
unfolding tag_at
tag_made l k n bytes i p q = rw (p, q)

-- the tag of a cluster line, copied from the line's bytes with the zeros behind them
pub decoded_tag : (l b : List ℕ) (n : ℕ) → Decoded l b → length l / 2 ≡ 4 + n → tag_bytes b ≡ filled (λ i. byte_at l (4 + i)) (replicate 64 0) n
unfolding tag_bytes
decoded_tag l b n h e =
    let zeros : List ℕ = replicate 64 0 in
    let room : length zeros ≡ 64 = length-replicate {A = ℕ} 64 0 in
    let held : length (replicate {A = ℕ} 68 0) ≡ 68 = length-replicate {A = ℕ} 68 0 in
    let copied : List ℕ = filled (λ i. get_or b (4 + i) 0) zeros 64 in
    let tag : List ℕ = filled (λ i. byte_at l (4 + i)) zeros n in
    ext_get_or 0 copied tag (filled-length _ zeros 64 ∙ sym (filled-length _ zeros n)) (λ i k.
    let inside : i < 64 = omega (arith, filled-length (λ i. get_or b (4 + i) 0) zeros 64) in
    let from = filled_at (λ i. get_or b (4 + i) 0) zeros 64 0 (omega arith) i inside in
    elim (decide (ltb i n)) [
      | inl q ↦
          let q' = ltb-true i n q in
          from ∙ decoded_at l b (4 + i) h (omega arith) ∙ sym (filled_at (λ i. byte_at l (4 + i)) zeros n 0 (omega (arith, h.short)) i q')
      | inr q ↦
          let q' = ltb-false i n q in
          let behind : get_or b (4 + i) 0 ≡ 0 = rw h.bytes (filled_behind (byte_at l) (replicate 68 0) (length l / 2) 0 (4 + i) (omega arith) ∙ get_or-replicate 68 (4 + i) 0 0 (omega arith)) in
          from ∙ behind ∙ sym (filled_behind (λ i. byte_at l (4 + i)) zeros n 0 i q' ∙ get_or-replicate 64 i 0 0 inside)
    ])
