-- Laws of prints: tags that are the same have one print, where zeros stand behind their bytes; and what the reader's prints are at each line.
use Rattle.std.specs.Prelude.{◌≡◌, refl, Bool, true, not, List, [], ℕ, zero, suc, ◌+◌, ◌*◌, ◌-◌, ◌≤◌, ◌<◌, eqb, ltb, length, get_or, set, take, drop, replicate}
use Rattle.std.specs.List.{list_all}
use Rattle.std.specs.Simd.{first_chunks}
use Rattle.std.specs.Int.{from_le_bytes, w32}
use Rattle.std.proofs.Common.{sym, ap, ◌∙◌, true≢false, add-one, add-zero, arith, ext_get_or, drop-drop}
use Rattle.std.proofs.Math.Logic.{inl, inr}
use Rattle.std.proofs.Math.ListN.{length-set}
use Rattle.std.proofs.lemmas.List.{length-replicate, get_or-replicate, get_or-take, get_or-drop, length-take-le}
use Rattle.std.proofs.lemmas.List.Folds.{list_all_more}
use Rattle.std.proofs.Math.Seq.{get_or-set_same, get_or-set_other}
use borrow.Author.Tests.{ltb-true, ltb-false, eq-eqb, eqb-true, eqb-false}
use Rattle.model.specs.CountingLaws.{and_both}
use Rattle.hexline.specs.Loops.{decide, every, every_at, every_all, every_same, filled_behind, filled-length}
use Rattle.hexline.specs.Digits.{byte_at}
use Rattle.site.specs.declared.Tag.{Tag}
use Rattle.site.specs.declared.Cluster.{Cluster}
use Rattle.site.specs.declared.Flow.{Flow}
use Rattle.site.specs.declared.Site.{Site}
use Rattle.site.specs.Records.{no_site, absent, same_tag, tag_taken}
use Rattle.site.specs.Lines.{tag_at}
use Rattle.reader.specs.Reading.{with_header, with_cluster, with_flow}
use Rattle.reader.specs.Prints.{word_at, total, totals, print_of}

module _ (b : List ℕ) (n : ℕ) where
  pub total_more : total b n + word_at b n ≡ total b (n + 1)
  unfolding total
  total_more = rw (add-one n, total)

  pub totals_more : totals b n + total b (n + 1) ≡ totals b (n + 1)
  unfolding totals
  totals_more = rw (add-one n, totals)

-- a word is made of the four bytes at its place
chunk_at : (m k : ℕ) (xs : List ℕ) → k < m → get_or (first_chunks 4 m xs) k [] ≡ take 4 (drop (4 * k) xs)
chunk_at zero k xs h = absurd (omega arith)
chunk_at (suc m) zero xs h = refl
chunk_at (suc m) (suc k) xs h = let z : 4 * suc k ≡ 4 + 4 * k = omega arith in chunk_at m k (drop 4 xs) (omega arith) ∙ rw (z, drop-drop (4 * k) 4 xs) refl

part_at : (xs : List ℕ) (n i : ℕ) → i < 4 → get_or (take 4 (drop n xs)) i 0 ≡ get_or xs (n + i) 0
part_at xs n i h = get_or-take 4 (drop n xs) i 0 h ∙ get_or-drop n xs i 0

four_bytes : (b w : List ℕ) (n : ℕ) → ((i : ℕ) → i < 4 → get_or w i 0 ≡ get_or b (n + i) 0)
    → from_le_bytes w32 w ≡ get_or b n 0 + 256 * get_or b (n + 1) 0 + 65536 * get_or b (n + 2) 0 + 16777216 * get_or b (n + 3) 0
four_bytes b w n at =
    let first : get_or w 0 0 ≡ get_or b n 0 = rw add-zero at (at 0 (omega arith)) in
    rw (first, at 1 (omega arith), at 2 (omega arith), at 3 (omega arith)) (omega arith)

pub word_of : (b : List ℕ) (ws : List (List ℕ)) (m k v : ℕ) → ws ≡ first_chunks 4 m b → k < m → v ≡ from_le_bytes w32 (get_or ws k []) → v ≡ word_at b k
unfolding word_at
word_of b ws m k v p h e = e ∙ ap (λ (all : List (List ℕ)). from_le_bytes w32 (get_or all k [])) p ∙ ap (from_le_bytes w32) (chunk_at m k b h) ∙ four_bytes b (take 4 (drop (4 * k) b)) (4 * k) (part_at b (4 * k))

-- a test of every element before n, index by index or as a list
every_taken : {A : Type 0} (p : A → Bool) (xs : List A) (d : A) (n : ℕ) → n ≤ length xs → every n (λ i. p (get_or xs i d)) ≡ list_all p (take n xs)
unfolding every
every_taken p xs d zero h = refl
every_taken p xs d (suc n) h = rw (every_taken p xs d n (omega arith)) (sym (rw add-one at (list_all_more p xs n d (omega arith))))

-- a tag is taken where one of the clusters before has it
pub taken_before : (cs : List Cluster) (i : ℕ) (t : Tag) → i ≤ length cs → tag_taken cs i t ≡ tag_taken (take i cs) (length (take i cs)) t
unfolding tag_taken
taken_before cs i t h = rw (length-take-le i cs h)
    (ap not (every_same _ _ i (λ j l. ap (λ (c : Cluster). not (same_tag c.tag t)) (sym (get_or-take i cs j absent l)))))

-- zeros stand behind a tag's bytes
pub record Padded (t : Tag) : Type 0 where
  pub room : length t.bytes ≡ 64
  pub behind : (i : ℕ) → t.len ≤ i → i < 64 → get_or t.bytes i 0 ≡ 0

pub tag_padded : (l : List ℕ) (k n : ℕ) → Padded (tag_at l k n)
unfolding tag_at
tag_padded l k n = record {
  room = filled-length (λ i. byte_at l (k + i)) (replicate 64 0) n ∙ length-replicate {A = ℕ} 64 0;
  behind = λ i h u. filled_behind (λ i. byte_at l (k + i)) (replicate 64 0) n 0 i h ∙ get_or-replicate 64 i 0 0 u;
}

pub same_print : (a b : Tag) → Padded a → Padded b → same_tag a b ≡ true → print_of a.bytes ≡ print_of b.bytes
unfolding same_tag
same_print a b p q e =
    let h = and_both (eqb a.len b.len) _ e in
    let len = eqb-true a.len b.len h.0 in
    ap print_of (ext_get_or 0 a.bytes b.bytes (p.room ∙ sym q.room) (λ i l.
    let inside : i < 64 = omega (arith, p.room) in
    elim (decide (ltb i a.len)) [
      | inl z ↦ eqb-true (get_or a.bytes i 0) (get_or b.bytes i 0) (every_at _ a.len i h.1 (ltb-true i a.len z))
      | inr z ↦ let z' = ltb-false i a.len z in p.behind i z' inside ∙ sym (q.behind i (omega arith) inside)
    ]))

-- what holds at line k: a print is that of the cluster at its place, behind whose tag zeros stand
pub record Printed (k : ℕ) (s : Site) (prints : List ℕ) : Type 0 where
  pub room : length prints ≡ 64
  pub print : (j : ℕ) → j + 2 < k → j < s.cluster_count → get_or prints j 0 ≡ print_of (get_or s.clusters j absent).tag.bytes
  pub padded : (j : ℕ) → j + 2 < k → j < s.cluster_count → Padded (get_or s.clusters j absent).tag

pub printed_start : Printed 1 no_site (replicate 64 0)
printed_start = record {
  room = length-replicate {A = ℕ} 64 0;
  print = λ j h u. absurd (omega arith);
  padded = λ j h u. absurd (omega arith);
}

module _ (k : ℕ) (s : Site) (prints : List ℕ) (h : Printed k s prints) where
  pub printed_header : k ≤ 1 → (n f : ℕ) → Printed (k + 1) (with_header s n f) prints
  printed_header first n f = record {
    room = h.room;
    print = λ j a b. absurd (omega arith);
    padded = λ j a b. absurd (omega arith);
  }

  pub printed_flow : 1 + s.cluster_count < k → (i : ℕ) (w : Flow) → Printed (k + 1) (with_flow s i w) prints
  unfolding with_flow
  printed_flow after i w = record {
    room = h.room;
    print = λ j a b. h.print j (omega arith) b;
    padded = λ j a b. h.padded j (omega arith) b;
  }

  pub printed_cluster : 1 < k → k ≤ 65 → length s.clusters ≡ 64 → (c : Cluster) (v : ℕ) → Padded c.tag → v ≡ print_of c.tag.bytes
      → Printed (k + 1) (with_cluster s (k - 2) c) (set prints (k - 2) v)
  unfolding with_cluster
  printed_cluster after within long c v zeros is = record {
    room = length-set prints (k - 2) v ∙ h.room;
    print = λ j a b. elim (decide (eqb j (k - 2))) [
      | inl q ↦
          let e = eqb-true j (k - 2) q in
          rw (e, get_or-set_same prints (k - 2) v 0 (omega (arith, h.room)), get_or-set_same s.clusters (k - 2) c absent (omega arith)) is
      | inr q ↦
          let e = eqb-false j (k - 2) q in
          rw (get_or-set_other prints (k - 2) j v 0 e, get_or-set_other s.clusters (k - 2) j c absent e) (h.print j (omega arith) b)
    ];
    padded = λ j a b. elim (decide (eqb j (k - 2))) [
      | inl q ↦ let e = eqb-true j (k - 2) q in rw (e, get_or-set_same s.clusters (k - 2) c absent (omega arith)) zeros
      | inr q ↦ let e = eqb-false j (k - 2) q in rw (get_or-set_other s.clusters (k - 2) j c absent e) (h.padded j (omega arith) b)
    ];
  }

  -- a tag whose print none of the first n has is the tag of none of them
  pub prints_differ : (t : Tag) → Padded t → (v : ℕ) → v ≡ print_of t.bytes → (n : ℕ) → n + 2 ≤ k → n ≤ s.cluster_count → n ≤ 64
      → list_all (λ q. not (eqb q v)) (take n prints) ≡ true → every n (λ j. not (same_tag (get_or s.clusters j absent).tag t)) ≡ true
  prints_differ t zeros v is n early few within e = every_all _ n (λ j l. elim (decide (same_tag (get_or s.clusters j absent).tag t)) [
    | inr q ↦ ap not q
    | inl q ↦
        let one = h.print j (omega arith) (omega arith) ∙ same_print (get_or s.clusters j absent).tag t (h.padded j (omega arith) (omega arith)) zeros q ∙ sym is in
        absurd (true≢false (sym (every_at _ n j (every_taken (λ q. not (eqb q v)) prints 0 n (omega (arith, h.room)) ∙ e) l) ∙ ap not (eq-eqb _ _ one)))
  ])
