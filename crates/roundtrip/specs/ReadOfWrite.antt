-- Records that the check accepts, written and read, give the same records up to the counts and the tag lengths (docs/FORMATS.md, "Site text").
-- The reader takes the header's line, then the line of each cluster, then that of each flow: after i clusters and j flows it holds those records, kept up to
-- their tag lengths. No line is refused, since the reader and the check share the tests of records.
use Rattle.std.specs.Prelude.{◌≡◌, length, get_or, take, drop}
use Rattle.std.proofs.Math.Path.{refl}
use Rattle.std.proofs.Common.{◌∙◌, add-one, drop_of_length-le}
use mathlib.Core.List.{List, [], ◌++◌, append_assoc}
use Prim.Native.Nat.{ℕ, zero, suc, ◌+◌, ◌-◌, ◌≤◌, ◌<◌}
use native.Mathlib.Omega.{arith}
use Rattle.std.proofs.Math.Seq.{drop-cons, get_or-take, length-take-le}
use Rattle.hexroom.specs.Listing.{lines_of}
use Rattle.hexline.specs.Loops.{filled}
use Rattle.hexline.specs.Digits.{byte_at, hexes, line_of}
use Rattle.hexline.specs.Lines.{rows}
use Rattle.hexroom.specs.RoundTrip.{rows_line}
use Rattle.site.specs.declared.Cluster.{Cluster}
use Rattle.site.specs.declared.Flow.{Flow}
use Rattle.site.specs.declared.Site.{Site}
use Rattle.site.specs.Refusals.{accepted}
use Rattle.site.specs.Records.{absent, no_flow, no_site}
use Rattle.site.specs.Table.{due}
use Rattle.reader.specs.Reading.{with_header, verdict_at, entered, accepted as taken, read_rows, read_text}
use Rattle.reader.specs.ReadLaws.{rows_taken}
use Rattle.records.specs.Check.{checked}
use Rattle.writer.specs.Text.{header_bytes, cluster_bytes, flow_bytes, text_of}
use Rattle.roundtrip.specs.Due.{cluster_due, flow_due, none_due}
use Rattle.records.specs.Checked.{Unrefused, checked_unrefused, parent_byte, counts_in, cluster_tests, site_cluster_in, site_flow_in, clusters_reach, flows_reach}
use Rattle.roundtrip.specs.Kept.{kept_first, kept, cluster_kept, flow_kept, kept_taken}
use Rattle.roundtrip.specs.LinesBack.{row_of, header_fields_lem, header_taken, cluster_back, cluster_taken, flow_back, flow_taken}

-- the lines of the records from i up to n
module _ {A : Type 0} (bytes : A → List ℕ) (xs : List A) (i n : ℕ) where
  lines_next : (d : A) → i < n → n ≤ length xs → lines_of bytes (drop i (take n xs)) ≡ line_of (bytes (get_or xs i d)) ++ lines_of bytes (drop (i + 1) (take n xs))
  unfolding lines_of
  lines_next d l h = rw (add-one i, drop-cons (take n xs) i d (omega (arith, length-take-le n xs h)), lines_of, get_or-take n xs i d l)

  lines_none : n ≤ i → n ≤ length xs → lines_of bytes (drop i (take n xs)) ≡ []
  unfolding lines_of
  lines_none l h = rw (drop_of_length-le (take n xs) {i = i} (omega (arith, length-take-le n xs h)))

-- the reader takes a line that was written
line_read : (k : ℕ) (s s' : Site) (bs rest : List ℕ) → verdict_at k s (row_of bs) ≡ accepted → entered k s (hexes bs) ≡ s'
    → read_rows k s (rows (line_of bs ++ rest)) ≡ read_rows (k + 1) s' (rows rest)
line_read k s s' bs rest z e = rw (rows_line bs rest, rows_taken k s (row_of bs) (rows rest) z, e)

module _ (s : Site) (sound : Unrefused s) where
  abbrev n : ℕ
  n = s.cluster_count

  abbrev f : ℕ
  f = s.flow_count

  header_read : (rest : List ℕ) → read_rows 1 no_site (rows (line_of (header_bytes n f) ++ rest)) ≡ read_rows 2 (kept_first s 0 0) (rows rest)
  unfolding no_site kept_first with_header entered filled due
  header_read rest =
      let h = counts_in s sound in
      let e = header_fields_lem n f h in
      let l : List ℕ = hexes (header_bytes n f) in
      let e₂ : byte_at l 2 ≡ n = cc in let e₃ : byte_at l 3 ≡ f = cc in
      line_read 1 no_site (kept_first s 0 0) (header_bytes n f) rest (header_taken n f h 1 0 0 no_site.clusters refl sound.header) (rw (e₂, e₃))

  module _ (i : ℕ) (l : i < n) where
    abbrev c : Cluster
    c = get_or s.clusters i absent

    cluster_read : (rest : List ℕ)
        → read_rows (2 + i) (kept_first s i 0) (rows (line_of (cluster_bytes c) ++ rest)) ≡ read_rows (2 + (i + 1)) (kept_first s (i + 1) 0) (rows rest)
    unfolding entered kept_first
    cluster_read rest =
        let h = site_cluster_in s sound i l in
        let t = cluster_tests s sound i l in
        let few = (counts_in s sound).clusters in
        let byte = parent_byte i c.parent (omega arith) t.1 in
        let due_here : due (2 + i) n f ≡ 2 = cluster_due (2 + i) n f (omega arith) (omega arith) in
        let here : 2 + i - 2 ≡ i = omega arith in
        let next : 2 + i + 1 ≡ 2 + (i + 1) = omega arith in
        let free = kept_taken s i c.tag (omega arith) h.short (λ x p. (site_cluster_in s sound x (omega arith)).short) ∙ t.2 in
        rw (← next)
        (line_read (2 + i) (kept_first s i 0) (kept_first s (i + 1) 0) (cluster_bytes c) rest
        (cluster_taken c h byte (2 + i) n f (kept_first s i 0).clusters due_here t.0 (rw here t.1) (rw here free))
        (rw (due_here, here, cluster_back c h byte) (cluster_kept s i)))

  module _ (j : ℕ) (l : j < f) where
    abbrev w : Flow
    w = get_or s.flows j no_flow

    flow_read : (rest : List ℕ)
        → read_rows (2 + n + j) (kept_first s n j) (rows (line_of (flow_bytes w) ++ rest)) ≡ read_rows (2 + n + (j + 1)) (kept_first s n (j + 1)) (rows rest)
    unfolding entered kept_first
    flow_read rest =
        let h = site_flow_in s sound j l in
        let few = (counts_in s sound).clusters in
        let due_here : due (2 + n + j) n f ≡ 3 = flow_due (2 + n + j) n f (omega arith) (omega arith) in
        let here : 2 + n + j - 2 - n ≡ j = omega arith in
        let next : 2 + n + j + 1 ≡ 2 + n + (j + 1) = omega arith in
        rw (← next)
        (line_read (2 + n + j) (kept_first s n j) (kept_first s n (j + 1)) (flow_bytes w) rest
        (flow_taken n w h few (2 + n + j) f (kept_first s n j).clusters due_here (sound.flows j l))
        (rw (due_here, here, flow_back n w h few) (flow_kept s n j)))

  -- m clusters from i on, then the rest
  clusters_read : (m i : ℕ) → m + i ≡ n → (rest : List ℕ)
      → read_rows (2 + i) (kept_first s i 0) (rows (lines_of cluster_bytes (drop i (take n s.clusters)) ++ rest)) ≡ read_rows (2 + n) (kept_first s n 0) (rows rest)
  clusters_read zero i e rest = let q : i ≡ n = omega arith in rw (lines_none cluster_bytes s.clusters i n (omega arith) (clusters_reach s sound), q)
  clusters_read (suc m) i e rest =
      let l : i < n = omega arith in
      let behind : List ℕ = lines_of cluster_bytes (drop (i + 1) (take n s.clusters)) in
      rw (lines_next cluster_bytes s.clusters i n absent l (clusters_reach s sound), append_assoc (line_of (cluster_bytes (c i l))) behind rest)
      (cluster_read i l (behind ++ rest) ∙ clusters_read m (i + 1) (omega arith) rest)

  -- m flows from j on, then the end
  flows_read : (m j : ℕ) → m + j ≡ f → read_rows (2 + n + j) (kept_first s n j) (rows (lines_of flow_bytes (drop j (take f s.flows)))) ≡ taken (kept_first s n f)
  unfolding read_rows rows kept_first
  flows_read zero j e =
      let q : j ≡ f = omega arith in
      rw (lines_none flow_bytes s.flows j f (omega arith) (flows_reach s sound), q, none_due (2 + n + f) n f (omega arith))
  flows_read (suc m) j e =
      rw (lines_next flow_bytes s.flows j f no_flow (omega arith) (flows_reach s sound))
      (flow_read j (omega arith) (lines_of flow_bytes (drop (j + 1) (take f s.flows))) ∙ flows_read m (j + 1) (omega arith))

pub read_of_write : (s : Site) → checked s ≡ accepted → read_text (text_of s) ≡ taken (kept s)
unfolding read_text text_of kept
read_of_write s e =
    let n : ℕ = s.cluster_count in let f : ℕ = s.flow_count in
    let sound = checked_unrefused s e in
    let flows : List ℕ = lines_of flow_bytes (take f s.flows) in
    let start : 2 + n ≡ 2 + n + 0 = omega arith in
    header_read s sound (lines_of cluster_bytes (take n s.clusters) ++ flows)
    ∙ clusters_read s sound n 0 (omega arith) flows
    ∙ rw start (flows_read s sound f 0 (omega arith))
