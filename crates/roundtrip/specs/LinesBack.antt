-- The line of a record that is in its ranges, read: its fields come back, for a record's line is its table of fields, and a tag comes back up to its length.
use Rattle.std.specs.Prelude.{◌≡◌, true, false, ℕ, ◌+◌, ◌-◌, ◌/◌, ◌≤◌, ◌<◌, get_or, take, replicate}
use Rattle.std.proofs.Math.Path.{refl}
use Rattle.std.proofs.Common.{◌∙◌, arith, get_or-take, eq-eqb, ne_eqb}
use mathlib.Core.List.{List, [], ◌∷◌, append-nil}
use Rattle.std.proofs.Math.ListN.{length}
use Rattle.std.proofs.Math.Seq.{length-take-le}
use Rattle.hexline.specs.Loops.{filled-same}
use Rattle.hexline.specs.Digits.{byte_at, number_at, hexes, number_bytes, field_bytes}
use Rattle.hexline.specs.Lines.{Row}
use Rattle.hexroom.specs.Room.{hexes-length}
use Rattle.hexroom.specs.RoundTrip.{Fit, fields_at, total, fields_back, tail_back, number_one, written_well}
use Rattle.site.specs.declared.Cluster.{Cluster}
use Rattle.site.specs.declared.Flow.{Flow}
use Rattle.site.specs.Refusals.{accepted}
use Rattle.site.specs.Records.{wrong_parent, tag_taken}
use Rattle.site.specs.Fields.{header_values, flow_values, header_verdict, cluster_verdict, flow_verdict}
use Rattle.site.specs.Lines.{size, tag_at, cluster_of, flow_of}
use Rattle.site.specs.Table.{by_kind, due, wrong_kind, wrong_length, fields_verdict, misplaced, repeated, line_verdict}
use Rattle.site.specs.TableLaws.{passed_line}
use Rattle.writer.specs.Text.{header_widths, cluster_widths, flow_widths, header_bytes, cluster_bytes, flow_bytes}
use Rattle.records.specs.Checked.{HeaderIn, ClusterIn, FlowIn}
use Rattle.roundtrip.specs.Kept.{kept_tag, kept_cluster, kept_verdict}

-- the row of a line of bytes
abbrev pub row_of : List ℕ → Row
row_of bs = record { chars = hexes bs; ended = true }

-- how many bytes a record has
pub header_size : (n f : ℕ) → length (header_bytes n f) ≡ 4
unfolding header_bytes field_bytes number_bytes
header_size n f = refl

pub cluster_size_lem : (c : Cluster) → length (cluster_bytes c) ≡ 4 + length (take c.tag.len c.tag.bytes)
unfolding cluster_bytes field_bytes number_bytes
cluster_size_lem c = omega arith

pub flow_size : (f : Flow) → length (flow_bytes f) ≡ 11
unfolding flow_bytes field_bytes number_bytes
flow_size f = refl

-- a line of the kind d that is due passes the tests 1, 2 and 3: it is taken if its fields are good and it passes 5 and 6
line_taken : (d k n f : ℕ) (cs : List Cluster) (bs : List ℕ) → let l : List ℕ = hexes bs in
    due k n f ≡ d → (d ≡ 0 → ⊥) → byte_at l 0 ≡ d → 0 < length bs → length bs ≤ 68 → length bs ≡ by_kind d 4 (4 + byte_at l 3) 11
    → fields_verdict d k n l ≡ accepted → misplaced d k l ≡ false → repeated d k cs l ≡ false → line_verdict k n f cs (row_of bs) ≡ accepted
unfolding wrong_kind wrong_length size
line_taken d k n f cs bs is z kind some few long good t₅ t₆ =
    let l : List ℕ = hexes bs in
    let half : length l / 2 ≡ length bs = omega (arith, hexes-length bs) in
    passed_line k n f cs (row_of bs)
    (record {
      well = written_well 136 bs some (omega arith);
      kind = rw (is, ne_eqb d 0 z, eq-eqb (byte_at l 0) d kind);
      long = rw (is, half, eq-eqb (length bs) (by_kind d 4 (4 + byte_at l 3) 11) long);
      fields = rw is good;
      below = rw is t₅;
      alone = rw is t₆;
    })

-- ---- the header

module _ (n f : ℕ) (h : HeaderIn n f) where
  abbrev header_line : List ℕ
  header_line = hexes (header_bytes n f)

  header_fits : Fit header_widths (header_values 1 n f)
  header_fits = omega arith

  pub header_fields_lem : byte_at header_line 0 ∷ byte_at header_line 1 ∷ byte_at header_line 2 ∷ byte_at header_line 3 ∷ [] ≡ header_values 1 n f
  unfolding header_bytes fields_at
  header_fields_lem = simp (append-nil, number_one) at (fields_back [] header_widths (header_values 1 n f) [] header_fits)

  pub header_taken : (k n₀ f₀ : ℕ) (cs : List Cluster) → due k n₀ f₀ ≡ 1 → header_verdict k 1 n f ≡ accepted → line_verdict k n₀ f₀ cs (row_of (header_bytes n f)) ≡ accepted
  unfolding fields_verdict misplaced repeated
  header_taken k n₀ f₀ cs d r =
      let e = header_fields_lem in
      let size = header_size n f in
      let e₀ : byte_at header_line 0 ≡ 1 = cc in let e₁ : byte_at header_line 1 ≡ 1 = cc in
      let e₂ : byte_at header_line 2 ≡ n = cc in let e₃ : byte_at header_line 3 ≡ f = cc in
      line_taken 1 k n₀ f₀ cs (header_bytes n f) d (λ z. omega arith) e₀ (omega arith) (omega arith) size (rw (e₁, e₂, e₃) r) refl refl

-- ---- a cluster

module _ (c : Cluster) (h : ClusterIn c) (byte : c.parent < 256) where
  -- what stands before the tag
  abbrev untagged : List ℕ
  untagged = 2 ∷ c.parent ∷ c.order ∷ c.tag.len ∷ []

  abbrev cluster_line : List ℕ
  cluster_line = hexes (cluster_bytes c)

  cluster_fits : Fit cluster_widths untagged
  cluster_fits = omega arith

  cluster_fields_lem : byte_at cluster_line 0 ∷ byte_at cluster_line 1 ∷ byte_at cluster_line 2 ∷ byte_at cluster_line 3 ∷ [] ≡ untagged
  unfolding cluster_bytes fields_at
  cluster_fields_lem = simp number_one at (fields_back [] cluster_widths untagged (take c.tag.len c.tag.bytes) cluster_fits)

  tag_byte_lem : (i : ℕ) → i < c.tag.len → byte_at cluster_line (4 + i) ≡ get_or c.tag.bytes i 0
  unfolding cluster_bytes total
  tag_byte_lem i l =
      tail_back cluster_widths untagged (take c.tag.len c.tag.bytes) cluster_fits i
      ∙ rw (get_or-take c.tag.len c.tag.bytes i 0 l) (omega (arith, h.printable i l))

  -- the tag up to its length, zeros behind
  pub cluster_back : cluster_of cluster_line ≡ kept_cluster c
  unfolding cluster_of kept_cluster tag_at kept_tag
  cluster_back =
      let e = cluster_fields_lem in
      let e₁ : byte_at cluster_line 1 ≡ c.parent = cc in let e₂ : byte_at cluster_line 2 ≡ c.order = cc in let e₃ : byte_at cluster_line 3 ≡ c.tag.len = cc in
      rw (e₁, e₂, e₃, filled-same _ _ (replicate 64 0) c.tag.len tag_byte_lem)

  pub cluster_taken : (k n f : ℕ) (cs : List Cluster) → due k n f ≡ 2
      → cluster_verdict k c ≡ accepted → wrong_parent (k - 2) c.parent ≡ false → tag_taken cs (k - 2) (kept_tag c.tag) ≡ false
      → line_verdict k n f cs (row_of (cluster_bytes c)) ≡ accepted
  unfolding fields_verdict misplaced repeated kept_cluster
  cluster_taken k n f cs d good t₅ t₆ =
      let e = cluster_fields_lem in
      let e₀ : byte_at cluster_line 0 ≡ 2 = cc in let e₃ : byte_at cluster_line 3 ≡ c.tag.len = cc in
      let size : length (cluster_bytes c) ≡ 4 + c.tag.len = cluster_size_lem c ∙ omega (arith, length-take-le c.tag.len c.tag.bytes h.whole) in
      line_taken 2 k n f cs (cluster_bytes c) d (λ z. omega arith) e₀ (omega arith) (omega arith) (rw e₃ size)
      (rw cluster_back (kept_verdict k c h.short ∙ good)) (rw cluster_back t₅) (rw cluster_back t₆)

-- ---- a flow

module _ (n : ℕ) (f : Flow) (h : FlowIn n f) (few : n ≤ 64) where
  abbrev flow_line : List ℕ
  flow_line = hexes (flow_bytes f)

  flow_fits : Fit flow_widths (flow_values f)
  flow_fits = omega arith

  flow_fields_lem : byte_at flow_line 0 ∷ byte_at flow_line 1 ∷ byte_at flow_line 2 ∷ number_at flow_line 3 4 ∷ number_at flow_line 7 4 ∷ [] ≡ flow_values f
  unfolding flow_bytes fields_at
  flow_fields_lem = simp (append-nil, number_one) at (fields_back [] flow_widths (flow_values f) [] flow_fits)

  pub flow_back : flow_of flow_line ≡ f
  unfolding flow_of
  flow_back =
      let e = flow_fields_lem in
      let e₁ : byte_at flow_line 1 ≡ f.source = cc in let e₂ : byte_at flow_line 2 ≡ f.sink = cc in
      let e₃ : number_at flow_line 3 4 ≡ f.period = cc in let e₄ : number_at flow_line 7 4 ≡ f.deadline = cc in
      rw (e₁, e₂, e₃, e₄)

  pub flow_taken : (k w : ℕ) (cs : List Cluster) → due k n w ≡ 3 → flow_verdict k n f ≡ accepted → line_verdict k n w cs (row_of (flow_bytes f)) ≡ accepted
  unfolding fields_verdict misplaced repeated
  flow_taken k w cs d good =
      let e = flow_fields_lem in
      let e₀ : byte_at flow_line 0 ≡ 3 = cc in
      let size = flow_size f in
      line_taken 3 k n w cs (flow_bytes f) d (λ z. omega arith) e₀ (omega arith) (omega arith) size (rw flow_back good) refl refl
