-- What each answer of the line reader means for the reader of a text: the tests that the line passed, and the records that the next line meets.
use Rattle.std.proofs.Math.Path.{◌≡◌, ap}
use Rattle.std.specs.Prelude.{refl, true, false, eqb, Result, Ok, Err, is_err, OnOk}
use Rattle.std.proofs.Common.{sym, ◌∙◌, subst, inl, inr, arith}
use Rattle.std.proofs.Math.Bool.{not}
use mathlib.Core.List.{List, [], ◌∷◌, ◌++◌}
use Prim.Native.Nat.{ℕ, ◌+◌, ◌-◌, ◌/◌, ◌≤◌, ◌<◌}
use Rattle.std.proofs.Math.ListN.{length}
use borrow.Author.Tests.{eqb-true, eqb-false, ne_eqb, not-false}
use Rattle.hexline.specs.Loops.{decide}
use Rattle.hexline.specs.Digits.{byte_at}
use Rattle.hexline.specs.Lines.{Row, rows, malformed}
use Rattle.hexline.specs.LineLaws.{none_of, well_formed}
use Rattle.site.specs.declared.Tag.{Tag}
use Rattle.site.specs.declared.Cluster.{Cluster}
use Rattle.site.specs.declared.Counts.{Counts}
use Rattle.site.specs.declared.Flow.{Flow}
use Rattle.site.specs.declared.Site.{Site}
use Rattle.site.specs.declared.Entry.{Entry}
use Rattle.site.specs.declared.Entry.TheVariants.{Header, Cluster as ClusterLine, Flow as FlowLine}
use Rattle.site.specs.Refusals.{Verdict, accepted}
use Rattle.site.specs.Told.{Told, refusal}
use Rattle.site.specs.Records.{no_site, tag_taken}
use Rattle.site.specs.FieldLaws.{header_counts}
use Rattle.site.specs.Lines.{size, tag_at, cluster_of, flow_of}
use Rattle.site.specs.Table.{refused_if, or_else, first_of, due, wrong_kind, wrong_length, fields_verdict, repeated, line_verdicts, record_of, answered, entry_of, line_verdict}
use Rattle.site.specs.TableLaws.{header, cluster, flow, beyond, place, all_accept, test_accepts}
use Rattle.reader.specs.declared.Reading.{Reading}
use Rattle.reader.specs.Reading.{with_header, with_cluster, with_flow, verdict_at, entered, accepted as taken, refused_by, refused, onward, read_rows, read_text, records_if, records_of}

-- the first of two lists of verdicts
first-append : (vs ws : List Verdict) → first_of (vs ++ ws) ≡ or_else (first_of vs) (first_of ws)
first-append [] ws = refl
first-append (Ok _ ∷ vs) ws = first-append vs ws
first-append (Err t ∷ vs) ws = refl

or_last : (v : Verdict) → or_else v accepted ≡ v
or_last (Ok _) = refl
or_last (Err t) = refl

-- an answer that is a record, and one that is a refusal
answered_record : (v : Verdict) (r e : Entry) → answered v r ≡ Ok e → (v ≡ accepted) × (r ≡ e)
answered_record (Ok _) r e p = (refl, cc)
answered_record (Err t) r e p = cc

answered_refusal : (v : Verdict) (r : Entry) (t : Told) → answered v r ≡ Err t → v ≡ Err t
answered_refusal (Ok _) r t p = cc
answered_refusal (Err _) r t p = cc

-- the line reader's answer, and the verdict on the line
module _ (k n f : ℕ) (cs : List Cluster) (r : Row) where
  -- the first of the five verdicts before 6 that refuses, and 6
  abbrev five : Verdict
  five = first_of (line_verdicts k n f r)

  abbrev six : Verdict
  six = refused_if 6 k (repeated (due k n f) k cs r.chars)

  five_then_six : line_verdict k n f cs r ≡ or_else five six
  unfolding line_verdict
  five_then_six = first-append (line_verdicts k n f r) (six ∷ []) ∙ ap (or_else five) (or_last six)

  -- an answer that is a record: none of the five refuses
  entry_record : (e : Entry) → entry_of k n f r ≡ Ok e → (five ≡ accepted) × (record_of (due k n f) r.chars ≡ e)
  unfolding entry_of
  entry_record e p = answered_record five (record_of (due k n f) r.chars) e p

  -- and then 6 decides
  sixth : five ≡ accepted → line_verdict k n f cs r ≡ six
  sixth e = five_then_six ∙ ap (λ (v : Verdict). or_else v six) e

  verdict_refused : (t : Told) → entry_of k n f r ≡ Err t → line_verdict k n f cs r ≡ Err t
  unfolding entry_of
  verdict_refused t p = five_then_six ∙ ap (λ (v : Verdict). or_else v six) (answered_refusal five (record_of (due k n f) r.chars) t p)

  -- the answer of a line that is well formed is that of its row
  pub entry_well_formed : (chars : List ℕ) (e : Result Entry Told) → malformed 136 r ≡ false → chars ≡ r.chars → e ≡ entry_of k n f (record { chars = chars; ended = true }) → e ≡ entry_of k n f r
  entry_well_formed chars e well same is = let w = well_formed 136 r well in rw (is, same, w.ended) refl

  -- a header that passed the tests
  pub record HeaderIs (counts : Counts) : Type 0 where
    pub kind : due k n f ≡ 1
    pub first : k ≤ 1
    pub spelled : ◌≡◌ {A = Counts} (record { clusters = byte_at r.chars 2; flows = byte_at r.chars 3 }) counts
    pub few_clusters : counts.clusters ≤ 64
    pub few_flows : counts.flows ≤ 128
    pub passes : line_verdict k n f cs r ≡ accepted

  pub header_is : (counts : Counts) → entry_of k n f r ≡ Ok (Header counts) → HeaderIs counts
  unfolding record_of fields_verdict repeated
  header_is counts q =
      let l : List ℕ = r.chars in
      let said : Counts = record { clusters = byte_at l 2; flows = byte_at l 3 } in
      let h = entry_record (Header counts) q in
      let t = all_accept (line_verdicts k n f r) h.0 in
      elim (place k n f) [
        | header first d ↦
            let e : Header said ≡ Header counts = rw d at h.1 in
            let v = header_counts k (byte_at l 1) (byte_at l 2) (byte_at l 3) (rw d at t.1.1.1.0) in
            let c : said ≡ counts = cc in
            record {
              kind = d;
              first = first;
              spelled = c;
              few_clusters = subst (λ (s : Counts). s.clusters ≤ 64) c (omega (arith, v.1));
              few_flows = subst (λ (s : Counts). s.flows ≤ 128) c (omega (arith, v.2));
              passes = sixth h.0 ∙ rw d;
            }
        | cluster _ _ d ↦ let e : ClusterLine (byte_at l 1) (byte_at l 2) 4 (byte_at l 3) ≡ Header counts = rw d at h.1 in cc
        | flow _ _ d ↦ let e : FlowLine (flow_of l) ≡ Header counts = rw d at h.1 in cc
        | beyond _ d ↦ let e : FlowLine (flow_of l) ≡ Header counts = rw d at h.1 in cc
      ]

  -- a cluster line that passed all tests before 6
  pub record ClusterIs (p o a m : ℕ) : Type 0 where
    pub kind : due k n f ≡ 2
    pub after : 1 < k
    pub within : k ≤ 1 + n
    pub formed : malformed 136 r ≡ false
    pub whole : length r.chars / 2 ≡ 4 + m
    pub spelled : (t : Tag) → t ≡ tag_at r.chars 4 m → cluster_of r.chars ≡ record { parent = p; order = o; tag = t }
    pub taken : line_verdict k n f cs r ≡ refused_if 6 k (tag_taken cs (k - 2) (cluster_of r.chars).tag)

  pub cluster_is : (p o a m : ℕ) → entry_of k n f r ≡ Ok (ClusterLine p o a m) → ClusterIs p o a m
  unfolding record_of wrong_length size repeated cluster_of tag_at
  cluster_is p o a m q =
      let l : List ℕ = r.chars in
      let h = entry_record (ClusterLine p o a m) q in
      let t = all_accept (line_verdicts k n f r) h.0 in
      elim (place k n f) [
        | header _ d ↦ let e : Header (record { clusters = byte_at l 2; flows = byte_at l 3 }) ≡ ClusterLine p o a m = rw d at h.1 in cc
        | flow _ _ d ↦ let e : FlowLine (flow_of l) ≡ ClusterLine p o a m = rw d at h.1 in cc
        | beyond _ d ↦ let e : FlowLine (flow_of l) ≡ ClusterLine p o a m = rw d at h.1 in cc
        | cluster after within d ↦
            let e : ClusterLine (byte_at l 1) (byte_at l 2) 4 (byte_at l 3) ≡ ClusterLine p o a m = rw d at h.1 in
            let long : length l / 2 ≡ 4 + byte_at l 3 = eqb-true _ _ (not-false (eqb (length l / 2) (4 + byte_at l 3)) (test_accepts 3 k (not (eqb (length l / 2) (4 + byte_at l 3))) (rw d at t.1.1.0))) in
            let x : byte_at l 1 ≡ p = cc in
            let y : byte_at l 2 ≡ o = cc in
            let w : byte_at l 3 ≡ m = cc in
            record {
              kind = d;
              after = after;
              within = within;
              formed = test_accepts 1 k (malformed 136 r) t.0;
              whole = rw w at long;
              spelled = λ u made. rw (made, x, y, w);
              taken = sixth h.0 ∙ rw d;
            }
      ]

  -- a flow line that passed the tests
  pub record FlowIs (w : Flow) : Type 0 where
    pub kind : due k n f ≡ 3
    pub after : 1 + n < k
    pub within : k ≤ 1 + n + f
    pub spelled : flow_of r.chars ≡ w
    pub passes : line_verdict k n f cs r ≡ accepted

  pub flow_is : (w : Flow) → entry_of k n f r ≡ Ok (FlowLine w) → FlowIs w
  unfolding record_of wrong_kind repeated
  flow_is w q =
      let l : List ℕ = r.chars in
      let h = entry_record (FlowLine w) q in
      let t = all_accept (line_verdicts k n f r) h.0 in
      elim (place k n f) [
        | header _ x ↦ let e : Header (record { clusters = byte_at l 2; flows = byte_at l 3 }) ≡ FlowLine w = rw x at h.1 in cc
        | cluster _ _ x ↦ let e : ClusterLine (byte_at l 1) (byte_at l 2) 4 (byte_at l 3) ≡ FlowLine w = rw x at h.1 in cc
        | beyond _ x ↦
            let w = none_of (eqb (due k n f) 0 ∷ not (eqb (byte_at l 0) (due k n f)) ∷ []) (test_accepts 2 k (wrong_kind (due k n f) l) t.1.0) in
            absurd (eqb-false (due k n f) 0 w.0 x)
        | flow after within x ↦
            let e : FlowLine (flow_of l) ≡ FlowLine w = rw x at h.1 in
            record {
              kind = x;
              after = after;
              within = within;
              spelled = cc;
              passes = sixth h.0 ∙ rw x;
            }
      ]

-- the lines from line k on, one line taken
module _ (k : ℕ) (s : Site) (r : Row) (rs : List Row) where
  rows_refused_by : (t : Told) → verdict_at k s r ≡ Err t → read_rows k s (r ∷ rs) ≡ refused_by t
  unfolding read_rows
  rows_refused_by t e = rw e

  pub rows_refused : (m a x : ℕ) → verdict_at k s r ≡ Err (refusal m a x) → read_rows k s (r ∷ rs) ≡ refused m a x
  rows_refused m a x e = rows_refused_by (refusal m a x) e

  pub rows_taken : verdict_at k s r ≡ accepted → read_rows k s (r ∷ rs) ≡ read_rows (k + 1) (entered k s r.chars) rs
  unfolding read_rows
  rows_taken e = rw e

  abbrev n : ℕ
  n = s.cluster_count

  abbrev f : ℕ
  f = s.flow_count

  pub rows_refused_line : (t : Told) → entry_of k n f r ≡ Err t → read_rows k s (r ∷ rs) ≡ refused_by t
  rows_refused_line t e = rows_refused_by t (verdict_refused k n f s.clusters r t e)

  pub rows_header : (counts : Counts) → HeaderIs k n f s.clusters r counts → read_rows k s (r ∷ rs) ≡ read_rows (k + 1) (with_header s counts.clusters counts.flows) rs
  unfolding entered
  rows_header counts g = rows_taken g.passes ∙ rw g.kind (ap (λ (c : Counts). read_rows (k + 1) (with_header s c.clusters c.flows) rs) g.spelled)

  pub rows_flow : (w : Flow) → FlowIs k n f s.clusters r w → read_rows k s (r ∷ rs) ≡ read_rows (k + 1) (with_flow s (k - 2 - n) w) rs
  unfolding entered
  rows_flow w g = rows_taken g.passes ∙ rw (g.kind, g.spelled)

  module _ (p o a m : ℕ) (g : ClusterIs k n f s.clusters r p o a m) (t : Tag) (made : t ≡ tag_at r.chars 4 m) where
    pub rows_repeated : tag_taken s.clusters (k - 2) t ≡ true → read_rows k s (r ∷ rs) ≡ refused 6 k 255
    rows_repeated u = rows_refused 6 k 255 (g.taken ∙ rw (g.spelled t made, u))

    pub rows_cluster : tag_taken s.clusters (k - 2) t ≡ false → read_rows k s (r ∷ rs) ≡ read_rows (k + 1) (with_cluster s (k - 2) (record { parent = p; order = o; tag = t })) rs
    unfolding entered
    rows_cluster u = rows_taken (g.taken ∙ rw (g.spelled t made, u)) ∙ rw (g.kind, g.spelled t made)

-- no line is left
module _ (k : ℕ) (s : Site) where
  pub rows_end : due k s.cluster_count s.flow_count ≡ 0 → read_rows k s [] ≡ taken s
  unfolding read_rows
  rows_end e = rw e

  pub rows_missing : (due k s.cluster_count s.flow_count ≡ 0 → ⊥) → read_rows k s [] ≡ refused 2 k 255
  unfolding read_rows
  rows_missing e = rw (ne_eqb _ _ e)

-- the records alone say what the reading is: after a refusal they are all zero
onward_refused : (u : Told) (v : Verdict) (next : Reading) → (next.verdict ≡ Err u → next ≡ refused_by u) → (onward v next).verdict ≡ Err u → onward v next ≡ refused_by u
onward_refused u (Ok _) next h e = h e
onward_refused u (Err _) next h e = cc

rows_zero : (u : Told) (k : ℕ) (s : Site) (rs : List Row) → (read_rows k s rs).verdict ≡ Err u → read_rows k s rs ≡ refused_by u
unfolding read_rows
rows_zero u k s [] e = elim (decide (eqb (due k s.cluster_count s.flow_count) 0)) [
  | inl d ↦ let z : accepted ≡ Err u = rw d at e in cc
  | inr d ↦ let z : Err (refusal 2 k 255) ≡ Err u = rw d at e in rw d (cc)
]
rows_zero u k s (r ∷ rs) e = onward_refused u (verdict_at k s r) (read_rows (k + 1) (entered k s r.chars) rs) (rows_zero u (k + 1) (entered k s r.chars) rs) e

refused_alone : (u : Told) (v : Verdict) (s : Site) → records_if v s ≡ Err u → v ≡ Err u
refused_alone u (Ok _) s e = cc
refused_alone u (Err _) s e = cc

pub text_refused : (t : List ℕ) (u : Told) → records_of (read_text t) ≡ Err u → read_text t ≡ refused_by u
unfolding read_text
text_refused t u e = rows_zero u 1 no_site (rows t) (refused_alone u (read_text t).verdict (read_text t).site e)

-- a reading's two halves make it up, whether it refuses or not
pub text_not_taken : (t : List ℕ) (v : Verdict) → is_err v ≡ true → v ≡ (read_text t).verdict → ◌≡◌ {A = Reading} (record { site = no_site; verdict = v }) (read_text t)
text_not_taken t (Ok _) e p = cc
text_not_taken t (Err u) e p = sym (text_refused t u (ap (λ (v : Verdict). records_if v (read_text t).site) (sym p)))

pub text_taken : (t : List ℕ) (v : Verdict) (s : Site) → is_err v ≡ false → v ≡ (read_text t).verdict → OnOk v (s ≡ (read_text t).site) → ◌≡◌ {A = Reading} (record { site = s; verdict = v }) (read_text t)
text_taken t (Ok _) s e p q = rw (p, q) refl
text_taken t (Err u) s e p q = cc
