-- An accepted text, read and written, gives the same bytes (docs/FORMATS.md, "Site text"). And the records that were read are accepted by the check.
-- After i clusters and j flows the records so far are sound, and their text with the rows that are left is the whole text. Each line that is taken keeps
-- that: it is stored behind the records before it, and its bytes are those of its record. At the end no row is left.
use Rattle.std.proofs.Math.Path.{◌≡◌, ap}
use Rattle.std.specs.Prelude.{refl, not, ℕ, ◌+◌, ◌-◌, ◌≤◌, ◌<◌, take, set, ltb, eqb, Ok, Err}
use Rattle.std.proofs.Common.{sym, ◌∙◌, subst, add-one, get_or-set_same, take-suc-set, ltb-true, ltb-false, eqb-true}
use Rattle.std.proofs.Math.Bool.{false}
use mathlib.Core.List.{List, [], ◌∷◌, ◌++◌, append_assoc, append-nil}
use Rattle.std.proofs.Math.Logic.{inl, inr}
use native.Mathlib.Omega.{arith}
use Rattle.std.proofs.Math.ListN.{length, get_or, length-set}
use Rattle.std.proofs.Math.Seq.{get_or-set_other}
use Rattle.std.proofs.lemmas.Bool.{eqb-false}
use Rattle.hexroom.specs.Listing.{lines_of}
use Rattle.hexline.specs.Loops.{decide, every_same}
use Rattle.hexline.specs.Digits.{byte_at, line_of}
use Rattle.hexline.specs.Lines.{Row, rows}
use Rattle.site.specs.declared.Tag.{Tag}
use Rattle.site.specs.declared.Cluster.{Cluster}
use Rattle.site.specs.declared.Flow.{Flow}
use Rattle.site.specs.declared.Site.{Site}
use Rattle.site.specs.Refusals.{Verdict, accepted}
use Rattle.site.specs.Told.{refusal}
use Rattle.site.specs.Records.{absent, no_flow, no_site, same_tag, wrong_parent, tag_taken}
use Rattle.site.specs.Fields.{header_verdict}
use Rattle.site.specs.Lines.{tag_at, cluster_of, flow_of}
use Rattle.site.specs.Table.{due}
use Rattle.reader.specs.declared.Reading.{Reading}
use Rattle.reader.specs.Reading.{with_header, with_cluster, with_flow, verdict_at, entered, accepted as taken, onward, read_rows, read_text}
use Rattle.records.specs.Check.{cluster_checked, flow_checked, checked}
use Rattle.writer.specs.Text.{header_bytes, cluster_bytes, flow_bytes, text_of}
use Rattle.roundtrip.specs.Due.{cluster_due, flow_due, none_due}
use Rattle.records.specs.Checked.{unrefused_checked, header_in_lem, cluster_in}
use Rattle.roundtrip.specs.LinesAgain.{joined, joined_none, joined_rows, header_again, cluster_again, flow_again, line_again, taken_is_due, taken-length, taken_header, taken_cluster, taken_flow}

-- ---- the reader of an accepted text

onward_accepted : (v : Verdict) (next : Reading) (done : Site) → onward v next ≡ taken done → (v ≡ accepted) × (next ≡ taken done)
onward_accepted (Ok _) next done e = (refl, e)
onward_accepted (Err (refusal m k p)) next done e =
    absurd (let z : Err (refusal m k p) ≡ accepted = ap (λ (x : Reading). x.verdict) e in let z' : ◌≡◌ {A = ℕ} 0 1 = cc in omega arith)

module _ (k : ℕ) (s done : Site) where
  -- a line of it is taken
  goes_on : (r : Row) (rs : List Row) → read_rows k s (r ∷ rs) ≡ taken done
      → (verdict_at k s r ≡ accepted) × (read_rows (k + 1) (entered k s r.chars) rs ≡ taken done)
  unfolding read_rows
  goes_on r rs e = onward_accepted (verdict_at k s r) (read_rows (k + 1) (entered k s r.chars) rs) done e

  -- at its end no line is due
  ends : read_rows k s [] ≡ taken done → (due k s.cluster_count s.flow_count ≡ 0) × (s ≡ done)
  unfolding read_rows
  ends e = elim (decide (eqb (due k s.cluster_count s.flow_count) 0)) [
    | inl q ↦ (eqb-true _ _ q, ap (λ (x : Reading). x.site) (rw q at e))
    | inr q ↦ let z : Err (refusal 2 k 255) ≡ accepted = ap (λ (x : Reading). x.verdict) (rw q at e) in absurd (let z' : ◌≡◌ {A = ℕ} 0 1 = cc in omega arith)
  ]

-- the records with that of a line that is taken
entered_cluster : (s : Site) (i : ℕ) (l : List ℕ) → due (2 + i) s.cluster_count s.flow_count ≡ 2 → entered (2 + i) s l ≡ with_cluster s i (cluster_of l)
unfolding entered
entered_cluster s i l is = let here : 2 + i - 2 ≡ i = omega arith in rw (is, here)

entered_flow : (s : Site) (j : ℕ) (l : List ℕ) → let n : ℕ = s.cluster_count in
    due (2 + n + j) n s.flow_count ≡ 3 → entered (2 + n + j) s l ≡ with_flow s j (flow_of l)
unfolding entered
entered_flow s j l is = let n : ℕ = s.cluster_count in let here : 2 + n + j - 2 - n ≡ j = omega arith in rw (is, here)

-- ---- the records so far

-- the text of the header, of i clusters and of j flows
unfoldable text_first : Site → ℕ → ℕ → List ℕ
text_first s i j =
    line_of (header_bytes s.cluster_count s.flow_count) ++ (lines_of cluster_bytes (take i s.clusters) ++ lines_of flow_bytes (take j s.flows))

-- i clusters and j flows of a text t were read, and the rows rs are left
record SoFar (t : List ℕ) (i j : ℕ) (s : Site) (rs : List Row) : Type 0 where
  header : header_verdict 1 1 s.cluster_count s.flow_count ≡ accepted
  cluster_room : length s.clusters ≡ 64
  flow_room : length s.flows ≡ 128
  clusters : (x : ℕ) → x < i → cluster_checked s.clusters x ≡ accepted
  flows : (x : ℕ) → x < j → flow_checked s.cluster_count s.flows x ≡ accepted
  text : text_first s i j ++ joined rs ≡ t

-- one entry more, stored behind those before it
lines_behind : {A : Type 0} (bytes : A → List ℕ) (xs : List A) (x : A) → lines_of bytes (xs ++ (x ∷ [])) ≡ lines_of bytes xs ++ line_of (bytes x)
unfolding lines_of
lines_behind bytes [] x = append-nil (line_of (bytes x))
lines_behind bytes (y ∷ xs) x = rw (lines_behind bytes xs x, append_assoc (line_of (bytes y)) (lines_of bytes xs) (line_of (bytes x)))

lines_more : {A : Type 0} (bytes : A → List ℕ) (xs : List A) (i : ℕ) (x : A) → i < length xs
    → lines_of bytes (take (i + 1) (set xs i x)) ≡ lines_of bytes (take i xs) ++ line_of (bytes x)
lines_more bytes xs i x l = rw (add-one i, take-suc-set xs i x l) (lines_behind bytes (take i xs) x)

cluster_text : (s : Site) (i : ℕ) (c : Cluster) → i < length s.clusters → text_first (with_cluster s i c) (i + 1) 0 ≡ text_first s i 0 ++ line_of (cluster_bytes c)
unfolding text_first with_cluster lines_of
cluster_text s i c l = simp (lines_more cluster_bytes s.clusters i c l, append-nil, append_assoc)

flow_text : (s : Site) (n j : ℕ) (w : Flow) → j < length s.flows → text_first (with_flow s j w) n (j + 1) ≡ text_first s n j ++ line_of (flow_bytes w)
unfolding text_first with_flow
flow_text s n j w l = simp (lines_more flow_bytes s.flows j w l, append_assoc)

-- the text goes on by a line
text_more : (before behind line t : List ℕ) (r : Row) (rs : List Row)
    → behind ≡ before ++ line → joined (r ∷ rs) ≡ line ++ joined rs → before ++ joined (r ∷ rs) ≡ t → behind ++ joined rs ≡ t
text_more before behind line t r rs p q e = rw (p, append_assoc before line (joined rs), ← q) e

-- the check of cluster i looks at the clusters up to i alone
taken_looks_before : (cs ds : List Cluster) (i : ℕ) (t : Tag) → ((x : ℕ) → x < i → get_or ds x absent ≡ get_or cs x absent) → tag_taken ds i t ≡ tag_taken cs i t
unfolding tag_taken
taken_looks_before cs ds i t h = ap not (every_same _ _ i (λ x l. ap (λ (c : Cluster). not (same_tag c.tag t)) (h x l)))

check_looks_up_to : (cs ds : List Cluster) (i : ℕ) → ((x : ℕ) → x ≤ i → get_or ds x absent ≡ get_or cs x absent) → cluster_checked ds i ≡ cluster_checked cs i
unfolding cluster_checked
check_looks_up_to cs ds i h = rw (taken_looks_before cs ds i (get_or ds i absent).tag (λ x l. h x (omega arith)), h i (omega arith))

-- what holds below i and at i holds below i + 1
below_next : (P : ℕ → Type 0) (i : ℕ) → ((x : ℕ) → x < i → P x) → P i → (x : ℕ) → x < i + 1 → P x
below_next P i h p x l = elim (decide (eqb x i)) [
  | inl q ↦ subst P (sym (eqb-true x i q)) p
  | inr q ↦ let q' = eqb-false x i q in h x (omega arith)
]

module _ (t : List ℕ) (s : Site) (r : Row) (rs : List Row) where
  abbrev n : ℕ
  n = s.cluster_count

  abbrev f : ℕ
  f = s.flow_count

  abbrev l : List ℕ
  l = r.chars

  cluster_more : (i : ℕ) → i < n → due (2 + i) n f ≡ 2 → verdict_at (2 + i) s r ≡ accepted → SoFar t i 0 s (r ∷ rs) → SoFar t (i + 1) 0 (with_cluster s i (cluster_of l)) rs
  unfolding with_cluster cluster_checked cluster_of tag_at
  cluster_more i within is z so =
      let c : Cluster = cluster_of l in
      let cs : List Cluster = s.clusters in
      let room : i < length cs = omega (arith, so.cluster_room, (header_in_lem 1 1 n f so.header).1.clusters) in
      let here : 2 + i - 2 ≡ i = omega arith in
      let tests = taken_cluster (2 + i) n f cs r z is in
      let short : byte_at l 3 ≤ 64 = (cluster_in (2 + i) c tests.1).short in
      let same : (x : ℕ) → x < i → get_or (set cs i c) x absent ≡ get_or cs x absent = λ x p. get_or-set_other cs i x c absent (λ e. omega arith) in
      let parent : wrong_parent i c.parent ≡ false = rw here at tests.2 in
      let free : tag_taken (set cs i c) i c.tag ≡ false = taken_looks_before cs (set cs i c) i c.tag same ∙ rw here at tests.3 in
      record {
        header = so.header;
        cluster_room = length-set cs i c ∙ so.cluster_room;
        flow_room = so.flow_room;
        clusters = below_next (λ x. cluster_checked (set cs i c) x ≡ accepted) i
            (λ x p. check_looks_up_to cs (set cs i c) x (λ y q. same y (omega arith)) ∙ so.clusters x p)
            (rw (get_or-set_same cs i c absent room, tests.1, parent, free));
        flows = so.flows;
        text = text_more (text_first s i 0) (text_first (with_cluster s i c) (i + 1) 0) (line_of (cluster_bytes c)) t r rs (cluster_text s i c room)
            (line_again (2 + i) n f cs r z (cluster_bytes c) rs (cluster_again l tests.0 short (taken-length (2 + i) n f cs r z ∙ rw is)))
            so.text;
      }

  flow_more : (j : ℕ) → j < f → due (2 + n + j) n f ≡ 3 → verdict_at (2 + n + j) s r ≡ accepted → SoFar t n j s (r ∷ rs) → SoFar t n (j + 1) (with_flow s j (flow_of l)) rs
  unfolding with_flow
  flow_more j within is z so =
      let w : Flow = flow_of l in
      let fs : List Flow = s.flows in
      let room : j < length fs = omega (arith, so.flow_room, (header_in_lem 1 1 n f so.header).1.flows) in
      let tests = taken_flow (2 + n + j) n f s.clusters r z is in
      record {
        header = so.header;
        cluster_room = so.cluster_room;
        flow_room = length-set fs j w ∙ so.flow_room;
        clusters = so.clusters;
        flows = below_next (λ x. flow_checked n (set fs j w) x ≡ accepted) j
            (λ x p. rw (get_or-set_other fs j x w no_flow (λ e. omega arith)) (so.flows x p))
            (rw (get_or-set_same fs j w no_flow room, tests.1));
        text = text_more (text_first s n j) (text_first (with_flow s j w) n (j + 1)) (line_of (flow_bytes w)) t r rs (flow_text s n j w room)
            (line_again (2 + n + j) n f s.clusters r z (flow_bytes w) rs (flow_again l tests.0 (taken-length (2 + n + j) n f s.clusters r z ∙ rw is)))
            so.text;
      }

-- ---- line by line

-- every line was read
all_read : (t : List ℕ) (s : Site) → SoFar t s.cluster_count s.flow_count s [] → (checked s ≡ accepted) × (text_of s ≡ t)
unfolding text_of text_first
all_read t s so = (
  unrefused_checked s (record { header = so.header; clusters = so.clusters; flows = so.flows }),
  sym (append-nil (text_of s)) ∙ rw joined_none at so.text,
)

-- flow j is next
flows_again : (rs : List Row) (t : List ℕ) (j : ℕ) (s done : Site) → j ≤ s.flow_count → SoFar t s.cluster_count j s rs
    → read_rows (2 + s.cluster_count + j) s rs ≡ taken done → (checked done ≡ accepted) × (text_of done ≡ t)
unfolding with_flow
flows_again [] t j s done few so e =
    let n : ℕ = s.cluster_count in let f : ℕ = s.flow_count in
    let end = ends (2 + n + j) s done e in
    elim (decide (ltb j f)) [
      | inl p ↦ let l = ltb-true j f p in absurd (omega (arith, sym (flow_due (2 + n + j) n f (omega arith) (omega arith)) ∙ end.0))
      | inr p ↦
          let last : j ≡ f = omega (arith, ltb-false j f p) in
          subst (λ (x : Site). (checked x ≡ accepted) × (text_of x ≡ t)) end.1 (all_read t s (subst (λ (x : ℕ). SoFar t n x s []) last so))
    ]
flows_again (r ∷ rs) t j s done few so e =
    let n : ℕ = s.cluster_count in let f : ℕ = s.flow_count in
    let on = goes_on (2 + n + j) s done r rs e in
    let next : 2 + n + j + 1 ≡ 2 + n + (j + 1) = omega arith in
    elim (decide (ltb j f)) [
      | inr p ↦ let l = ltb-false j f p in absurd (taken_is_due (2 + n + j) n f s.clusters r on.0 (none_due (2 + n + j) n f (omega arith)))
      | inl p ↦
          let l = ltb-true j f p in
          let d : due (2 + n + j) n f ≡ 3 = flow_due (2 + n + j) n f (omega arith) (omega arith) in
          flows_again rs t (j + 1) (with_flow s j (flow_of r.chars)) done (omega arith) (flow_more t s r rs j l d on.0 so)
          (rw (entered_flow s j r.chars d, next) at on.1)
    ]

-- no cluster is left: the flows follow
no_cluster_left : (rs : List Row) (t : List ℕ) (i : ℕ) (s done : Site) → i ≡ s.cluster_count → SoFar t i 0 s rs
    → read_rows (2 + i) s rs ≡ taken done → (checked done ≡ accepted) × (text_of done ≡ t)
no_cluster_left rs t i s done q so e =
    let n : ℕ = s.cluster_count in
    let start : 2 + i ≡ 2 + n + 0 = omega arith in
    flows_again rs t 0 s done (omega arith) (subst (λ (x : ℕ). SoFar t x 0 s rs) q so) (rw start at e)

-- cluster i is next
clusters_again : (rs : List Row) (t : List ℕ) (i : ℕ) (s done : Site) → i ≤ s.cluster_count → SoFar t i 0 s rs
    → read_rows (2 + i) s rs ≡ taken done → (checked done ≡ accepted) × (text_of done ≡ t)
unfolding with_cluster
clusters_again [] t i s done few so e =
    let n : ℕ = s.cluster_count in
    elim (decide (ltb i n)) [
      | inr p ↦ let l = ltb-false i n p in no_cluster_left [] t i s done (omega arith) so e
      | inl p ↦
          let l = ltb-true i n p in
          absurd (omega (arith, sym (cluster_due (2 + i) n s.flow_count (omega arith) (omega arith)) ∙ (ends (2 + i) s done e).0))
    ]
clusters_again (r ∷ rs) t i s done few so e =
    let n : ℕ = s.cluster_count in let f : ℕ = s.flow_count in
    let on = goes_on (2 + i) s done r rs e in
    let next : 2 + i + 1 ≡ 2 + (i + 1) = omega arith in
    elim (decide (ltb i n)) [
      | inr p ↦ let l = ltb-false i n p in no_cluster_left (r ∷ rs) t i s done (omega arith) so e
      | inl p ↦
          let l = ltb-true i n p in
          let d : due (2 + i) n f ≡ 2 = cluster_due (2 + i) n f (omega arith) (omega arith) in
          clusters_again rs t (i + 1) (with_cluster s i (cluster_of r.chars)) done (omega arith) (cluster_more t s r rs i l d on.0 so)
          (rw (entered_cluster s i r.chars d, next) at on.1)
    ]

-- the header is next
text_again : (rs : List Row) (t : List ℕ) (done : Site) → joined rs ≡ t → read_rows 1 no_site rs ≡ taken done → (checked done ≡ accepted) × (text_of done ≡ t)
unfolding no_site with_header entered due text_first lines_of
text_again [] t done p e = absurd (omega (arith, (ends 1 no_site done e).0))
text_again (r ∷ rs) t done p e =
    let l : List ℕ = r.chars in
    let on = goes_on 1 no_site done r rs e in
    let head : List ℕ = header_bytes (byte_at l 2) (byte_at l 3) in
    let tests = taken_header 1 0 0 no_site.clusters r on.0 refl in
    let h = header_in_lem 1 (byte_at l 1) (byte_at l 2) (byte_at l 3) tests.1 in
    clusters_again rs t 0 (with_header no_site (byte_at l 2) (byte_at l 3)) done (omega arith)
    (record {
      header = rw h.0 at tests.1;
      cluster_room = refl;
      flow_room = refl;
      clusters = λ x a. absurd (omega arith);
      flows = λ x a. absurd (omega arith);
      text = rw (append-nil (line_of head))
          (sym (line_again 1 0 0 no_site.clusters r on.0 head rs (header_again l tests.0 h.0 (taken-length 1 0 0 no_site.clusters r on.0))) ∙ p);
    })
    on.1

pub write_of_read : (t : List ℕ) (s : Site) → read_text t ≡ taken s → (checked s ≡ accepted) × (text_of s ≡ t)
unfolding read_text
write_of_read t s e = text_again (rows t) t s (joined_rows t) e
