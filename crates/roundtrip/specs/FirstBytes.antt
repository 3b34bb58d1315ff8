-- The reader's answer rests on at most the first 11,859 bytes: what stands behind them may be cut off, and it answers the same.
-- The lines still due keep a budget: 137 bytes for a cluster, 23 for a flow, and 137 more for the line behind them. A line that ends before the cut is the same
-- in both texts, and if it is taken it was due and costs no more than its kind does. A line in which the cut falls has more than 136 characters in both texts,
-- and both are refused by 1. Before the header is read its limits stand for the counts: 9 + 64 x 137 + 128 x 23 = 11,721.
use Rattle.std.specs.Prelude.{◌≡◌, refl, true, List, [], ◌∷◌, ℕ, zero, suc, ◌+◌, ◌-◌, ◌*◌, ◌/◌, ◌≤◌, ◌<◌, min, length, take, drop, ltb, eqb, Ok, Err}
use Rattle.std.proofs.Common.{sym, ap, ◌∙◌, inl, inr, arith, take_all, take-take, take-add, drop_at, length-take-le, ltb-true, ltb-false, lt-ltb, ne_eqb}
use Rattle.std.proofs.Math.Seq.{take-nil}
use Rattle.hexline.specs.Loops.{decide}
use Rattle.hexline.specs.Digits.{byte_at}
use Rattle.hexline.specs.Lines.{Row, rows, line_length, malformed}
use Rattle.hexline.specs.LineLaws.{line_within, rows_first}
use Rattle.site.specs.declared.Site.{Site}
use Rattle.site.specs.Records.{no_site}
use Rattle.site.specs.Lines.{cluster_of, flow_of}
use Rattle.site.specs.Refusals.{Verdict, accepted}
use Rattle.site.specs.Told.{refusal}
use Rattle.site.specs.Table.{due, line_verdict}
use Rattle.reader.specs.Reading.{with_header, with_cluster, with_flow, verdict_at, entered, refused, read_rows, read_text}
use Rattle.reader.specs.ReadLaws.{rows_taken, rows_refused}
use Rattle.roundtrip.specs.Due.{cluster_due, flow_due, none_due}
use Rattle.records.specs.Checked.{header_in_lem}
use Rattle.roundtrip.specs.LinesAgain.{taken_well, taken_is_due, taken-length, taken_header}

-- ---- a text that is cut off

line_cut : (t : List ℕ) (m : ℕ) → line_length (take m t) ≡ min m (line_length t)
unfolding line_length
line_cut [] m = rw (take-nil {A = ℕ} m) (omega arith)
line_cut (b ∷ t) zero = omega arith
line_cut (b ∷ t) (suc m) = elim (decide (eqb b 10)) [ inl q ↦ rw q (omega arith) | inr q ↦ rw q (omega (arith, line_cut t m)) ]

drop_cut : (t : List ℕ) (a m : ℕ) → a ≤ length t → drop a (take (a + m) t) ≡ take m (drop a t)
drop_cut t a m l = rw (take-add a m t) (drop_at (take a t) (take m (drop a t)) a (length-take-le a t l))

-- a line that ends before the cut is the same in both texts
row_kept : (t : List ℕ) (m : ℕ) → m < length t → line_length t < m → let a : ℕ = line_length t in let r : Row = record { chars = take a t; ended = true } in
    (rows t ≡ r ∷ rows (drop (suc a) t)) × (rows (take m t) ≡ r ∷ rows (take (m - suc a) (drop (suc a) t)))
row_kept t m h l =
    let a : ℕ = line_length t in
    let cut : length (take m t) ≡ m = length-take-le m t (omega arith) in
    let same : line_length (take m t) ≡ a = line_cut t m ∙ omega arith in
    let rest : m ≡ suc a + (m - suc a) = omega arith in
    let behind : drop (suc a) (take m t) ≡ take (m - suc a) (drop (suc a) t) =
    ap (λ (x : ℕ). drop (suc a) (take x t)) rest ∙ drop_cut t (suc a) (m - suc a) (omega arith) in (
      rows_first t (omega arith) ∙ rw (lt-ltb a (length t) (omega arith)),
      rows_first (take m t) (omega arith) ∙ rw (same, cut, lt-ltb a m l, take-take a m t (omega arith), behind),
    )

-- a text whose first line has more than 136 characters is refused by 1
long_refused : (k : ℕ) (s : Site) (t : List ℕ) → 136 < line_length t → read_rows k s (rows t) ≡ refused 1 k 255
unfolding line_verdict malformed
long_refused k s t l =
    let a : ℕ = line_length t in
    let h : length (take a t) ≡ a = length-take-le a t (line_within t) in
    rw (rows_first t (omega (arith, line_within t)))
    (rows_refused k s _ _ 1 k 255 (rw (h, ne_eqb a 0 (λ z. omega arith), lt-ltb 136 a l)))

-- two texts that begin with one line are read alike if what follows it is, where it is taken
same_behind : (k : ℕ) (s : Site) (r : Row) (rs us : List Row)
    → (verdict_at k s r ≡ accepted → read_rows (k + 1) (entered k s r.chars) rs ≡ read_rows (k + 1) (entered k s r.chars) us)
    → (v : Verdict) → verdict_at k s r ≡ v → read_rows k s (r ∷ rs) ≡ read_rows k s (r ∷ us)
same_behind k s r rs us same (Ok _) e = rw (rows_taken k s r rs e, rows_taken k s r us e) (same e)
same_behind k s r rs us same (Err (refusal m a p)) e = rw (rows_refused k s r rs m a p e, rows_refused k s r us m a p e)

-- a cut at m changes nothing if it changes nothing of what follows a line that is taken
cut_line : (k : ℕ) (s : Site) (t : List ℕ) (m : ℕ) → 136 < m
    → ((r : Row) (rest : List ℕ) (left : ℕ) → m ≡ left + (length r.chars + 1) → verdict_at k s r ≡ accepted
    → read_rows (k + 1) (entered k s r.chars) (rows (take left rest)) ≡ read_rows (k + 1) (entered k s r.chars) (rows rest))
    → read_rows k s (rows (take m t)) ≡ read_rows k s (rows t)
cut_line k s t m far next = elim (decide (ltb m (length t))) [
  | inr p ↦ rw (take_all m t (ltb-false m (length t) p))
  | inl p ↦ let h = ltb-true m (length t) p in elim (decide (ltb (line_length t) m)) [
    | inr q ↦ let l = ltb-false (line_length t) m q in long_refused k s (take m t) (omega (arith, line_cut t m)) ∙ sym (long_refused k s t (omega arith))
    | inl q ↦
        let l = ltb-true (line_length t) m q in
        let a : ℕ = line_length t in
        let r : Row = record { chars = take a t; ended = true } in
        let rest : List ℕ = drop (suc a) t in
        let both = row_kept t m h l in
        rw (both.0, both.1)
        (same_behind k s r (rows (take (m - suc a) rest)) (rows rest) (λ y. next r rest (m - suc a) (omega (arith, length-take-le a t (omega arith))) y) (verdict_at k s r) refl)
  ]
]

-- ---- the budget

-- b flows are due
cut_flows : (b k : ℕ) (s : Site) (t : List ℕ) (m : ℕ) → 1 + s.cluster_count < k → k + b ≡ 2 + s.cluster_count + s.flow_count → 23 * b + 137 ≤ m
    → read_rows k s (rows (take m t)) ≡ read_rows k s (rows t)
unfolding with_flow entered
cut_flows zero k s t m a e h = cut_line k s t m (omega arith) (λ r rest left p z.
    absurd (taken_is_due k s.cluster_count s.flow_count s.clusters r z (none_due k s.cluster_count s.flow_count (omega arith))))
cut_flows (suc b) k s t m a e h =
    let n : ℕ = s.cluster_count in let f : ℕ = s.flow_count in
    let d : due k n f ≡ 3 = flow_due k n f a (omega arith) in
    cut_line k s t m (omega arith) (λ r rest left p z.
    let long : length r.chars / 2 ≡ 11 = taken-length k n f s.clusters r z ∙ rw d in
    let even = (taken_well k n f s.clusters r z).even in
    rw d (cut_flows b (k + 1) (with_flow s (k - 2 - n) (flow_of r.chars)) rest left (omega arith) (omega arith) (omega arith)))

-- a clusters are due, and the flows behind them
cut_clusters : (a k : ℕ) (s : Site) (t : List ℕ) (m : ℕ) → 1 < k → k + a ≡ 2 + s.cluster_count → 137 * a + 23 * s.flow_count + 137 ≤ m
    → read_rows k s (rows (take m t)) ≡ read_rows k s (rows t)
unfolding with_cluster entered
cut_clusters zero k s t m l e h = cut_flows s.flow_count k s t m (omega arith) (omega arith) (omega arith)
cut_clusters (suc a) k s t m l e h =
    let n : ℕ = s.cluster_count in let f : ℕ = s.flow_count in
    let d : due k n f ≡ 2 = cluster_due k n f l (omega arith) in
    cut_line k s t m (omega arith) (λ r rest left p z.
    let short = (taken_well k n f s.clusters r z).short in
    rw d (cut_clusters a (k + 1) (with_cluster s (k - 2) (cluster_of r.chars)) rest left (omega arith) (omega arith) (omega arith)))

pub verdict_in_11859 : (t : List ℕ) (m : ℕ) → 11859 ≤ m → read_text (take m t) ≡ read_text t
unfolding read_text no_site with_header entered due
verdict_in_11859 t m h = cut_line 1 no_site t m (omega arith) (λ r rest left p z.
    let l : List ℕ = r.chars in
    let long : length l / 2 ≡ 4 = taken-length 1 0 0 no_site.clusters r z in
    let counts = (header_in_lem 1 (byte_at l 1) (byte_at l 2) (byte_at l 3) (taken_header 1 0 0 no_site.clusters r z refl).1).1 in
    let even = (taken_well 1 0 0 no_site.clusters r z).even in
    cut_clusters (byte_at l 2) 2 (with_header no_site (byte_at l 2) (byte_at l 3)) rest left (omega arith) (omega arith) (omega arith))
