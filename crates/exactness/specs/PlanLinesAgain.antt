-- The lines of an accepted plan text (docs/FORMATS.md, "Checking a plan"): what the tests of the layout and of the clusters leave of a line makes it a line of the plan
-- text of a placing. A line of the layout is its table of fields, so its bytes are those of the fields that are read in it; the test of the clusters leaves the cluster's
-- own length and tag.
use Rattle.std.specs.Prelude.{◌≡◌, true, false, not, List, [], ◌∷◌, ◌++◌, map, ℕ, ◌+◌, ◌/◌, ◌≤◌, ◌<◌, get_or, take, drop, replicate, leb, ltb, eqb}
use Rattle.std.proofs.Math.Path.{sym}
use Rattle.std.proofs.Common.{◌∙◌, arith, leb-false, ltb-false, eqb-true}
use Rattle.std.proofs.Math.ListN.{length, length-replicate}
use Rattle.std.proofs.lemmas.Bool.{not-false}
use Rattle.hexline.specs.Loops.{filled-length}
use Rattle.hexline.specs.Digits.{byte_at, bytes_of, line_of}
use Rattle.hexline.specs.Lines.{Row}
use Rattle.hexline.specs.LineLaws.{none_of, WellFormed, well_formed}
use Rattle.hexroom.specs.RoundTrip.{fields_at, total, fields_again, bytes-length, number_one}
use Rattle.model.specs.Counting.{member}
use Rattle.model.specs.CountingLaws.{and_both}
use Rattle.model.specs.Orders.{portion}
use Rattle.site.specs.declared.Cluster.{Cluster}
use Rattle.site.specs.declared.Site.{Site}
use Rattle.site.specs.declared.Tag.{Tag}
use Rattle.site.specs.Refusals.{accepted}
use Rattle.site.specs.Lines.{size, tag_at}
use Rattle.site.specs.Records.{absent, same_tag}
use Rattle.records.specs.Check.{checked}
use Rattle.records.specs.Checked.{ClusterIn, checked_unrefused, site_cluster_in}
use Rattle.roundtrip.specs.LinesAgain.{joined, row_again, fields_whole, tag_again}
use Rattle.roundtrip.specs.Tags.{same_tag_exactly, same_tag_same_bytes}
use Rattle.plantext.specs.PlanText.{plan_header, cluster_line, placed_line}
use Rattle.planlines.specs.PlanLines.{not_whole, bad_header, bad_cluster, cluster_number, cluster_start, cluster_length, tag_length, describes}
use Rattle.checker.specs.Checks.{header_order, header_count, wrong_line}

-- the cluster that a row names, and those that rows name
abbrev pub number_in : Row → ℕ
number_in r = cluster_number r.chars

abbrev pub numbers_in : List Row → List ℕ
numbers_in rs = map number_in rs

-- ---- the header

pub plan_header_again : (h : Row) (n : ℕ) (rest : List Row) → bad_header h ≡ false → header_count h ≡ n
    → joined (h ∷ rest) ≡ line_of (plan_header (header_order h) n) ++ joined rest
unfolding bad_header not_whole size plan_header fields_at total
plan_header_again h n rest good count =
    let l : List ℕ = h.chars in
    let laid = none_of (not_whole h ∷ not (eqb (byte_at l 0) 129) ∷ not (eqb (byte_at l 1) 1) ∷ not (eqb (size l) 4) ∷ []) good in
    let kind : byte_at l 0 ≡ 129 = eqb-true _ _ (not-false _ laid.1.0) in
    let version : byte_at l 1 ≡ 1 = eqb-true _ _ (not-false _ laid.1.1.0) in
    let long : length l / 2 ≡ 4 = eqb-true _ _ (not-false _ laid.1.1.1.0) in
    row_again (length l) h (well_formed (length l) h laid.0) (plan_header (header_order h) n) rest
    (simp (number_one, kind, version, count) at (fields_whole l (1 ∷ 1 ∷ 1 ∷ 1 ∷ []) long))

-- ---- the line of a cluster

-- a line of the layout
pub record Laid (r : Row) : Type 0 where
  pub well : WellFormed (length r.chars) r
  pub kind : byte_at r.chars 0 ≡ 130
  pub long : length r.chars / 2 ≡ 11 + tag_length r.chars

pub is_laid : (r : Row) → bad_cluster r ≡ false → Laid r
unfolding bad_cluster not_whole size
is_laid r good =
    let l : List ℕ = r.chars in
    let laid = none_of (not_whole r ∷ not (eqb (byte_at l 0) 130) ∷ ltb (size l) 11 ∷ not (eqb (size l) (11 + byte_at l 10)) ∷ []) good in
    record {
      well = well_formed (length l) r laid.0;
      kind = eqb-true _ _ (not-false _ laid.1.0);
      long = eqb-true _ _ (not-false _ laid.1.1.1.0);
    }

-- a line that describes a cluster of the site
pub record Described (s : Site) (r : Row) : Type 0 where
  pub known : number_in r < s.cluster_count
  pub length_is : cluster_length r.chars ≡ portion (get_or s.clusters (number_in r) absent).order
  pub tag_is : same_tag (tag_at r.chars 11 (tag_length r.chars)) (get_or s.clusters (number_in r) absent).tag ≡ true

-- below those of the clusters `above`, the last of which starts at `last`, it also comes once and starts no earlier
pub record Right (s : Site) (above : List ℕ) (last : ℕ) (r : Row) : Type 0 where
  pub described : Described s r
  pub once : member (number_in r) above ≡ false
  pub no_earlier : last ≤ cluster_start r.chars

pub is_right : (s : Site) (above : List ℕ) (last : ℕ) (r : Row) → wrong_line s above last r.chars ≡ false → Right s above last r
unfolding wrong_line describes
is_right s above last r good =
    let l : List ℕ = r.chars in
    let c : ℕ = cluster_number l in
    let cluster : Cluster = get_or s.clusters c absent in
    let tests = none_of (leb s.cluster_count c ∷ member c above ∷ not (describes l cluster) ∷ ltb (cluster_start l) last ∷ []) good in
    let both = and_both (eqb (cluster_length l) (portion cluster.order)) (same_tag (tag_at l 11 (tag_length l)) cluster.tag) (not-false _ tests.1.1.0) in
    record {
      described = record { known = leb-false _ _ tests.0; length_is = eqb-true _ _ both.0; tag_is = both.1 };
      once = tests.1.0;
      no_earlier = ltb-false _ _ tests.1.1.1.0;
    }

-- such a line of the layout is the line of its cluster, where the cluster starts as it says
module _ (s : Site) (taken : checked s ≡ accepted) (start : ℕ → ℕ) (r : Row)
    (laid : Laid r) (described : Described s r) (starts : cluster_start r.chars ≡ start (number_in r)) where
  abbrev l : List ℕ
  l = r.chars

  abbrev cluster : Cluster
  cluster = get_or s.clusters (number_in r) absent

  tag_length_is : tag_length l ≡ cluster.tag.len
  unfolding tag_at
  tag_length_is = ((same_tag_exactly (tag_at l 11 (tag_length l)) cluster.tag).0 described.tag_is).0

  within : ClusterIn cluster
  within = site_cluster_in s (checked_unrefused s taken) (number_in r) described.known

  tag_bytes_are : take cluster.tag.len cluster.tag.bytes ≡ drop 11 (bytes_of l)
  unfolding tag_at
  tag_bytes_are =
      let t : Tag = tag_at l 11 (tag_length l) in
      let short : tag_length l ≤ 64 = omega (arith, tag_length_is, within.short) in
      let room : length t.bytes ≡ 64 = filled-length (λ i. byte_at l (11 + i)) (replicate 64 0) (tag_length l) ∙ length-replicate {A = ℕ} 64 0 in
      sym (same_tag_same_bytes t cluster.tag described.tag_is (omega arith) within.whole) ∙ tag_again l 11 (tag_length l) short laid.long

  line_is : placed_line s start (number_in r) ≡ bytes_of l
  unfolding placed_line cluster_line fields_at total
  line_is =
      rw (tag_bytes_are, ← starts, ← described.length_is, ← tag_length_is)
      (simp (number_one, laid.kind) at (fields_again l (1 ∷ 1 ∷ 4 ∷ 4 ∷ 1 ∷ []) 0 (omega (arith, bytes-length l, laid.long))))

  pub plan_line_again : (rest : List Row) → joined (r ∷ rest) ≡ line_of (placed_line s start (number_in r)) ++ joined rest
  plan_line_again rest = row_again (length l) r laid.well (placed_line s start (number_in r)) rest line_is
