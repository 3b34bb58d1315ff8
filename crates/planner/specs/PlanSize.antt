-- How long the plan text of a site's records is (docs/FORMATS.md, "Plan text"): 9 bytes for the header line, and 23 and twice the tag's length for each cluster's,
-- whatever the order and the sequence are.
use Rattle.std.specs.Prelude.{◌≡◌, refl, List, [], ◌∷◌}
use Rattle.std.proofs.Math.Path.{ap}
use Rattle.std.proofs.Common.{◌∙◌, suc-mul, length-append}
use Prim.Native.Nat.{ℕ, zero, suc, ◌+◌, ◌*◌, ◌≤◌, ◌<◌}
use native.Mathlib.Omega.{arith}
use Rattle.std.proofs.Math.ListN.{length, get_or}
use Rattle.hexline.specs.Digits.{line_of}
use Rattle.hexroom.specs.Listing.{lines_of}
use Rattle.model.specs.Counting.{sum_below, sum_over}
use Rattle.model.specs.CountingLaws.{sum_same}
use Rattle.model.specs.Exactness.{plan_is_exact}
use Rattle.model.specs.Orders.{portion}
use Rattle.model.specs.Plans.{plan, planned}
use Rattle.model.specs.Sequences.{starts}
use Rattle.site.specs.declared.Cluster.{Cluster}
use Rattle.site.specs.declared.Site.{Site}
use Rattle.site.specs.Refusals.{accepted}
use Rattle.site.specs.Records.{absent}
use Rattle.records.specs.Check.{checked}
use Rattle.records.specs.Checked.{checked_unrefused, counts_in, site_cluster_in}
use Rattle.plantext.specs.PlanText.{site_of, placed_line, plan_line, plan_lines, plan_text}
use Rattle.plantext.specs.PlanTextLaws.{cluster-length, text-length}
use Rattle.figures.specs.SiteLaws.{clusters_counted, describes_sound}

abbrev pub line_size : Site → ℕ → ℕ
line_size s c = 23 + 2 * (get_or s.clusters c absent).tag.len

unfoldable pub plan_size : Site → ℕ
plan_size s = 9 + sum_below s.cluster_count (line_size s)

lines-length : (bytes : ℕ → List ℕ) (xs : List ℕ) → length (lines_of bytes xs) ≡ sum_over (λ x. length (line_of (bytes x))) xs
unfolding lines_of sum_over
lines-length bytes [] = refl
lines-length bytes (x ∷ xs) = length-append (line_of (bytes x)) (lines_of bytes xs) ∙ omega (arith, lines-length bytes xs)

sum_at_most : (n most : ℕ) (f : ℕ → ℕ) → ((i : ℕ) → i < n → f i ≤ most) → sum_below n f ≤ n * most
unfolding sum_below
sum_at_most zero most f h = omega arith
sum_at_most (suc n) most f h = omega (arith, h n (omega arith), sum_at_most n most f (λ i l. h i (omega arith)), suc-mul n most)

module _ (s : Site) (accepted : checked s ≡ accepted) where
  pub plan_size_at_most : plan_size s ≤ 9673
  unfolding plan_size
  plan_size_at_most =
      let n : ℕ = s.cluster_count in
      omega (
        arith,
        sum_at_most n 151 (line_size s) (λ c l. omega (arith, (site_cluster_in s (checked_unrefused s accepted) c l).short)),
        (counts_in s (checked_unrefused s accepted)).clusters,
      )

  pub plan_text_size : (order : ℕ) (sequence : List ℕ) → plan (site_of s) ≡ planned order sequence → length (plan_text s order sequence) ≡ plan_size s
  unfolding plan_size plan_lines plan_line placed_line
  plan_text_size order sequence e =
      let n : ℕ = s.cluster_count in
      let size : ℕ → ℕ = λ c. length (line_of (plan_line s sequence c)) in
      let line : (c : ℕ) → c < n → size c ≡ line_size s c = λ c l.
      let cluster : Cluster = get_or s.clusters c absent in
      cluster-length c (starts (site_of s) sequence c) (portion cluster.order) cluster.tag (site_cluster_in s (checked_unrefused s accepted) c l).whole in
      omega (
        arith,
        text-length s order sequence,
        lines-length (plan_line s sequence) sequence,
        ((plan_is_exact (site_of s) (describes_sound s accepted)).planned_is order sequence e).each_once size,
        ap (λ m. sum_below m size) (clusters_counted s accepted),
        sum_same n size (line_size s) line,
      )
