-- Laws of the plan text: how long its lines are, and that a cluster starts at the sum of the portions before it.
use Rattle.std.specs.Prelude.{◌≡◌, refl, false, length, get_or, take, drop, eqb}
use Rattle.std.proofs.Math.Path.{ap}
use Rattle.std.proofs.Common.{◌∙◌, add-one, arith, take-suc, get_or-take, length-take-le}
use mathlib.Core.List.{List, [], ◌∷◌, ◌++◌, map}
use Prim.Native.Nat.{ℕ, zero, suc, ◌+◌, ◌*◌, ◌≤◌, ◌<◌}
use Rattle.std.proofs.Math.ListN.{length-append, get_or-map}
use Rattle.std.proofs.Math.Seq.{split_at, take-length}
use Rattle.hexline.specs.Digits.{number_bytes, field_bytes, line_of}
use Rattle.hexroom.specs.Listing.{lines_of}
use Rattle.hexroom.specs.Room.{put, put-append, line-length}
use Rattle.model.specs.Counting.{Each, at, member, sum_over}
use Rattle.model.specs.CountingLaws.{each_imply, or_neither}
use Rattle.model.specs.Orders.{portion}
use Rattle.model.specs.Sequences.{start_in, starts}
use Rattle.model.specs.SequenceLaws.{start_is_running_sum}
use Rattle.model.specs.Sites.{portion_of}
use Rattle.site.specs.declared.Cluster.{Cluster}
use Rattle.site.specs.declared.Site.{Site}
use Rattle.site.specs.declared.Tag.{Tag}
use Rattle.site.specs.Records.{absent}
use Rattle.records.specs.Checked.{ClusterIn, checked_unrefused, counts_in, site_cluster_in}
use Rattle.plantext.specs.PlanText.{site_of, plan_header, cluster_line, placed_line, placed_text, plan_line, plan_lines, plan_text, Fresh, Placed}

pub header-length : (order n : ℕ) → length (line_of (plan_header order n)) ≡ 9
unfolding plan_header field_bytes number_bytes
header-length order n = line-length (plan_header order n)

pub cluster-length : (c start len : ℕ) (tag : Tag) → tag.len ≤ length tag.bytes → length (line_of (cluster_line c start len tag)) ≡ 23 + 2 * tag.len
unfolding cluster_line field_bytes number_bytes
cluster-length c start len tag h = line-length (cluster_line c start len tag) ∙ omega (arith, length-take-le tag.len tag.bytes h)

-- the cluster at i is one of the n, and comes neither before i nor among the earlier ones
pub fresh_at : (n : ℕ) (earlier xs : List ℕ) (i : ℕ) → Fresh n earlier xs → i < length xs
    → (at xs i < n) × (member (at xs i) earlier ≡ false) × (member (at xs i) (take i xs) ≡ false)
fresh_at n earlier [] i f l = absurd (omega arith)
fresh_at n earlier (x ∷ xs) zero f l = (f.0, f.1, refl)
fresh_at n earlier (x ∷ xs) (suc i) f l =
    let r = fresh_at n (x ∷ earlier) xs i f.2 (omega arith) in
    let q = or_neither (eqb (at xs i) x) (member (at xs i) earlier) r.1 in
    (r.0, q.1, rw q.0 r.2)

-- the same of each of them
pub fresh_each : (n : ℕ) (earlier xs : List ℕ) → Fresh n earlier xs → Each (λ c. (c < n) × (member c earlier ≡ false)) xs
fresh_each n earlier [] f = tt
fresh_each n earlier (x ∷ xs) f =
    ((f.0, f.1), each_imply xs (λ c here. (here.0, (or_neither (eqb c x) (member c earlier) here.1).1)) (fresh_each n (x ∷ earlier) xs f.2))

sum_of_one_more : (f : ℕ → ℕ) (xs : List ℕ) (x : ℕ) → sum_over f (xs ++ (x ∷ [])) ≡ sum_over f xs + f x
unfolding sum_over
sum_of_one_more f [] x = omega arith
sum_of_one_more f (y ∷ ys) x = omega (arith, sum_of_one_more f ys x)

module _ (s : Site) where
  -- a field of the clusters that count, at cluster c
  pub field_at : (field : Cluster → ℕ) (c : ℕ) → c < s.cluster_count → get_or (map field (take s.cluster_count s.clusters)) c (field absent) ≡ field (get_or s.clusters c absent)
  field_at field c l = get_or-map field (take s.cluster_count s.clusters) c absent ∙ ap field (get_or-take s.cluster_count s.clusters c absent l)

  pub order_at : (c : ℕ) → c < s.cluster_count → at (site_of s).orders c ≡ (get_or s.clusters c absent).order
  unfolding site_of
  order_at = field_at (λ k. k.order)

  -- the lines of all clusters of the sequence
  pub lines_all : (xs : List ℕ) → lines_of (plan_line s xs) (take (length xs) xs) ≡ plan_lines s xs
  unfolding plan_lines
  lines_all xs = ap (lines_of (plan_line s xs)) (take-length xs)

  pub text-length : (order : ℕ) (xs : List ℕ) → length (plan_text s order xs) ≡ 9 + length (plan_lines s xs)
  unfolding plan_text placed_text plan_lines plan_line
  text-length order xs =
      let header : List ℕ = line_of (plan_header order s.cluster_count) in
      length-append header (plan_lines s xs) ∙ omega (arith, header-length order s.cluster_count)

  pub text_put : (room : List ℕ) (order a : ℕ) (xs : List ℕ) → a ≡ length (line_of (plan_header order s.cluster_count))
      → put (put room 0 (line_of (plan_header order s.cluster_count))) a (plan_lines s xs) ≡ put room 0 (plan_text s order xs)
  unfolding plan_text placed_text plan_lines plan_line
  text_put room order a xs e = put-append room 0 a (line_of (plan_header order s.cluster_count)) (plan_lines s xs) (omega arith)

  -- cluster i of the sequence, the clusters before it being placed
  module _ (xs : List ℕ) (p : Placed s xs) (i : ℕ) (l : i < length xs) where
    abbrev c : ℕ
    c = at xs i

    abbrev cluster : Cluster
    cluster = get_or s.clusters c absent

    pub cluster_here : c < s.cluster_count
    cluster_here = (fresh_at s.cluster_count [] xs i p.fresh l).0

    pub cluster_in_range : ClusterIn cluster
    cluster_in_range = site_cluster_in s (checked_unrefused s p.accepted) c cluster_here

    pub index_in_range : c < 64
    index_in_range = omega (arith, cluster_here, (counts_in s (checked_unrefused s p.accepted)).clusters)

    pub next_sum : sum_over (portion_of (site_of s)) (take (i + 1) xs) ≡ sum_over (portion_of (site_of s)) (take i xs) + portion cluster.order
    next_sum = rw (add-one, take-suc xs i 0 l) (sum_of_one_more (portion_of (site_of s)) (take i xs) c ∙ ap (λ (o : ℕ). sum_over (portion_of (site_of s)) (take i xs) + portion o) (order_at c cluster_here))

    start_here : starts (site_of s) xs c ≡ sum_over (portion_of (site_of s)) (take i xs)
    unfolding starts
    start_here =
        ap (λ (ys : List ℕ). start_in (portion_of (site_of s)) ys c) (split_at xs i 0 l)
        ∙ start_is_running_sum (portion_of (site_of s)) (take i xs) c (drop (suc i) xs) (fresh_at s.cluster_count [] xs i p.fresh l).2

    pub line_here : (index start len : ℕ) → index ≡ c → start ≡ sum_over (portion_of (site_of s)) (take i xs) → len ≡ portion cluster.order
        → cluster_line c start len (get_or s.clusters index absent).tag ≡ plan_line s xs c
    unfolding plan_line placed_line
    line_here index start len e f g = rw (e, f, g, start_here)
