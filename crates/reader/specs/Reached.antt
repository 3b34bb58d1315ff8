-- What the reader has reached at each line, and how each answer of the line reader carries it to the next line.
use Rattle.std.specs.Prelude.{◌≡◌, refl, true, false, not, List, [], ◌∷◌, ℕ, ◌+◌, ◌-◌, ◌≤◌, eqb, length, set, take, replicate, Err}
use Rattle.std.specs.List.{list_all}
use Rattle.std.proofs.Common.{sym, ◌∙◌, arith}
use Rattle.std.proofs.Math.ListN.{length-set}
use Rattle.hexline.specs.Lines.{Row, rows}
use Rattle.site.specs.declared.Tag.{Tag}
use Rattle.site.specs.declared.Cluster.{Cluster}
use Rattle.site.specs.declared.Flow.{Flow}
use Rattle.site.specs.declared.Counts.{Counts}
use Rattle.site.specs.declared.Site.{Site}
use Rattle.site.specs.Told.{Told}
use Rattle.site.specs.Records.{no_site, tag_taken}
use Rattle.site.specs.Lines.{tag_at}
use Rattle.site.specs.Table.{due, entry_of}
use Rattle.tags.specs.TagLaws.{tag_not_taken}
use Rattle.reader.specs.Prints.{print_of}
use Rattle.reader.specs.PrintLaws.{Padded, tag_padded, Printed, printed_start, printed_header, printed_flow, printed_cluster, prints_differ, taken_before}
use Rattle.reader.specs.Reading.{with_header, with_cluster, with_flow, accepted, refused_by, refused, read_rows, read_text}
use Rattle.reader.specs.ReadLaws.{HeaderIs, ClusterIs, FlowIs, rows_refused_line, rows_header, rows_flow, rows_repeated, rows_cluster, rows_end, rows_missing}

-- what holds of the records at every line: the counts are in range, and there is room for all
pub record Sized (s : Site) : Type 0 where
  pub clusters : s.cluster_count ≤ 64
  pub flows : s.flow_count ≤ 128
  pub cluster_room : length s.clusters ≡ 64
  pub flow_room : length s.flows ≡ 128

pub sized_start : Sized no_site
unfolding no_site
sized_start = record { clusters = omega arith; flows = omega arith; cluster_room = refl; flow_room = refl }

module _ (s : Site) (h : Sized s) where
  pub sized_header : (a b : ℕ) → a ≤ 64 → b ≤ 128 → Sized (with_header s a b)
  unfolding with_header
  sized_header a b p q = record { clusters = p; flows = q; cluster_room = h.cluster_room; flow_room = h.flow_room }

  pub sized_cluster : (i : ℕ) (c : Cluster) → Sized (with_cluster s i c)
  unfolding with_cluster
  sized_cluster i c = record { clusters = h.clusters; flows = h.flows; cluster_room = length-set s.clusters i c ∙ h.cluster_room; flow_room = h.flow_room }

  pub sized_flow : (j : ℕ) (w : Flow) → Sized (with_flow s j w)
  unfolding with_flow
  sized_flow j w = record { clusters = h.clusters; flows = h.flows; cluster_room = h.cluster_room; flow_room = length-set s.flows j w ∙ h.flow_room }

-- the lines rs are left, from line k on, after the records s: they decide as the whole text does, the records have room, and the prints are those of the clusters
pub record Reached (t : List ℕ) (rs : List Row) (k : ℕ) (s : Site) (prints : List ℕ) : Type 0 where
  pub left : read_rows k s rs ≡ read_text t
  pub sized : Sized s
  pub few : k + length rs ≡ 1 + length (rows t)
  pub printed : Printed k s prints

pub reached_start : (t : List ℕ) → Reached t (rows t) 1 no_site (replicate 64 0)
unfolding read_text
reached_start t = record { left = refl; sized = sized_start; few = refl; printed = printed_start }

module _ (t : List ℕ) (rs : List Row) (k : ℕ) (s : Site) (prints : List ℕ) where
  abbrev n : ℕ
  n = s.cluster_count

  abbrev f : ℕ
  f = s.flow_count

  -- the line r is next
  module _ (r : Row) (h : Reached t (r ∷ rs) k s prints) where
    pub reached_refused : (u : Told) → entry_of k n f r ≡ Err u → read_text t ≡ refused_by u
    reached_refused u e = sym h.left ∙ rows_refused_line k s r rs u e

    pub reached_header : (counts : Counts) → HeaderIs k n f s.clusters r counts → Reached t rs (k + 1) (with_header s counts.clusters counts.flows) prints
    reached_header counts g = record {
      left = sym (rows_header k s r rs counts g) ∙ h.left;
      sized = sized_header s h.sized counts.clusters counts.flows g.few_clusters g.few_flows;
      few = omega (arith, h.few);
      printed = printed_header k s prints h.printed g.first counts.clusters counts.flows;
    }

    pub reached_flow : (w : Flow) → FlowIs k n f s.clusters r w → Reached t rs (k + 1) (with_flow s (k - 2 - n) w) prints
    reached_flow w g = record {
      left = sym (rows_flow k s r rs w g) ∙ h.left;
      sized = sized_flow s h.sized (k - 2 - n) w;
      few = omega (arith, h.few);
      printed = printed_flow k s prints h.printed g.after (k - 2 - n) w;
    }

    -- a cluster's line, its tag and the tag's print
    module _ (q o a m : ℕ) (g : ClusterIs k n f s.clusters r q o a m) (u : Tag) (made : u ≡ tag_at r.chars 4 m) (v : ℕ) (is : v ≡ print_of u.bytes) where
      padded : Padded u
      padded = rw made (tag_padded r.chars 4 m)

      pub reached_repeated : tag_taken s.clusters (k - 2) u ≡ true → read_text t ≡ refused 6 k 255
      reached_repeated e = sym h.left ∙ rows_repeated k s r rs q o a m g u made e

      pub reached_cluster : tag_taken s.clusters (k - 2) u ≡ false
          → Reached t rs (k + 1) (with_cluster s (k - 2) (record { parent = q; order = o; tag = u })) (set prints (k - 2) v)
      reached_cluster fresh = record {
        left = sym (rows_cluster k s r rs q o a m g u made fresh) ∙ h.left;
        sized = sized_cluster s h.sized (k - 2) _;
        few = omega (arith, h.few);
        printed = printed_cluster k s prints h.printed g.after (omega (arith, g.within, h.sized.clusters)) h.sized.cluster_room _ v padded is;
      }

      -- no tag is like it whose print is another
      pub reached_unlike : list_all (λ q. not (eqb q v)) (take (k - 2) prints) ≡ true → tag_taken s.clusters (k - 2) u ≡ false
      reached_unlike e = tag_not_taken s.clusters (k - 2) u (prints_differ k s prints h.printed u padded v is (k - 2) (omega (arith, g.after)) (omega (arith, g.within)) (omega (arith, g.within, h.sized.clusters)) e)

      pub reached_tags : tag_taken s.clusters (k - 2) u ≡ tag_taken (take (k - 2) s.clusters) (length (take (k - 2) s.clusters)) u
      reached_tags = taken_before s.clusters (k - 2) u (omega (arith, g.within, h.sized.clusters, h.sized.cluster_room))

  -- no line is left
  module _ (h : Reached t rs k s prints) (none : rs ≡ []) where
    pub reached_end : due k n f ≡ 0 → read_text t ≡ accepted s
    reached_end e = sym h.left ∙ rw none (rows_end k s e)

    pub reached_missing : (due k n f ≡ 0 → ⊥) → read_text t ≡ refused 2 k 255
    reached_missing e = sym h.left ∙ rw none (rows_missing k s e)
