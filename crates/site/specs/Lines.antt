-- The record that a line of digits spells (docs/FORMATS.md, "Site text").
use Rattle.std.specs.Prelude.{◌≡◌, Bool, true, false, not, List, ℕ, ◌+◌, ◌/◌, ◌<◌, length, replicate}
use Rattle.hexline.specs.Loops.{every, filled}
use Rattle.hexline.specs.Digits.{byte_at, number_at}
use Rattle.site.specs.declared.Tag.{Tag}
use Rattle.site.specs.declared.Cluster.{Cluster}
use Rattle.site.specs.declared.Flow.{Flow}
use Rattle.site.specs.Fields.{outside}

-- how many bytes a line has
unfoldable pub size : List ℕ → ℕ
size l = length l / 2

-- the tag of n bytes that begins at byte k; zeros behind them
unfoldable pub tag_at : List ℕ → ℕ → ℕ → Tag
tag_at l k n = record { bytes = filled (λ i. byte_at l (k + i)) (replicate 64 0) n; len = n }

-- 02, parent, order, tag length, tag
unfoldable pub cluster_of : List ℕ → Cluster
cluster_of l = record { parent = byte_at l 1; order = byte_at l 2; tag = tag_at l 4 (byte_at l 3) }

-- 03, source, sink, period and deadline of 4 bytes each
unfoldable pub flow_of : List ℕ → Flow
flow_of l = record { source = byte_at l 1; sink = byte_at l 2; period = number_at l 3 4; deadline = number_at l 7 4 }

-- the n tag bytes of a cluster line are each 21 to 7E
unfoldable pub printable_line : List ℕ → ℕ → Bool
printable_line l n = every n (λ i. not (outside 33 126 (byte_at l (4 + i))))

-- byte i is the first of the n tag bytes of a cluster line that is not 21 to 7E
pub record FirstUnprintable (l : List ℕ) (n i : ℕ) : Type 0 where
  pub below : i < n
  pub others : (j : ℕ) → j < i → outside 33 126 (byte_at l (4 + j)) ≡ false
  pub here : outside 33 126 (byte_at l (4 + i)) ≡ true
