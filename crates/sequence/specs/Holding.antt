-- What the contracts cite (docs/FORMATS.md, "The plan that is returned"). A number for each cluster says how much holds it back, and the cluster that comes next, the lowest
-- number with all required predecessors placed, is the first that nothing holds back. It is the lowest of a set, which the code keeps beside the numbers.
use Rattle.std.specs.Prelude.{◌≡◌, Bool, true, false, not, ◌&&◌, List, [], ℕ, ◌+◌, ◌≤◌, ◌<◌, leb, ltb, eqb, length, take, drop}
use Rattle.model.specs.Counting.{at, bit, member, sum_below}
use Rattle.model.specs.Sequences.{is_parent, next_ones}
use Rattle.sequence.specs.Sets.{bit_at}

-- a parent and a count for each of at most 64 clusters
pub record Sized (parents counts : List ℕ) : Type 0 where
  pub few : length parents ≤ 64
  pub counted : length counts ≡ length parents

-- of a cluster c and its parent p, the one that comes after the other
unfoldable pub later_of : (ℕ → ℕ) → ℕ → ℕ → ℕ
later_of N p c = elim (ltb (N p) (N c)) [ true ↦ c | false ↦ p ]

-- whether q is the parent of c and comes before it
abbrev pub parent_first : (ℕ → ℕ) → (ℕ → ℕ) → ℕ → ℕ → Bool
parent_first parent N q c = is_parent parent q c && ltb (N q) (N c)

-- whether q is a child of c and comes before it
abbrev pub child_first : (ℕ → ℕ) → (ℕ → ℕ) → ℕ → ℕ → Bool
child_first parent N q c = is_parent parent c q && leb (N q) (N c)

-- how much q holds c back: once where it comes before c as its parent, and once where it does as its child. So it is above 0 just where q is a required predecessor of c, and 2 only
-- where each is given as the parent of the other
abbrev pub holds : (ℕ → ℕ) → (ℕ → ℕ) → ℕ → ℕ → ℕ
holds parent N q c = bit (parent_first parent N q c) + bit (child_first parent N q c)

-- whether the parent of c is one of the clusters and comes before it
abbrev pub follows_parent : ℕ → (ℕ → ℕ) → (ℕ → ℕ) → ℕ → Bool
follows_parent size parent N c = ltb (parent c) size && parent_first parent N (parent c) c

-- how much c waits: for its parent and for each of its children that come before it and are not placed
unfoldable pub waiting : ℕ → (ℕ → ℕ) → (ℕ → ℕ) → List ℕ → ℕ → ℕ
waiting size parent N placed c =
    bit (follows_parent size parent N c && not (member (parent c) placed)) + sum_below size (λ q. bit (child_first parent N q c && not (member q placed)))

-- how much holds c back: what it waits for and, since it is placed only once, itself where it is placed
unfoldable pub holding : ℕ → (ℕ → ℕ) → (ℕ → ℕ) → List ℕ → ℕ → ℕ
holding size parent N placed c = waiting size parent N placed c + bit (member c placed)

-- `held` says it of each cluster
pub record Held (size : ℕ) (parent N : ℕ → ℕ) (placed held : List ℕ) : Type 0 where
  pub room : length held ≡ 64
  pub each : (c : ℕ) → c < size → at held c ≡ holding size parent N placed c

-- x is the lowest-numbered cluster that nothing holds back
abbrev pub LowestFree : ℕ → List ℕ → ℕ → Type 0
LowestFree size held x = (x < size) × (at held x ≡ 0) × ((c : ℕ) → c < x → at held c ≡ 0 → ⊥)

-- there is none
abbrev pub NoneFree : ℕ → List ℕ → Type 0
NoneFree size held = (c : ℕ) → c < size → at held c ≡ 0 → ⊥

-- the set of the clusters that nothing holds back
pub record Marked (size : ℕ) (held : List ℕ) (free : ℕ) : Type 0 where
  pub room : length held ≡ 64
  pub each : (c : ℕ) → c < 64 → bit_at free c ≡ bit (ltb c size && eqb (at held c) 0)

-- for each cluster the set of its children that come after it
pub record Following (size : ℕ) (parent N : ℕ → ℕ) (sets : List ℕ) : Type 0 where
  pub room : length sets ≡ 64
  pub each : (p c : ℕ) → p < size → c < 64 → bit_at (at sets p) c ≡ bit (ltb c size && parent_first parent N p c)

-- a set of clusters has no other numbers
abbrev pub Within : ℕ → ℕ → Type 0
Within size mask = (c : ℕ) → size ≤ c → c < 64 → bit_at mask c ≡ 0

-- the entry of each cluster counts what it is to be lowered by
pub record Lowerable (size : ℕ) (by : ℕ → ℕ) (held : List ℕ) : Type 0 where
  pub room : length held ≡ 64
  pub each : (c : ℕ) → c < size → by c ≤ at held c

-- and is lowered by it
pub record Lowered (size : ℕ) (by : ℕ → ℕ) (earlier later : List ℕ) : Type 0 where
  pub room : length later ≡ 64
  pub each : (c : ℕ) → c < size → at later c + by c ≡ at earlier c

-- the clusters in order of start
abbrev pub in_order : ℕ → (ℕ → ℕ) → (ℕ → ℕ) → List ℕ
in_order size parent N = next_ones size parent N size []

-- they stand first in the room, r of them, and what was behind them stays
pub record Sequenced (size : ℕ) (parent N : ℕ → ℕ) (earlier later : List ℕ) (r : ℕ) : Type 0 where
  pub number : r ≡ length (in_order size parent N)
  pub first : take r later ≡ in_order size parent N
  pub behind : drop r later ≡ drop r earlier
