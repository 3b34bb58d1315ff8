-- Laws of the list of entries: how many there are and which stands at a place. And the limits that it is made with, one after another.
use Rattle.std.specs.Prelude.{◌≡◌, refl, List, [], ◌∷◌, ◌++◌, ℕ, zero, suc, ◌+◌, ◌-◌, ◌*◌, ◌/◌, ◌≤◌, ◌<◌, length, get_or, set, take}
use Rattle.std.proofs.Common.{sym, ap, ◌∙◌, add-one, arith, length-append, get_or-append-add, take-suc, take-suc-set}
use Rattle.std.proofs.Math.ListN.{get_or-append}
use Rattle.model.specs.Counting.{at, values, falling}
use Rattle.model.specs.CountingLaws.{values_length, falling-length, values-get_or, falling-get_or}
use Rattle.model.specs.CrossingLaws.{allowed_divides}
use Rattle.constraints.specs.Entries.{bias, entry, blank, upward, downward, tree_entries, flow_entries, site_entries, limits_of}

-- ## How many there are

tree_entries_length : (parent : ℕ → ℕ) (k : ℕ) → length (tree_entries parent k) ≡ 2 * k
unfolding tree_entries
tree_entries_length parent k = omega (
  arith,
  length-append (falling (upward parent) k) (values (downward parent) 1 k),
  falling-length (upward parent) k,
  values_length (downward parent) 1 k,
)

flow_entries_length : (ss ts ls : List ℕ) → length ts ≡ length ss → length ls ≡ length ss → length (flow_entries ss ts ls) ≡ length ss
unfolding flow_entries
flow_entries_length [] ts ls a b = refl
flow_entries_length (s ∷ ss) [] ls a b = omega arith
flow_entries_length (s ∷ ss) (t ∷ ts) [] a b = omega arith
flow_entries_length (s ∷ ss) (t ∷ ts) (l ∷ ls) a b = ap suc (flow_entries_length ss ts ls (omega arith) (omega arith))

-- one for each flow, and two for each cluster but the root
pub site_entries_length : (ps ss ts ls : List ℕ) → length ts ≡ length ss → length ls ≡ length ss → length (site_entries ps ss ts ls) ≡ 2 * (length ps - 1) + length ss
site_entries_length ps ss ts ls a b = omega (
  arith,
  length-append (flow_entries ss ts ls) (tree_entries (at ps) (length ps - 1)),
  tree_entries_length (at ps) (length ps - 1),
  flow_entries_length ss ts ls a b,
)

-- ## Which stands at a place

tree_up : (parent : ℕ → ℕ) (k j : ℕ) → j < k → get_or (tree_entries parent k) j blank ≡ upward parent (k - j)
unfolding tree_entries
tree_up parent k j h = let up = falling (upward parent) k in
    get_or-append up (values (downward parent) 1 k) blank j (omega (arith, falling-length (upward parent) k)) ∙ falling-get_or (upward parent) blank k j h

tree_down : (parent : ℕ → ℕ) (k j : ℕ) → j < k → get_or (tree_entries parent k) (k + j) blank ≡ downward parent (1 + j)
unfolding tree_entries
tree_down parent k j h = let up = falling (upward parent) k in let down = values (downward parent) 1 k in
    ap (λ (n : ℕ). get_or (up ++ down) (n + j) blank) (sym (falling-length (upward parent) k)) ∙ get_or-append-add up down j blank ∙ values-get_or (downward parent) blank 1 k j h

flow_at : (ss ts ls : List ℕ) (i : ℕ) → length ts ≡ length ss → length ls ≡ length ss → i < length ss → get_or (flow_entries ss ts ls) i blank ≡ entry (at ts i) (at ss i) (at ls i)
unfolding flow_entries
flow_at [] ts ls i a b h = absurd (omega arith)
flow_at (s ∷ ss) [] ls i a b h = absurd (omega arith)
flow_at (s ∷ ss) (t ∷ ts) [] i a b h = absurd (omega arith)
flow_at (s ∷ ss) (t ∷ ts) (l ∷ ls) zero a b h = refl
flow_at (s ∷ ss) (t ∷ ts) (l ∷ ls) (suc i) a b h = flow_at ss ts ls i (omega arith) (omega arith) (omega arith)

module _ (ps ss ts ls : List ℕ) (a : length ts ≡ length ss) (b : length ls ≡ length ss) where
  -- the first places are the flows'
  pub site_flow : (flow : ℕ) → flow < length ss → get_or (site_entries ps ss ts ls) flow blank ≡ entry (at ts flow) (at ss flow) (at ls flow)
  site_flow flow h =
      get_or-append (flow_entries ss ts ls) (tree_entries (at ps) (length ps - 1)) blank flow (omega (arith, flow_entries_length ss ts ls a b)) ∙ flow_at ss ts ls flow a b h

  in_tree : (place : ℕ) → length ss ≤ place → get_or (site_entries ps ss ts ls) place blank ≡ get_or (tree_entries (at ps) (length ps - 1)) (place - length ss) blank
  in_tree place h =
      let behind : place ≡ length (flow_entries ss ts ls) + (place - length ss) = omega (arith, flow_entries_length ss ts ls a b) in
      ap (λ (n : ℕ). get_or (site_entries ps ss ts ls) n blank) behind ∙ get_or-append-add (flow_entries ss ts ls) (tree_entries (at ps) (length ps - 1)) (place - length ss) blank

  -- behind them one goes up from each child, the last child first
  pub site_up : (place : ℕ) → length ss ≤ place → place - length ss < length ps - 1
      → get_or (site_entries ps ss ts ls) place blank ≡ upward (at ps) (length ps - 1 - (place - length ss))
  site_up place h l = in_tree place h ∙ tree_up (at ps) (length ps - 1) (place - length ss) l

  -- and then one goes down to each child, the first child first
  pub site_down : (place : ℕ) → length ss + (length ps - 1) ≤ place → place < 2 * (length ps - 1) + length ss
      → get_or (site_entries ps ss ts ls) place blank ≡ downward (at ps) (place - length ss - (length ps - 1) + 1)
  site_down place h l =
      let j = place - length ss - (length ps - 1) in
      let behind : place - length ss ≡ length ps - 1 + j = omega arith in
      let child : 1 + j ≡ j + 1 = omega arith in
      in_tree place (omega arith) ∙ ap (λ (n : ℕ). get_or (tree_entries (at ps) (length ps - 1)) n blank) behind ∙ (rw child at (tree_down (at ps) (length ps - 1) j (omega arith)))

-- ## The flows' limits

pub limits-length : (ds es : List ℕ) (p : ℕ) → length es ≡ length ds → length (limits_of ds es p) ≡ length ds
unfolding limits_of
limits-length [] es p h = refl
limits-length (d ∷ ds) [] p h = omega arith
limits-length (d ∷ ds) (e ∷ es) p h = ap suc (limits-length ds es p (omega arith))

pub limit_at : (ds es : List ℕ) (p i : ℕ) → length es ≡ length ds → i < length ds → at (limits_of ds es p) i ≡ at es i / p - 1 + bias - at ds i
unfolding limits_of
limit_at [] es p i h l = absurd (omega arith)
limit_at (d ∷ ds) [] p i h l = absurd (omega arith)
limit_at (d ∷ ds) (e ∷ es) p zero h l = rw (allowed_divides e p)
limit_at (d ∷ ds) (e ∷ es) p (suc i) h l = limit_at ds es p i (omega arith) (omega arith)

-- the limit of one flow more, stored behind the first i
pub limits_next : (ds es : List ℕ) (p i x : ℕ) (l : List ℕ) → length es ≡ length ds → i < length ds → i < length l → x ≡ at es i / p - 1 + bias - at ds i
    → take i l ≡ take i (limits_of ds es p) → take (i + 1) (set l i x) ≡ take (i + 1) (limits_of ds es p)
limits_next ds es p i x l h j k is front =
    rw (add-one, take-suc-set l i x k, take-suc (limits_of ds es p) i 0 (omega (arith, limits-length ds es p h)), limit_at ds es p i h j) (ap (λ (ls : List ℕ). ls ++ (x ∷ [])) front ∙ ap (λ (y : ℕ). take i (limits_of ds es p) ++ (y ∷ [])) is)
