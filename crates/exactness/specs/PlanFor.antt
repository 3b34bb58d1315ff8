-- docs/FORMATS.md, "Checking a plan" (request 2026-02): a text is a plan for a site's records if it is the plan text of some permitted order and some placing at it, with the clusters in
-- order of start.
use Rattle.std.specs.Prelude.{◌≡◌, true, List, [], ◌∷◌, ℕ, ◌≤◌, ◌<◌}
use Rattle.model.specs.Counting.{member}
use Rattle.model.specs.Exactness.{Permitted}
use Rattle.model.specs.Placing.{Placing}
use Rattle.site.specs.declared.Site.{Site}
use Rattle.plantext.specs.PlanText.{site_of, placed_text, Fresh}

-- none starts before the one ahead of it
abbrev pub Rising : (ℕ → ℕ) → List ℕ → Type 0
Rising start [] = Unit {0}
Rising start (x ∷ []) = Unit {0}
Rising start (x ∷ (y ∷ ys)) = (start x ≤ start y) × Rising start (y ∷ ys)

-- the n clusters in order of start: each is one of them and comes once, all are there, and none starts before the one ahead of it
pub record InOrderOfStart (n : ℕ) (start : ℕ → ℕ) (sequence : List ℕ) : Type 0 where
  pub fresh : Fresh n [] sequence
  pub all : (c : ℕ) → c < n → member c sequence ≡ true
  pub rising : Rising start sequence

-- the text is the plan text of that order, of a placing at it, and of the clusters in order of start
pub record PlanAt (s : Site) (text : List ℕ) (order : ℕ) : Type 0 where
  pub start : ℕ → ℕ
  pub sequence : List ℕ
  pub order_permitted : Permitted (site_of s) order
  pub placing : Placing (site_of s) order start
  pub in_order : InOrderOfStart s.cluster_count start sequence
  pub text_is : text ≡ placed_text s order start sequence

-- of some order
abbrev pub PlanFor : Site → List ℕ → Type 0
PlanFor s text = (order : ℕ) × PlanAt s text order
