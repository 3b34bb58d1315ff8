-- Whether a flow is late is a matter of the starts of the site's clusters alone.
use Rattle.std.specs.Prelude.{◌≡◌, refl, List, [], ◌∷◌, map, ℕ, ◌<◌}
use Rattle.hexline.specs.Lines.{any_of}
use Rattle.model.specs.Counting.{Each}
use Rattle.model.specs.PathStays.{path_crossings_same}
use Rattle.model.specs.Sites.{Flow, Site, size, parent, Sound}
use Rattle.deadlines.specs.Late.{late, some_late}

module _ (s : Site) (order : ℕ) (w : Sound s) (start other : ℕ → ℕ) (same : (c : ℕ) → c < size s → start c ≡ other c) where
  any_late_same : (fs : List Flow) → Each (λ f. (f.source < size s) × (f.sink < size s)) fs → any_of (map (late s order start) fs) ≡ any_of (map (late s order other) fs)
  any_late_same [] ends = refl
  any_late_same (f ∷ fs) ends = rw (path_crossings_same (parent s) (size s) w.tree start other same f.source f.sink ends.0.0 ends.0.1, any_late_same fs ends.1)

  pub some_late_same : some_late s order start ≡ some_late s order other
  unfolding some_late
  some_late_same = any_late_same s.flows w.ends
