-- A placing looks at the starts of the site's clusters alone: starts that agree on them place the site both or neither.
use Rattle.std.specs.Prelude.{◌≡◌, ℕ, ◌<◌}
use Rattle.std.proofs.Common.{inl, inr, arith}
use Rattle.model.specs.CountingLaws.{each_combine}
use Rattle.model.specs.PathStays.{path_crossings_same}
use Rattle.model.specs.Placing.{Placing}
use Rattle.model.specs.Sites.{Site, size, parent, Sound}

pub same_starts_place : (s : Site) (order : ℕ) → Sound s → (start other : ℕ → ℕ) → ((c : ℕ) → c < size s → start c ≡ other c)
    → Placing s order start → Placing s order other
same_starts_place s order w start other same p = record {
  inside = λ c l. omega (arith, same c l, p.inside c l);
  apart = λ c d l m ne. elim (p.apart c d l m ne) [ inl a ↦ inl (omega (arith, same c l, same d m)) | inr a ↦ inr (omega (arith, same c l, same d m)) ];
  timely = each_combine s.flows (λ f ends on_time.
      rw (path_crossings_same (parent s) (size s) w.tree start other same f.source f.sink ends.0 ends.1) at on_time)
      w.ends p.timely;
}
