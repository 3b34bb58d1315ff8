-- The flows that count permit an order exactly if its interval is not longer than the period of any.
use Rattle.std.specs.Prelude.{◌≡◌, ◌↔◌, IsTrue, Bool, List, map, ℕ, ◌≤◌, take}
use Rattle.std.specs.List.{All}
use Rattle.std.proofs.Common.{sym, ap, ◌∙◌}
use Rattle.std.proofs.Math.ListN.{length-map, get_or-map}
use Rattle.std.proofs.lemmas.List.Elements.{All-map}
use Rattle.model.specs.Orders.{interval, largest, length_at, within_all, permitted}
use Rattle.model.specs.OrderLaws.{tested_all, interval_decides}
use Rattle.model.specs.Sites.{periods}
use Rattle.plantext.specs.PlanText.{site_of}
use Rattle.records.specs.Check.{checked}
use Rattle.site.specs.declared.Flow.{Flow}
use Rattle.site.specs.declared.Site.{Site}
use Rattle.site.specs.Refusals.{accepted}
use Rattle.figures.specs.Numbers.{periods_of}
use Rattle.figures.specs.SiteLaws.{periods_are}

periods_tested : (t : ℕ) (flows : List Flow) (b : Bool) → (IsTrue b ↔ All (λ (f : Flow). t ≤ f.period) flows) → b ≡ within_all t (map (λ (f : Flow). f.period) flows)
periods_tested t flows b tells =
    let P : ℕ → Type 0 = λ p. t ≤ p in
    tested_all t (map (λ (f : Flow). f.period) flows) b
    (λ e. All-map P (λ (f : Flow). f.period) flows (tells.0 e), λ h. tells.1 (λ k d l. rw (← get_or-map (λ (f : Flow). f.period) flows k d) (h k d.period (rw (length-map flows (λ (f : Flow). f.period)) l))))

pub flows_permit : (s : Site) → checked s ≡ accepted → (flows : List Flow) → flows ≡ take s.flow_count s.flows → (order t : ℕ) → order ≤ largest → t ≡ length_at interval order
    → (b : Bool) → (IsTrue b ↔ All (λ (f : Flow). t ≤ f.period) flows) → b ≡ permitted order (periods (site_of s))
unfolding periods_of
flows_permit s checks flows counts order t is_order e b tells =
    periods_tested t flows b tells ∙ sym (interval_decides order (map (λ (f : Flow). f.period) flows) t is_order e) ∙ ap (permitted order) (rw counts (periods_are s checks))
