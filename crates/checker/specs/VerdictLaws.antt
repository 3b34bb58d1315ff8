-- The verdict on a plan text by the first test that refuses it.
use Rattle.std.specs.Prelude.{◌≡◌, true, false, List, ◌∷◌}
use Rattle.hexline.specs.Lines.{Row}
use Rattle.model.specs.Orders.{interval, permitted}
use Rattle.model.specs.Sites.{periods}
use Rattle.site.specs.declared.Site.{Site}
use Rattle.std.specs.Prelude.{Err}
use Rattle.site.specs.Refusals.{accepted}
use Rattle.site.specs.Told.{refusal}
use Rattle.plantext.specs.PlanText.{site_of}
use Rattle.planlines.specs.PlanLines.{bad_header}
use Rattle.checker.specs.Checks.{header_order, layout_broken, order_refused, clusters_wrong, overlapping, flow_late, plan_verdict}
use Rattle.checker.specs.Passing.{some_broken}

module _ (s : Site) (h : Row) (ls : List Row) where
  pub header_broken : bad_header h ≡ true → plan_verdict s (h ∷ ls) ≡ Err (refusal 20 0 255)
  unfolding plan_verdict layout_broken
  header_broken e = rw e

  module _ (headed : bad_header h ≡ false) where
    pub line_broken : some_broken ls ≡ true → plan_verdict s (h ∷ ls) ≡ Err (refusal 20 0 255)
    unfolding plan_verdict layout_broken
    line_broken e = rw (headed, e)

    module _ (formed : some_broken ls ≡ false) where
      pub not_permitted : permitted (header_order h) (periods (site_of s)) ≡ false → plan_verdict s (h ∷ ls) ≡ Err (refusal 21 0 255)
      unfolding plan_verdict layout_broken order_refused
      not_permitted e = rw (headed, formed, e)

      module _ (permits : permitted (header_order h) (periods (site_of s)) ≡ true) where
        pub clusters_wrong_lem : clusters_wrong s h ls ≡ true → plan_verdict s (h ∷ ls) ≡ Err (refusal 22 0 255)
        unfolding plan_verdict layout_broken order_refused
        clusters_wrong_lem e = rw (headed, formed, permits, e)

        module _ (right : clusters_wrong s h ls ≡ false) where
          pub portions_overlap : overlapping (interval (header_order h)) ls ≡ true → plan_verdict s (h ∷ ls) ≡ Err (refusal 23 0 255)
          unfolding plan_verdict layout_broken order_refused
          portions_overlap e = rw (headed, formed, permits, right, e)

          module _ (apart : overlapping (interval (header_order h)) ls ≡ false) where
            pub a_flow_late : flow_late s h ls ≡ true → plan_verdict s (h ∷ ls) ≡ Err (refusal 24 0 255)
            unfolding plan_verdict layout_broken order_refused
            a_flow_late e = rw (headed, formed, permits, right, apart, e)

            pub is_plan : flow_late s h ls ≡ false → plan_verdict s (h ∷ ls) ≡ accepted
            unfolding plan_verdict layout_broken order_refused
            is_plan e = rw (headed, formed, permits, right, apart, e)
