-- The impostors (docs/PROMISES.md, "Impostors"), each as a way to behave and a proof that no function that behaves so meets the planner's contract.
-- Each proof computes the contract at records, most of them those of a case of docs/FORMATS.md, "Worked sites", in a room of so many bytes.
use Rattle.std.specs.Prelude.{◌≡◌, refl, length, get_or, take, Err}
use Rattle.std.proofs.Common.{sym, ap, ◌∙◌, arith}
use mathlib.Core.List.{List, [], ◌∷◌, ◌++◌, map}
use Prim.Native.Nat.{ℕ, ◌-◌, ◌≤◌, ◌<◌, min}
use Rattle.std.proofs.Math.ListN.{replicate}
use Rattle.hexline.specs.Digits.{digit, byte_at, number_at, hex_of, hexes, number_bytes, field_bytes, line_of}
use Rattle.hexline.specs.Lines.{rows}
use Rattle.hexroom.specs.Listing.{lines_of}
use Rattle.hexline.specs.Loops.{every}
use Rattle.hexroom.specs.Room.{handed}
use Rattle.model.specs.Constraints.{tree_constraints, descent, constraints}
use Rattle.model.specs.Counting.{sum_below, all_below, least_where, values}
use Rattle.model.specs.Crossings.{allowed}
use Rattle.model.specs.Exactness.{Permitted, Fits, Placeless, plan_is_exact}
use Rattle.model.specs.Orders.{symbols, is_order, within_all, permitted}
use Rattle.model.specs.Plans.{fits, candidate, planned, search, plan}
use Rattle.model.specs.Relaxing.{okay, all_okay, relax, round, settled_within, depths, solve}
use Rattle.model.specs.Sequences.{before, ready, next, next_ones, sequence, start_in, starts}
use Rattle.model.specs.Trees.{total_within, total, depth, top_within, top}
use Rattle.site.specs.declared.Cluster.{Cluster}
use Rattle.site.specs.declared.Flow.{Flow}
use Rattle.site.specs.declared.Site.{Site}
use Rattle.site.specs.declared.Tag.{Tag}
use Rattle.site.specs.Refusals.{accepted}
use Rattle.site.specs.Told.{refusal}
use Rattle.site.specs.Records.{no_cluster, no_flow, no_site, absent, same_tag, wrong_parent, tag_taken}
use Rattle.site.specs.Fields.{first_bad, header_verdict, cluster_verdict, flow_verdict}
use Rattle.records.specs.Check.{cluster_checked, each_of, clusters_verdict, flows_verdict, checked}
use Rattle.plantext.specs.PlanText.{site_of, plan_header, cluster_line, placed_line, placed_text, plan_line, plan_lines, plan_text}
use Rattle.figures.specs.SiteLaws.{describes_sound}
use Rattle.planner.specs.Answers.{Planned, a_plan, answer, room_after}
use Rattle.planlines.specs.PlanRead.{starts_in}

-- ---- the contract

-- the answer, and the room after it
abbrev pub Planner : Type 0
Planner = Site → List ℕ → Planned × List ℕ

abbrev pub Contract : Planner → Type 0
Contract f = (s : Site) (room : List ℕ) → f s room ≡ (answer s (length room), room_after s room)

-- ---- records of the worked sites

abbrev tagged : List ℕ → Tag
tagged bytes = record { bytes = bytes ++ replicate (64 - length bytes) 0; len = length bytes }

abbrev ordered : ℕ → ℕ → List ℕ → Cluster
ordered order parent tag = record { parent = parent; order = order; tag = tagged tag }

-- a cluster of order 0
abbrev cluster : ℕ → List ℕ → Cluster
cluster parent tag = ordered 0 parent tag

abbrev flow : ℕ → ℕ → ℕ → ℕ → Flow
flow source sink period deadline = record { source = source; sink = sink; period = period; deadline = deadline }

abbrev records : List Cluster → List Flow → Site
records clusters flows = record {
  clusters = clusters ++ replicate (64 - length clusters) no_cluster;
  flows = flows ++ replicate (128 - length flows) no_flow;
  cluster_count = length clusters;
  flow_count = length flows;
}

lone : List Cluster
lone = cluster 255 (65 ∷ []) ∷ []

pair : List Cluster
pair = cluster 255 (65 ∷ []) ∷ cluster 0 (66 ∷ []) ∷ []

chain : List Cluster
chain = cluster 255 (65 ∷ []) ∷ cluster 0 (66 ∷ []) ∷ cluster 1 (67 ∷ []) ∷ []

P1 : Site
P1 = records lone []

P3 : Site
P3 = records chain (flow 2 0 3840 3840 ∷ [])

P4 : Site
P4 = records chain (flow 0 2 3840 7679 ∷ flow 2 0 3840 7679 ∷ [])

P5 : Site
P5 = records chain (flow 0 2 3840 7680 ∷ flow 2 0 3840 7680 ∷ [])

P6 : Site
P6 = records chain (flow 0 2 1000000 7680 ∷ flow 2 0 1000000 7680 ∷ [])

P7 : Site
P7 = records pair (flow 0 1 1920 1920 ∷ [])

P8 : Site
P8 = records pair (flow 0 1 1919 1920 ∷ [])

-- tags that agree in 16 bytes and differ in the 17th
twins : Site
twins = records (cluster 255 (replicate 16 65 ++ (65 ∷ [])) ∷ cluster 0 (replicate 16 65 ++ (66 ∷ [])) ∷ []) []

-- a superframe order of 15 in line 2, and in line 3
tall : Site
tall = records (ordered 15 255 (65 ∷ []) ∷ []) []

tall_child : Site
tall_child = records (cluster 255 (65 ∷ []) ∷ ordered 15 0 (66 ∷ []) ∷ []) []

-- the records of P1 with 129 for the number of flows
crowded : Site
crowded = record { clusters = P1.clusters; flows = P1.flows; cluster_count = 1; flow_count = 129 }

-- the first flow alone
unfoldable pub first_flow : Site → Site
first_flow s = record { clusters = s.clusters; flows = s.flows; cluster_count = s.cluster_count; flow_count = min 1 s.flow_count }

-- tags of at most sixteen bytes
unfoldable pub cut_tags : Site → Site
cut_tags s = record { clusters = map cut s.clusters; flows = s.flows; cluster_count = s.cluster_count; flow_count = s.flow_count }
  where
    cut : Cluster → Cluster
    cut c = record { parent = c.parent; order = c.order; tag = record { bytes = c.tag.bytes; len = min 16 c.tag.len } }

-- what the contract says of them
record Worked : Type 0 where
  _p1_planned : answer P1 59 ≡ a_plan 34 14
  _p1_begins : get_or (room_after P1 (replicate 59 1)) 0 0 ≡ 56
  _p1_behind : get_or (room_after P1 (replicate 59 1)) 34 0 ≡ 1
  _p1_fits : Fits (site_of P1) 0
  _p3_planned : answer P3 84 ≡ a_plan 84 2
  _p3_begins : get_or (room_after P3 (replicate 84 0)) 12 0 ≡ 50
  _p5_planned : answer P5 84 ≡ a_plan 84 2
  _p5_begins : get_or (room_after P5 (replicate 84 0)) 12 0 ≡ 48
  _p4_late : answer P4 84 ≡ Err (refusal 8 0 255)
  _p4_first_flow : answer (first_flow P4) 84 ≡ a_plan 84 2
  _p6_accepted : checked P6 ≡ accepted
  _p6_plan : plan (site_of P6) ≡ planned 2 (0 ∷ 2 ∷ 1 ∷ [])
  _p6_planned : answer P6 84 ≡ a_plan 84 2
  _p6_permitted : Permitted (site_of P6) 10
  _p6_fits : Fits (site_of P6) 10
  _p7_planned : answer P7 59 ≡ a_plan 59 1
  _p7_starts : let text : List ℕ = take 59 (room_after P7 (replicate 59 1)) in (starts_in text 0 ≡ 0) × (starts_in text 1 ≡ 960)
  _p8_misfit : answer P8 59 ≡ Err (refusal 7 0 255)
  none_refused : answer no_site 0 ≡ Err (refusal 10 1 2)
  crowded_refused : answer crowded 0 ≡ Err (refusal 10 1 3)
  tall_refused : answer tall 0 ≡ Err (refusal 11 2 2)
  tall_child_refused : answer tall_child 0 ≡ Err (refusal 11 3 2)
  twins_planned : answer twins 123 ≡ a_plan 123 14
  twins_cut : answer (cut_tags twins) 123 ≡ Err (refusal 6 3 255)

worked : Worked
unfolding P1 P3 P4 P5 P6 P7 P8 lone pair chain twins tall tall_child crowded no_site first_flow cut_tags answer room_after checked clusters_verdict flows_verdict each_of cluster_checked header_verdict cluster_verdict flow_verdict first_bad wrong_parent tag_taken same_tag every site_of plan search candidate fits permitted is_order within_all symbols starts start_in sequence next_ones next ready before solve depths settled_within round relax all_okay okay constraints descent tree_constraints allowed top top_within depth total total_within values least_where all_below sum_below plan_text placed_text plan_header plan_lines plan_line placed_line cluster_line lines_of field_bytes number_bytes line_of hexes hex_of handed starts_in rows digit byte_at number_at
worked = record {
  _p1_planned = refl;
  _p1_begins = refl;
  _p1_behind = refl;
  _p1_fits = refl;
  _p3_planned = refl;
  _p3_begins = refl;
  _p5_planned = refl;
  _p5_begins = refl;
  _p4_late = refl;
  _p4_first_flow = refl;
  _p6_accepted = refl;
  _p6_plan = refl;
  _p6_planned = refl;
  _p6_permitted = refl;
  _p6_fits = refl;
  _p7_planned = refl;
  _p7_starts = (refl, refl);
  _p8_misfit = refl;
  none_refused = refl;
  crowded_refused = refl;
  tall_refused = refl;
  tall_child_refused = refl;
  twins_planned = refl;
  twins_cut = refl;
}

-- ---- the impostors

module _ (f : Planner) (meets : Contract f) where
  answers : (s : Site) (room : List ℕ) (a : Planned) → answer s (length room) ≡ a → (f s room).0 ≡ a
  answers s room a e = ap (λ r. r.0) (meets s room) ∙ e

  leaves : (s : Site) (room : List ℕ) → (f s room).1 ≡ room_after s room
  leaves s room = ap (λ r. r.1) (meets s room)

  -- one that refuses all sites: P1 is planned
  pub not_all_refused : ((s : Site) (room : List ℕ) → (number line place : ℕ) × ((f s room).0 ≡ Err (refusal number line place))) → ⊥
  not_all_refused impostor =
      let e = (impostor P1 (replicate 59 1)).3 in
      let h = answers P1 (replicate 59 1) (a_plan 34 14) worked._p1_planned in
      let z : ◌≡◌ {A = ℕ} 0 1 = cc in omega arith

  -- one with a fixed plan for all: P3 and P5 have texts of one length and one order, which begin with different clusters
  pub no_fixed_plan : ((s other : Site) (room : List ℕ) (len order : ℕ) → (f s room).0 ≡ a_plan len order → (f other room).0 ≡ a_plan len order → (f s room).1 ≡ (f other room).1) → ⊥
  no_fixed_plan impostor =
      let room : List ℕ = replicate 84 0 in
      let fixed = impostor P3 P5 room 84 2 (answers P3 room (a_plan 84 2) worked._p3_planned) (answers P5 room (a_plan 84 2) worked._p5_planned) in
      omega (arith, ap (λ r. get_or r 12 0) (sym (leaves P3 room) ∙ fixed ∙ leaves P5 room), worked._p3_begins, worked._p5_begins)

  -- one that always puts the child first: in P7 the root starts first
  pub not_child_first_always : ((s : Site) (room : List ℕ) (len order : ℕ) → (f s room).0 ≡ a_plan len order
      → let start : ℕ → ℕ = starts_in (take len (f s room).1) in (c : ℕ) → 0 < c → c < s.cluster_count → start c < start (get_or s.clusters c absent).parent)
      → ⊥
  unfolding P7 pair
  not_child_first_always impostor =
      let room : List ℕ = replicate 59 1 in
      let first = impostor P7 room 59 1 (answers P7 room (a_plan 59 1) worked._p7_planned) 1 (omega arith) (omega arith) in
      omega (arith, rw leaves at first, worked._p7_starts.0, worked._p7_starts.1)

  -- one that returns a length and leaves the room as it was: P1's text begins with the digit 8
  pub room_is_written : ((s : Site) (room : List ℕ) → (f s room).1 ≡ room) → ⊥
  room_is_written impostor =
      let room : List ℕ = replicate 59 1 in
      let same : room_after P1 room ≡ room = sym (leaves P1 room) ∙ impostor P1 room in
      omega (arith, ap (λ r. get_or r 0 0) same, worked._p1_begins)

  -- one that looks at the first flow only: P4 has a placing for the first of its flows, and none for both
  pub every_flow_counts : ((s : Site) (room : List ℕ) → (f s room).0 ≡ answer (first_flow s) (length room)) → ⊥
  every_flow_counts impostor =
      let room : List ℕ = replicate 84 0 in
      let e = impostor P4 room ∙ worked._p4_first_flow in
      let h = answers P4 room (Err (refusal 8 0 255)) worked._p4_late in
      let z : ◌≡◌ {A = ℕ} 0 1 = cc in omega arith

  -- one that makes the length up: P1 and P7 have texts of 34 and 59 bytes in rooms of one length
  pub length_not_invented : (invented : ℕ → ℕ) → ((s : Site) (room : List ℕ) (len order : ℕ) → (f s room).0 ≡ a_plan len order → len ≡ invented (length room)) → ⊥
  length_not_invented invented impostor =
      let room : List ℕ = replicate 59 1 in
      let e = impostor P1 room 34 14 (answers P1 room (a_plan 34 14) worked._p1_planned) in
      let h = impostor P7 room 59 1 (answers P7 room (a_plan 59 1) worked._p7_planned) in
      omega arith

  -- one that makes the line up: an order of 15 is refused by 11 at place 2, of the root at line 2 and of its child at line 3
  pub line_not_invented : (invented : ℕ → ℕ → ℕ) → ((s : Site) (room : List ℕ) (number line place : ℕ) → (f s room).0 ≡ Err (refusal number line place) → line ≡ invented number place) → ⊥
  line_not_invented invented impostor =
      let e = impostor tall [] 11 2 2 (answers tall [] (Err (refusal 11 2 2)) worked.tall_refused) in
      let h = impostor tall_child [] 11 3 2 (answers tall_child [] (Err (refusal 11 3 2)) worked.tall_child_refused) in
      omega arith

  -- one that makes the place up: no cluster and too many flows are both refused by 10 at line 1, at places 2 and 3
  pub place_not_invented : (invented : ℕ → ℕ → ℕ) → ((s : Site) (room : List ℕ) (number line place : ℕ) → (f s room).0 ≡ Err (refusal number line place) → place ≡ invented number line) → ⊥
  place_not_invented invented impostor =
      let e = impostor no_site [] 10 1 2 (answers no_site [] (Err (refusal 10 1 2)) worked.none_refused) in
      let h = impostor crowded [] 10 1 3 (answers crowded [] (Err (refusal 10 1 3)) worked.crowded_refused) in
      omega arith

  -- one that never tells a place: no cluster is refused at place 2
  pub place_is_told : ((s : Site) (room : List ℕ) (number line place : ℕ) → (f s room).0 ≡ Err (refusal number line place) → place ≡ 255) → ⊥
  place_is_told impostor = let e = impostor no_site [] 10 1 2 (answers no_site [] (Err (refusal 10 1 2)) worked.none_refused) in omega arith

  -- one that takes the smallest order that fits: P1 fits order 0, and is planned at 14
  pub order_not_smallest : ((s : Site) (room : List ℕ) (len order : ℕ) → (f s room).0 ≡ a_plan len order → (smaller : ℕ) → smaller < order → Fits (site_of s) smaller → ⊥) → ⊥
  order_not_smallest impostor =
      let room : List ℕ = replicate 59 1 in
      impostor P1 room 34 14 (answers P1 room (a_plan 34 14) worked._p1_planned) 0 (omega arith) worked._p1_fits

  -- one that gives 8 where some permitted order that fits has no placing: P6 has none at order 10, and is planned at 2
  pub smaller_orders_tried : ((s : Site) (room : List ℕ) (order : ℕ) → Permitted (site_of s) order → Fits (site_of s) order → Placeless (site_of s) order → (f s room).0 ≡ Err (refusal 8 0 255)) → ⊥
  smaller_orders_tried impostor =
      let room : List ℕ = replicate 84 0 in
      let largest = ((plan_is_exact (site_of P6) (describes_sound P6 worked._p6_accepted)).planned_is 2 (0 ∷ 2 ∷ 1 ∷ []) worked._p6_plan).largest_order in
      let e = impostor P6 room 10 worked._p6_permitted worked._p6_fits (largest 10 (omega arith) worked._p6_permitted) in
      let h = answers P6 room (a_plan 84 2) worked._p6_planned in
      let z : ◌≡◌ {A = ℕ} 0 1 = cc in omega arith

  -- one that clears the bytes behind the answer: P1's text leaves byte 34 as it was
  pub bytes_behind_stay : ((s : Site) (room : List ℕ) (len order : ℕ) → (f s room).0 ≡ a_plan len order → (i : ℕ) → len ≤ i → get_or (f s room).1 i 0 ≡ 0) → ⊥
  bytes_behind_stay impostor =
      let room : List ℕ = replicate 59 1 in
      let cleared = impostor P1 room 34 14 (answers P1 room (a_plan 34 14) worked._p1_planned) 34 (omega arith) in
      omega (arith, rw leaves at cleared, worked._p1_behind)

  -- one that gives 8 for 7: P8 fits no permitted order
  pub seven_is_given : ((s : Site) (room : List ℕ) → (f s room).0 ≡ Err (refusal 7 0 255) → ⊥) → ⊥
  seven_is_given impostor = impostor P8 (replicate 59 1) (answers P8 (replicate 59 1) (Err (refusal 7 0 255)) worked._p8_misfit)

  -- one that cuts tags at sixteen bytes: the twins are two clusters
  pub tags_kept_whole : ((s : Site) (room : List ℕ) → (f s room).0 ≡ answer (cut_tags s) (length room)) → ⊥
  tags_kept_whole impostor =
      let room : List ℕ = replicate 123 0 in
      let e = impostor twins room ∙ worked.twins_cut in
      let h = answers twins room (a_plan 123 14) worked.twins_planned in
      let z : ◌≡◌ {A = ℕ} 0 1 = cc in omega arith
