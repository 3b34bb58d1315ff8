-- Two results that one contract allows are equal (docs/PROMISES.md, "Theorems"), for each public function. A contract says that
-- the result is d, or that the result is d and the room is e, with d and e made of the arguments alone, so each line here is an instance of one of two laws.
-- A part of a text that is shown is a place in memory and its bytes; these are equal, and nothing else of it can be looked at. The exceptions,
-- which docs/PROMISES.md explains, are functions that fill arrays of inner functions' own and leave some of them open (relaxing::settle, figures::figures_of, this one also its period), and
-- reader::read_into, which leaves the records open after a refusal.
-- A line that is decoded is the text that it was made of and its bytes, and of two such lines both are equal.
use Rattle.std.specs.Prelude.{◌≡◌, refl, true, not, ◌&&◌, Option, Some, None, is_none, IfSome, Result, Ok, Err, OnOk, List, [], ◌∷◌, ◌++◌, ℕ, ◌+◌, ◌-◌, ◌*◌, ◌/◌, ◌<◌, min, length, get_or, take, drop}
use Rattle.std.proofs.Common.{sym, ap, ◌∙◌, subst, arith}
use Rattle.std.specs.Borrow.{Bor}
use Rattle.hexline.specs.Digits.{is_digit as is_digit_of, digit, hex_of, byte_at, number_at, hexes, number_bytes, field_bytes, line_of}
use Rattle.hexline.specs.Loops.{every}
use Rattle.hexbytes.specs.declared.line.FormedLine.{FormedLine}
use Rattle.hexbytes.specs.Decoded.{nibble as nibble_of}
use Rattle.hexline.specs.Lines.{Row, rows, line_length, malformed}
use Rattle.hexroom.specs.declared.Field.{Field}
use Rattle.hexroom.specs.Room.{put}
use Rattle.model.specs.declared.Order.{Order}
use Rattle.model.specs.Counting.{at as number_in, values}
use Rattle.model.specs.Orders.{portion, interval, length_at, permitted}
use Rattle.model.specs.Plans.{plan as plan_of}
use Rattle.model.specs.Trees.{depth, top as top_of}
use Rattle.tree.specs.Lineage.{lineage, Lineages}
use Rattle.constraints.specs.declared.Links.{Links}
use Rattle.constraints.specs.Entries.{blank, site_entries, limits_of}
use Rattle.constraints.specs.Links.{entries_of}
use Rattle.model.specs.Sites as model
use Rattle.search.specs.declared.Figures.{Figures}
use Rattle.search.specs.declared.NoPlan.{NoPlan}
use Rattle.search.specs.Deciding.{searched_once}
use Rattle.search.specs.Posed.{Posed, Searched}
use Rattle.sequence.specs.Holding.{in_order, Sequenced}
use Rattle.sequence.specs.Running.{sequenced_room}
use Rattle.site.specs.declared.Cluster.{Cluster}
use Rattle.site.specs.declared.Flow.{Flow}
use Rattle.site.specs.declared.Kind.{Kind}
use Rattle.site.specs.declared.Kind.TheVariants.{Header, Cluster as ACluster, Flow as AFlow}
use Rattle.site.specs.declared.refusal.Reason.{Reason}
use Rattle.site.specs.declared.refusal.Refusal.TheInside.{Inside}
use Rattle.site.specs.declared.Site.{Site}
use Rattle.site.specs.declared.Tag.{Tag}
use Rattle.site.specs.Fields.{header_verdict, untagged_verdict, flow_verdict}
use Rattle.site.specs.Kinds.{first_byte, kind_number, some_kind}
use Rattle.site.specs.Lines.{tag_at}
use Rattle.site.specs.Records.{same_tag, tag_taken, wrong_parent}
use Rattle.site.specs.Refusals.{number_of, at_line, at_field, Verdict}
use Rattle.site.specs.Table.{due, entry_of}
use Rattle.site.specs.Told.{Told, refusal, number as number_told, line as line_told, place as place_told}
use Rattle.site.specs.Untold.{untold, untold_again}
use Rattle.reader.specs.Reading.{read_text, records_of}
use Rattle.records.specs.Check.{checked}
use Rattle.shown.specs.Shown.{line_start as line_start_of, line_at as line_at_of, Shown}
use Rattle.writer.specs.Text.{text_of, written, room_after as written_room}
use Rattle.plantext.specs.PlanText.{site_of, plan_header, cluster_line}
use Rattle.planner.specs.Answers.{answer, room_after, outcome_answer, outcome_room}
use Rattle.planlines.specs.PlanFront.{front_in, tag_digits}
use Rattle.planlines.specs.PlanLines.{header_in, describes as describes_it}
use Rattle.deadlines.specs.Late.{some_late}
use Rattle.checker.specs.Checks.{plan_verdict, checked_plan}
use Rattle.commission.specs.Numbers.{plan_number, plan_room, rewrite_number, rewrite_room, place_number, check_number}
use Rattle.roundtrip.specs.EqualResults.{equal_results, equal_results_in_room}

-- two results that are d are equal
abbrev pub OneResult : {A : Type 0} → A → Type 0
OneResult {A} d = (r₁ r₂ : A) → r₁ ≡ d → r₂ ≡ d → r₁ ≡ r₂

-- two results that are d with rooms that are e are equal, and so are the rooms
abbrev pub OneResultInRoom : {A B : Type 0} → A → B → Type 0
OneResultInRoom {A} {B} d e = (r₁ r₂ : A) (room₁ room₂ : B) → (r₁ ≡ d) × (room₁ ≡ e) → (r₂ ≡ d) × (room₂ ≡ e) → (r₁ ≡ r₂) × (room₁ ≡ room₂)

-- two figures with the same counts, the same entries up to them, the same sum of portions, and a period that permits the same orders
pub record SameFigures (a b : Figures) : Type 0 where
  pub clusters : a.cluster_count ≡ b.cluster_count
  pub flows : a.flow_count ≡ b.flow_count
  pub parents : take a.cluster_count a.parents ≡ take b.cluster_count b.parents
  pub depths : take a.cluster_count a.depths ≡ take b.cluster_count b.depths
  pub sources : take a.flow_count a.sources ≡ take b.flow_count b.sources
  pub sinks : take a.flow_count a.sinks ≡ take b.flow_count b.sinks
  pub descents : take a.flow_count a.descents ≡ take b.flow_count b.descents
  pub deadlines : take a.flow_count a.deadlines ≡ take b.flow_count b.deadlines
  pub permits : (order : ℕ) → permitted order (a.shortest ∷ []) ≡ permitted order (b.shortest ∷ [])
  pub total : a.total ≡ b.total

-- what is decoded of a line is none where it is malformed, else a line with its text
abbrev pub DecodedFrom : ℕ → Row → Option FormedLine → Type 0
DecodedFrom most r decoded = (is_none decoded ≡ malformed most r) × IfSome decoded (λ formed. formed.line.chars.now ≡ r.chars)

-- a number in a line, with how many bytes it takes
abbrev field : ℕ → ℕ → Field
field width value = record { width = width; value = value }

-- a kind is known by its number
one_kind : (a b : Option Kind) → kind_number a ≡ kind_number b → a ≡ b
one_kind None None e = refl
one_kind None (Some b) e = absurd (some_kind b (sym e))
one_kind (Some a) None e = absurd (some_kind a e)
one_kind (Some Header) (Some Header) e = refl
one_kind (Some Header) (Some ACluster) e = absurd (omega (arith, e))
one_kind (Some Header) (Some AFlow) e = absurd (omega (arith, e))
one_kind (Some ACluster) (Some Header) e = absurd (omega (arith, e))
one_kind (Some ACluster) (Some ACluster) e = refl
one_kind (Some ACluster) (Some AFlow) e = absurd (omega (arith, e))
one_kind (Some AFlow) (Some Header) e = absurd (omega (arith, e))
one_kind (Some AFlow) (Some ACluster) e = absurd (omega (arith, e))
one_kind (Some AFlow) (Some AFlow) e = refl

-- a reason is known by its number
plain : Reason → Inside
plain reason = record { reason = reason; line = 0; place = None }

one_reason : (a b : Reason) → number_of a ≡ number_of b → a ≡ b
unfolding plain
one_reason a b e = ap (λ (r : Inside). r.reason) (sym (untold_again (plain a) (λ none. cc)) ∙ ap (λ n. untold (refusal n 0 255)) e ∙ untold_again (plain b) (λ none. cc))

-- what lies in memory that a reading fills, where it is taken
both_taken : (v : Verdict) (s₁ s₂ s : Site) → OnOk v (s₁ ≡ s) → OnOk v (s₂ ≡ s) → OnOk v (s₁ ≡ s₂)
both_taken (Ok _) s₁ s₂ s p q = p ∙ sym q
both_taken (Err _) s₁ s₂ s p q = tt

pub record EqualResults : Type 0 where
  -- the line layer
  pub is_digit : (b : ℕ) → OneResult (is_digit_of b)
  pub digit_of : (b : ℕ) → OneResult (digit b)
  pub hex_of : (v : ℕ) → OneResult (hex_of v)
  pub nibble : (c : ℕ) → OneResult (nibble_of c)
  pub line_decode : (most : ℕ) (r : Row) (r₁ r₂ : Option FormedLine) → DecodedFrom most r r₁ → DecodedFrom most r r₂ → (is_none r₁ ≡ is_none r₂)
      × ((formed₁ formed₂ : FormedLine) → r₁ ≡ Some formed₁ → r₂ ≡ Some formed₂ → (formed₁.line.chars.now ≡ formed₂.line.chars.now) × (formed₁.line.bytes ≡ formed₂.line.bytes))
  pub line_len : (line : List ℕ) → OneResult (length line / 2)
  pub line_byte : (line : List ℕ) (k : ℕ) → OneResult (byte_at line k)
  pub line_four_bytes : (line : List ℕ) (k : ℕ) → OneResult (number_at line k 4)
  pub are_digits : (line : List ℕ) (at n : ℕ) → OneResult (every n (λ j. is_digit_of (get_or line (at + j) 0)))
  pub byte_at : (line : List ℕ) (k : ℕ) → OneResult (byte_at line k)
  pub number_at : (line : List ℕ) (k width : ℕ) → OneResult (number_at line k width)
  pub line_end : (text : List ℕ) (at : ℕ) → OneResult (at + line_length (drop at text))
  pub put_bytes : (room : List ℕ) (at : ℕ) (bytes : List ℕ) → OneResultInRoom (at + 2 * length bytes) (put room at (hexes bytes))
  pub put_number : (room : List ℕ) (at value width : ℕ) → OneResultInRoom (at + 2 * width) (put room at (hexes (number_bytes width value)))
  pub field_new : (width value : ℕ) → OneResult (field width value)
  pub field_byte : (value : ℕ) → OneResult (field 1 value)
  pub put_fields : (room : List ℕ) (at : ℕ) (widths values : List ℕ) → OneResultInRoom (at + 2 * length (field_bytes widths values)) (put room at (hexes (field_bytes widths values)))
  pub put_line : (room : List ℕ) (at : ℕ) (widths values tail : List ℕ) → OneResultInRoom (at + length (line_of (field_bytes widths values ++ tail))) (put room at (line_of (field_bytes widths values ++ tail)))
  -- the orders
  pub order_new : (number : ℕ) (r₁ r₂ : Order) → r₁.number ≡ number → r₂.number ≡ number → r₁ ≡ r₂
  pub order_portion : (number : ℕ) → OneResult (length_at portion number)
  pub order_interval : (number : ℕ) → OneResult (length_at interval number)
  pub order_permitted : (number : ℕ) (periods : List ℕ) → OneResult (permitted number periods)
  -- the reader
  pub wide : (x : ℕ) (r₁ r₂ : ℕ) → (r₁ ≡ x) × (r₁ < 256) → (r₂ ≡ x) × (r₂ < 256) → r₁ ≡ r₂
  pub counted : (len : ℕ) → OneResult (min len 64)
  pub reason_number : (reason : Reason) → OneResult (number_of reason)
  pub in_line : (reason : Reason) (line : ℕ) → OneResult (at_line reason line)
  pub in_field : (reason : Reason) (line place : ℕ) → OneResult (at_field reason line place)
  pub refusal_reason : (refused : Told) (r₁ r₂ : Reason) → number_of r₁ ≡ number_told refused → number_of r₂ ≡ number_told refused → r₁ ≡ r₂
  pub refusal_number : (refused : Told) → OneResult (number_told refused)
  pub refusal_line : (refused : Told) → OneResult (line_told refused)
  pub refusal_place : (refused : Told) → OneResult (place_told refused)
  pub packed : (refused : Told) → OneResult (65536 * number_told refused + line_told refused)
  pub counted_clusters : (s : Site) → OneResult (take s.cluster_count s.clusters)
  pub counted_flows : (s : Site) → OneResult (take s.flow_count s.flows)
  pub header_verdict : (k version clusters flows : ℕ) → OneResult (header_verdict k version clusters flows)
  pub untagged_verdict : (k order len : ℕ) → OneResult (untagged_verdict k order len)
  pub flow_verdict : (k clusters : ℕ) (f : Flow) → OneResult (flow_verdict k clusters f)
  pub bad_parent : (i parent : ℕ) → OneResult (wrong_parent i parent)
  pub due_at : (k clusters flows : ℕ) (r₁ r₂ : Option Kind) → kind_number r₁ ≡ due k clusters flows → kind_number r₂ ≡ due k clusters flows → r₁ ≡ r₂
  pub first_byte : (kind : Kind) → OneResult (first_byte kind)
  pub read_line : (k clusters flows : ℕ) (r : Row) → OneResult (entry_of k clusters flows r)
  pub entry_of_line : (k clusters flows : ℕ) (chars : List ℕ) → OneResult (entry_of k clusters flows (record { chars = chars; ended = true }))
  pub read_into : (text : List ℕ) (r₁ r₂ : Verdict) (s₁ s₂ : Site) → (r₁ ≡ (read_text text).verdict) × OnOk r₁ (s₁ ≡ (read_text text).site)
      → (r₂ ≡ (read_text text).verdict) × OnOk r₂ (s₂ ≡ (read_text text).site) → (r₁ ≡ r₂) × OnOk r₁ (s₁ ≡ s₂)
  pub records : (text : List ℕ) → OneResult (records_of (read_text text))
  pub read : (text : List ℕ) → OneResult (read_text text)
  pub check : (s : Site) → OneResult (checked s)
  pub accepted_clusters : (s : Site) → OneResult (take s.cluster_count s.clusters)
  pub accepted_flows : (s : Site) → OneResult (take s.flow_count s.flows)
  pub same_tag : (a b : Tag) → OneResult (same_tag a b)
  pub is_taken : (clusters : List Cluster) (tag : Tag) → OneResult (tag_taken clusters (length clusters) tag)
  pub tag_of : (line : List ℕ) (len : ℕ) → OneResult (tag_at line 4 len)
  pub line_start : (text : List ℕ) (k : ℕ) → OneResult (line_start_of text k)
  pub line_at : (text part₁ part₂ : Bor (List ℕ)) (k : ℕ) → Shown text part₁ k → Shown text part₂ k → (part₁.ref_ptr ≡ part₂.ref_ptr) × (part₁.now ≡ part₂.now)
  -- the tree, the flows' limits, the constraints, the clusters in order of start, and the search with its figures
  pub climb : (parents : List ℕ) → OneResultInRoom (values (depth (number_in parents)) 0 (length parents)) (values (lineage (number_in parents)) 0 (length parents))
  pub top : (sets : List ℕ) (a b r₁ r₂ : ℕ) → ((parent : ℕ → ℕ) × Lineages parent sets)
      → ((parent : ℕ → ℕ) → Lineages parent sets → r₁ ≡ top_of parent a b) → ((parent : ℕ → ℕ) → Lineages parent sets → r₂ ≡ top_of parent a b) → r₁ ≡ r₂
  pub limit_flows : (descents deadlines : List ℕ) (order : ℕ) → OneResult (limits_of descents deadlines (interval order))
  pub allowed : (deadline order : ℕ) → OneResult (deadline / interval order - 1)
  pub constraint_count : (links : Links) → OneResult (length (entries_of links))
  pub constraint_at : (place : ℕ) (parents sources sinks limits : List ℕ) → OneResult (get_or (site_entries parents sources sinks limits) place blank)
  pub sequence : (size : ℕ) (parent N : ℕ → ℕ) (room room₁ room₂ : List ℕ) (r₁ r₂ : ℕ) → Sequenced size parent N room room₁ r₁ → Sequenced size parent N room room₂ r₂ → (r₁ ≡ r₂) × (room₁ ≡ room₂)
  pub search : (figures : Figures) (before counts₁ counts₂ : List ℕ) (r₁ r₂ : Result ℕ NoPlan) → ((s : model.Site) × Posed s figures)
      → ((s : model.Site) → Posed s figures → Searched s r₁ before counts₁) → ((s : model.Site) → Posed s figures → Searched s r₂ before counts₂) → (r₁ ≡ r₂) × (counts₁ ≡ counts₂)
  pub figures_of : (s : Site) (r₁ r₂ : Figures) → Posed (site_of s) r₁ → Posed (site_of s) r₂ → SameFigures r₁ r₂
  -- the writer and the planner, with the room that they were lent
  pub put_header : (room : List ℕ) (order clusters : ℕ) → OneResultInRoom (length (line_of (plan_header order clusters))) (put room 0 (line_of (plan_header order clusters)))
  pub put_cluster : (room : List ℕ) (at cluster start len : ℕ) (tag : Tag) → OneResultInRoom (at + length (line_of (cluster_line cluster start len tag))) (put room at (line_of (cluster_line cluster start len tag)))
  pub write : (s : Site) (room : List ℕ) → OneResultInRoom (written (checked s) (text_of s) (length room)) (written_room (checked s) (text_of s) room)
  pub plan_accepted : (s : Site) (room : List ℕ) → OneResultInRoom (outcome_answer s (plan_of (site_of s)) (length room)) (outcome_room s (plan_of (site_of s)) room)
  pub plan : (s : Site) (room : List ℕ) → OneResultInRoom (answer s (length room)) (room_after s room)
  -- the lines of a plan, what the flows ask of one, and the checker
  pub header_line : (r : Row) → OneResult (header_in r)
  pub front_line : (rest : List ℕ) → OneResult (front_in rest)
  pub is_tag_whole : (rest : List ℕ) (len : ℕ) → OneResult (tag_digits rest len)
  pub describes : (rest : List ℕ) (len : ℕ) (cluster : Cluster) → OneResult (tag_digits rest len && describes_it (take (22 + 2 * len) rest) cluster)
  pub permits : (s : Site) (order : ℕ) → OneResult (permitted order (model.periods (site_of s)))
  pub all_on_time : (s : Site) (order : ℕ) (starts : List ℕ) → OneResult (not (some_late (site_of s) order (number_in starts)))
  pub check_accepted : (s : Site) (plan : List ℕ) → OneResult (plan_verdict s (rows plan))
  pub check_plan : (s : Site) (plan : List ℕ) → OneResult (checked_plan s plan)
  -- the C functions
  pub cartheron_plan : (text room : List ℕ) → OneResultInRoom (plan_number text (length room)) (plan_room text room)
  pub cartheron_rewrite : (text room : List ℕ) → OneResultInRoom (rewrite_number text (length room)) (rewrite_room text room)
  pub cartheron_place : (text : List ℕ) → OneResult (place_number text)
  pub cartheron_check : (text plan : List ℕ) → OneResult (check_number text plan)
  pub cartheron_line_start : (text : List ℕ) (line : ℕ) → OneResult (line_start_of text line)
  pub cartheron_line_length : (text : List ℕ) (line : ℕ) → OneResult (length (line_at_of text line))

pub results_are_equal : EqualResults
results_are_equal = record {
  is_digit = λ b. equal_results (is_digit_of b);
  digit_of = λ b. equal_results (digit b);
  hex_of = λ v. equal_results (hex_of v);
  nibble = λ c. equal_results (nibble_of c);
  line_decode = λ most r r₁ r₂ p q. (
    equal_results (malformed most r) (is_none r₁) (is_none r₂) p.0 q.0,
    λ formed₁ formed₂ e₁ e₂.
        let chars = equal_results r.chars formed₁.line.chars.now formed₂.line.chars.now (rw e₁ at p.1) (rw e₂ at q.1) in
        (chars, formed₁.line.decoded.bytes ∙ rw chars (sym formed₂.line.decoded.bytes)),
  );
  line_len = λ line. equal_results (length line / 2);
  line_byte = λ line k. equal_results (byte_at line k);
  line_four_bytes = λ line k. equal_results (number_at line k 4);
  are_digits = λ line at n. equal_results (every n (λ j. is_digit_of (get_or line (at + j) 0)));
  byte_at = λ line k. equal_results (byte_at line k);
  number_at = λ line k width. equal_results (number_at line k width);
  line_end = λ text at. equal_results (at + line_length (drop at text));
  put_bytes = λ room at bytes. equal_results_in_room (at + 2 * length bytes) (put room at (hexes bytes));
  put_number = λ room at value width. equal_results_in_room (at + 2 * width) (put room at (hexes (number_bytes width value)));
  field_new = λ width value. equal_results (field width value);
  field_byte = λ value. equal_results (field 1 value);
  put_fields = λ room at widths values. equal_results_in_room (at + 2 * length (field_bytes widths values)) (put room at (hexes (field_bytes widths values)));
  put_line = λ room at widths values tail. equal_results_in_room (at + length (line_of (field_bytes widths values ++ tail))) (put room at (line_of (field_bytes widths values ++ tail)));
  order_new = λ number r₁ r₂ p q. equal_results (record { number = number }) r₁ r₂ (λ i. record { number = p i }) (λ i. record { number = q i });
  order_portion = λ number. equal_results (length_at portion number);
  order_interval = λ number. equal_results (length_at interval number);
  order_permitted = λ number periods. equal_results (permitted number periods);
  wide = λ x r₁ r₂ p q. equal_results x r₁ r₂ p.0 q.0;
  counted = λ len. equal_results (min len 64);
  reason_number = λ reason. equal_results (number_of reason);
  in_line = λ reason line. equal_results (at_line reason line);
  in_field = λ reason line place. equal_results (at_field reason line place);
  refusal_reason = λ refused r₁ r₂ p q. one_reason r₁ r₂ (equal_results (number_told refused) (number_of r₁) (number_of r₂) p q);
  refusal_number = λ refused. equal_results (number_told refused);
  refusal_line = λ refused. equal_results (line_told refused);
  refusal_place = λ refused. equal_results (place_told refused);
  packed = λ refused. equal_results (65536 * number_told refused + line_told refused);
  counted_clusters = λ s. equal_results (take s.cluster_count s.clusters);
  counted_flows = λ s. equal_results (take s.flow_count s.flows);
  header_verdict = λ k version clusters flows. equal_results (header_verdict k version clusters flows);
  untagged_verdict = λ k order len. equal_results (untagged_verdict k order len);
  flow_verdict = λ k clusters f. equal_results (flow_verdict k clusters f);
  bad_parent = λ i parent. equal_results (wrong_parent i parent);
  due_at = λ k clusters flows r₁ r₂ p q. one_kind r₁ r₂ (equal_results (due k clusters flows) (kind_number r₁) (kind_number r₂) p q);
  first_byte = λ kind. equal_results (first_byte kind);
  read_line = λ k clusters flows r. equal_results (entry_of k clusters flows r);
  entry_of_line = λ k clusters flows chars. equal_results (entry_of k clusters flows (record { chars = chars; ended = true }));
  read_into = λ text r₁ r₂ s₁ s₂ p q.
      let e = equal_results (read_text text).verdict r₁ r₂ p.0 q.0 in
      (e, both_taken r₁ s₁ s₂ (read_text text).site p.1 (subst (λ (v : Verdict). OnOk v (s₂ ≡ (read_text text).site)) (sym e) q.1));
  records = λ text. equal_results (records_of (read_text text));
  read = λ text. equal_results (read_text text);
  check = λ s. equal_results (checked s);
  accepted_clusters = λ s. equal_results (take s.cluster_count s.clusters);
  accepted_flows = λ s. equal_results (take s.flow_count s.flows);
  same_tag = λ a b. equal_results (same_tag a b);
  is_taken = λ clusters tag. equal_results (tag_taken clusters (length clusters) tag);
  tag_of = λ line len. equal_results (tag_at line 4 len);
  line_start = λ text k. equal_results (line_start_of text k);
  line_at = λ text part₁ part₂ k p q.
      equal_results_in_room (text.ref_ptr.0, text.ref_ptr.1 + line_start_of text.now k) (line_at_of text.now k) part₁.ref_ptr part₂.ref_ptr part₁.now part₂.now (p.place, p.bytes) (q.place, q.bytes);
  climb = λ parents. equal_results_in_room (values (depth (number_in parents)) 0 (length parents)) (values (lineage (number_in parents)) 0 (length parents));
  top = λ sets a b r₁ r₂ w p q. equal_results (top_of w.0 a b) r₁ r₂ (p w.0 w.1) (q w.0 w.1);
  limit_flows = λ descents deadlines order. equal_results (limits_of descents deadlines (interval order));
  allowed = λ deadline order. equal_results (deadline / interval order - 1);
  constraint_count = λ links. equal_results (length (entries_of links));
  constraint_at = λ place parents sources sinks limits. equal_results (get_or (site_entries parents sources sinks limits) place blank);
  sequence = λ size parent N room room₁ room₂ r₁ r₂ p q. let placed = in_order size parent N in
      equal_results_in_room (length placed) (placed ++ drop (length placed) room) r₁ r₂ room₁ room₂ (p.number, sequenced_room size parent N room room₁ r₁ p) (q.number, sequenced_room size parent N room room₂ r₂ q);
  search = λ figures before counts₁ counts₂ r₁ r₂ w p q. searched_once w.0 (p w.0 w.1) (q w.0 w.1);
  figures_of = λ s r₁ r₂ p q. record {
    clusters = p.clusters_counted ∙ sym q.clusters_counted;
    flows = p.flows_counted ∙ sym q.flows_counted;
    parents = p.parents_are ∙ sym q.parents_are;
    depths = p.depths_are ∙ sym q.depths_are;
    sources = p.sources_are ∙ sym q.sources_are;
    sinks = p.sinks_are ∙ sym q.sinks_are;
    descents = p.descents_are ∙ sym q.descents_are;
    deadlines = p.deadlines_are ∙ sym q.deadlines_are;
    permits = λ order. p.permits order ∙ sym (q.permits order);
    total = p.sums ∙ sym q.sums;
  };
  put_header = λ room order clusters. equal_results_in_room (length (line_of (plan_header order clusters))) (put room 0 (line_of (plan_header order clusters)));
  put_cluster = λ room at cluster start len tag. equal_results_in_room (at + length (line_of (cluster_line cluster start len tag))) (put room at (line_of (cluster_line cluster start len tag)));
  write = λ s room. equal_results_in_room (written (checked s) (text_of s) (length room)) (written_room (checked s) (text_of s) room);
  plan_accepted = λ s room. equal_results_in_room (outcome_answer s (plan_of (site_of s)) (length room)) (outcome_room s (plan_of (site_of s)) room);
  plan = λ s room. equal_results_in_room (answer s (length room)) (room_after s room);
  header_line = λ r. equal_results (header_in r);
  front_line = λ rest. equal_results (front_in rest);
  is_tag_whole = λ rest len. equal_results (tag_digits rest len);
  describes = λ rest len cluster. equal_results (tag_digits rest len && describes_it (take (22 + 2 * len) rest) cluster);
  permits = λ s order. equal_results (permitted order (model.periods (site_of s)));
  all_on_time = λ s order starts. equal_results (not (some_late (site_of s) order (number_in starts)));
  check_accepted = λ s plan. equal_results (plan_verdict s (rows plan));
  check_plan = λ s plan. equal_results (checked_plan s plan);
  cartheron_plan = λ text room. equal_results_in_room (plan_number text (length room)) (plan_room text room);
  cartheron_rewrite = λ text room. equal_results_in_room (rewrite_number text (length room)) (rewrite_room text room);
  cartheron_place = λ text. equal_results (place_number text);
  cartheron_check = λ text plan. equal_results (check_number text plan);
  cartheron_line_start = λ text line. equal_results (line_start_of text line);
  cartheron_line_length = λ text line. equal_results (length (line_at_of text line));
}
