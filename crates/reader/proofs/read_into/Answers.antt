-- The argument: each answer of the line reader takes one line, by the law of that answer. A cluster's tag that an earlier one has is refused; a tag of another print is
-- another tag.
use Rattle.std.specs.Prelude.{◌≡◌, refl, true, false, ◌∷◌, ℕ, ◌+◌, ◌-◌, ◌≤◌, ◌<◌, Option, Some, None, is_some, Result, Ok, Err}
use Rattle.std.proofs.Common.{sym, ap, ◌∙◌, arith, rules}
use Rattle.std.proofs.lemmas.List.{length-take}
use Rattle.std.proofs.lemmas.Result.{err_from_is_err_and}
use Rattle.hexline.specs.Lines.{Row}
use Rattle.site.specs.declared.Site.{Site}
use Rattle.site.specs.declared.Flow.{Flow}
use Rattle.site.specs.declared.Kind.{Kind}
use Rattle.site.specs.declared.Entry.TheVariants.{Cluster as ClusterLine, Flow as FlowLine}
use Rattle.site.specs.Kinds.{kind_number, some_kind}
use Rattle.site.specs.Records.{no_site, tag_taken}
use Rattle.site.specs.Table.{entry_of}
use Rattle.site.specs.TableLaws.{entry_malformed}
use Rattle.reader.specs.Reading.{with_header, with_cluster, with_flow}
use Rattle.site.specs.Told.{Told}
use Rattle.reader.specs.declared.Reading.{Reading}
use Rattle.reader.specs.ReadLaws.{entry_well_formed, ClusterIs, cluster_is, FlowIs, flow_is, header_is}
use Rattle.reader.specs.Rows.{row_of, rows_of}
use Rattle.reader.specs.RowLaws.{rows_within}
use Rattle.reader.specs.Reached.{Reached, reached_start, reached_refused, reached_header, reached_flow, reached_repeated, reached_cluster, reached_unlike, reached_tags, reached_end, reached_missing}
use Rattle.reader.proofs.read_into.Invariants.{so_far}
use Rattle.reader.proofs.read_into.Goals as goal
use Rattle.reader.proofs.read_into.Goals.{After-entry_of_line, in-Header, in-Cluster+else-not-unlike, else-not-unlike-via-then-not-unlike+else-is_taken, else-not-unlike-via-else-not-unlike, in-Flow}

pub loop-row-init : goal.loop-row-init
unfolding no_site
loop-row-init c = rw (c.into_iter-row-iterator.ensures.into_iter_gives, c.requires) (reached_start _)

-- what the reading is after a refusal, and after none
abbrev verdict_of : Reading → Result (Unit {0}) Told
verdict_of r = r.verdict

pub returns-in_default : goal.returns-in_default
returns-in_default c =
    let reached = rw c.in-Some.ensures.steps at c.loop-row.invariant in
    let bad = entry_malformed _ _ _ (row_of c.in-Some.row) (sym c.in_default.ensures.none) in
    record { verdict = ap Err c.in_line.ensures ∙ ap verdict_of (sym (reached_refused _ _ _ _ _ _ reached _ bad)); records = tt }

-- what is known of the line that was read
module _ (c : After-entry_of_line) where
  abbrev so_far_read : Site
  so_far_read = so_far c.loop-row.site c.loop-row.counts

  abbrev row : Row
  row = row_of c.in-Some.row

  reached : Reached c.args.text.now (row ∷ rows_of c.next.new.self) c.loop-row.k so_far_read c.loop-row.prints
  reached = rw c.in-Some.ensures.steps at c.loop-row.invariant

  answered : c.entry_of_line.result ≡ entry_of c.loop-row.k c.loop-row.counts.clusters c.loop-row.counts.flows row
  answered = entry_well_formed _ _ _ c.loop-row.site.clusters row _ _ (sym c.in-Some-decode.ensures.none) c.in-Some-decode.ensures.of_chars c.entry_of_line.ensures

  -- a cluster's is the second line or a later one, and its cluster has room
  module _ {p o a m : ℕ} (is : c.entry_of_line.result ≡ Ok (ClusterLine p o a m)) where
    cluster_line : ClusterIs c.loop-row.k c.loop-row.counts.clusters c.loop-row.counts.flows c.loop-row.site.clusters row p o a m
    cluster_line = cluster_is _ _ _ c.loop-row.site.clusters row p o a m (sym answered ∙ is)

    cluster_room : (1 < c.loop-row.k) × (c.loop-row.k ≤ 65)
    cluster_room = let all = c.loop-row.invariant.sized in (cluster_line.after, omega (arith, cluster_line.within, all.clusters))

  -- a flow's comes after the clusters', and its flow has room
  module _ {w : Flow} (is : c.entry_of_line.result ≡ Ok (FlowLine w)) where
    flow_line : FlowIs c.loop-row.k c.loop-row.counts.clusters c.loop-row.counts.flows c.loop-row.site.clusters row w
    flow_line = flow_is _ _ _ c.loop-row.site.clusters row w (sym answered ∙ is)

    flow_room : (1 + c.loop-row.counts.clusters < c.loop-row.k) × (c.loop-row.k ≤ 1 + c.loop-row.counts.clusters + 128)
    flow_room = let all = c.loop-row.invariant.sized in (flow_line.after, omega (arith, flow_line.within, all.flows))

pub returns-in_err-entry : goal.returns-in_err-entry
returns-in_err-entry c =
    let p = err_from_is_err_and c.from_residual.result c.from_residual.ensures.1 in
    let was : c.entry_of_line.result ≡ Err c.in_err-entry.field-0.0 = search rules in
    let bad = sym (answered (goal.at.returns-in_err-entry c).After-entry_of_line) ∙ was in
    rw (p.1, p.2) (record { verdict = ap verdict_of (sym (reached_refused _ _ _ _ _ _ (reached (goal.at.returns-in_err-entry c).After-entry_of_line) _ bad)); records = tt })

pub tag_of-tag-requires : goal.tag_of-tag-requires
tag_of-tag-requires c = let line = cluster_line (goal.at.tag_of-tag-requires c).After-entry_of_line (c.in_ok-entry.was ∙ ap Ok c.in-Cluster.is) in rw c.in-Some-decode.ensures.of_chars line.whole

pub overflow_sub-i : goal.overflow_sub-i
overflow_sub-i c = omega (arith, cluster_room (goal.at.overflow_sub-i c).After-entry_of_line (c.in_ok-entry.was ∙ ap Ok c.in-Cluster.is))

pub shared_ref_as_front-earlier : goal.shared_ref_as_front-earlier
shared_ref_as_front-earlier c = omega (arith, cluster_room (goal.at.shared_ref_as_front-earlier c).After-entry_of_line (c.in_ok-entry.was ∙ ap Ok c.in-Cluster.is), c.loop-row.invariant.sized.cluster_room)

pub slice_bounds-prints-end : goal.slice_bounds-prints-end
slice_bounds-prints-end c = omega (arith, cluster_room (goal.at.slice_bounds-prints-end c).After-entry_of_line (c.in_ok-entry.was ∙ ap Ok c.in-Cluster.is), c.loop-row.invariant.printed.room)

pub slice_bounds-unlike-end : goal.slice_bounds-unlike-end
slice_bounds-unlike-end c = omega (arith, cluster_room (goal.at.slice_bounds-unlike-end c).After-entry_of_line (c.in_ok-entry.was ∙ ap Ok c.in-Cluster.is), c.loop-row.invariant.printed.room, length-take {A = ℕ})

pub returns-then-is_taken : goal.returns-then-is_taken
returns-then-is_taken c =
    let read = (goal.at.returns-then-is_taken c).After-entry_of_line in
    let line = cluster_line read (c.in_ok-entry.was ∙ ap Ok c.in-Cluster.is) in
    let tag = rw c.in-Some-decode.ensures.of_chars at c.tag_of-tag.ensures in
    let tags = reached_tags _ _ _ _ _ _ (reached read) _ _ _ _ line c.tag_of-tag.result tag _ c.print_of-print.ensures in
    let told = reached_repeated _ _ _ _ _ _ (reached read) _ _ _ _ line c.tag_of-tag.result tag _ c.print_of-print.ensures (tags ∙ sym c.is_taken.ensures ∙ c.if-is_taken.true) in
    record { verdict = rw told (cc); records = tt }

pub offset_bounds-site-i : goal.offset_bounds-site-i
offset_bounds-site-i c = omega (arith, cluster_room (goal.at.offset_bounds-site-i c).After-entry_of_line (c.in_ok-entry.was ∙ ap Ok c.in-Cluster.is))

pub bounds-site-i : goal.bounds-site-i
bounds-site-i c = omega (arith, cluster_room (goal.at.bounds-site-i c).After-entry_of_line (c.in_ok-entry.was ∙ ap Ok c.in-Cluster.is))

pub offset_bounds-prints-i : goal.offset_bounds-prints-i
offset_bounds-prints-i c = omega (arith, cluster_room (goal.at.offset_bounds-prints-i c).After-entry_of_line (c.in_ok-entry.was ∙ ap Ok c.in-Cluster.is))

pub bounds-prints-i : goal.bounds-prints-i
bounds-prints-i c = omega (arith, cluster_room (goal.at.bounds-prints-i c).After-entry_of_line (c.in_ok-entry.was ∙ ap Ok c.in-Cluster.is))

pub overflow_sub-flow : goal.overflow_sub-flow
overflow_sub-flow c = omega (arith, flow_room (goal.at.overflow_sub-flow c).After-entry_of_line (c.in_ok-entry.was ∙ ap Ok c.in-Flow.is))

pub overflow_sub-flow-in-Flow : goal.overflow_sub-flow-in-Flow
overflow_sub-flow-in-Flow c = omega (arith, flow_room (goal.at.overflow_sub-flow-in-Flow c).After-entry_of_line (c.in_ok-entry.was ∙ ap Ok c.in-Flow.is))

pub offset_bounds-site-k : goal.offset_bounds-site-k
offset_bounds-site-k c = omega (arith, flow_room (goal.at.offset_bounds-site-k c).After-entry_of_line (c.in_ok-entry.was ∙ ap Ok c.in-Flow.is))

pub bounds-site-k : goal.bounds-site-k
bounds-site-k c = omega (arith, flow_room (goal.at.bounds-site-k c).After-entry_of_line (c.in_ok-entry.was ∙ ap Ok c.in-Flow.is))

pub loop-row-preserved : goal.loop-row-preserved
unfolding with_header with_cluster with_flow
loop-row-preserved c =
    let read = (goal.at.loop-row-preserved c).After-entry_of_line in
    elim c.match-entry.branch [
      | in-Header w ↦
          let line = header_is _ _ _ c.loop-row.site.clusters (row read) _ (sym (answered read) ∙ c.in_ok-entry.was ∙ ap Ok w.in-Header.is) in
          rw (w.site-is, w.counts-is, w.prints-is) (reached_header _ _ _ _ _ _ (reached read) _ line)
      | in-Cluster+else-not-unlike w ↦
          let line = cluster_line read (c.in_ok-entry.was ∙ ap Ok w.in-Cluster.is) in
          let tag = rw c.in-Some-decode.ensures.of_chars at w.tag_of-tag.ensures in
          let fresh : tag_taken c.loop-row.site.clusters (c.loop-row.k - 2) w.tag_of-tag.result ≡ false = elim w.else-not-unlike.branch [
            | else-not-unlike-via-then-not-unlike+else-is_taken v ↦
                reached_tags _ _ _ _ _ _ (reached read) _ _ _ _ line w.tag_of-tag.result tag _ w.print_of-print.ensures ∙ sym v.is_taken.ensures ∙ v.if-is_taken.false
            | else-not-unlike-via-else-not-unlike v ↦
                reached_unlike _ _ _ _ _ _ (reached read) _ _ _ _ line w.tag_of-tag.result tag _ w.print_of-print.ensures (sym w.unlike.ensures ∙ v.if-not-unlike.false)
          ] in
          rw (w.site-is, w.counts-is, w.prints-is) (reached_cluster _ _ _ _ _ _ (reached read) _ _ _ _ line w.tag_of-tag.result tag _ w.print_of-print.ensures fresh)
      | in-Flow w ↦
          let line = flow_line read (c.in_ok-entry.was ∙ ap Ok w.in-Flow.is) in
          rw (w.site-is, w.counts-is, w.prints-is) (rw w.from.ensures (reached_flow _ _ _ _ _ _ (reached read) _ line))
    ]

pub overflow_add-k : goal.overflow_add-k
overflow_add-k c = omega (arith, rows_within c.args.text.now, reached (goal.at.overflow_add-k c).After-entry_of_line)

some_due : (kind : Option Kind) → is_some kind ≡ true → kind_number kind ≡ 0 → ⊥
some_due (Some kind) e z = some_kind kind z
some_due None e z = cc

none_due : (kind : Option Kind) → is_some kind ≡ false → kind_number kind ≡ 0
none_due (Some kind) e = cc
none_due None e = refl

-- no line is left
pub returns : goal.returns
returns c =
    let all = none_due c.due_at.result (cc) in
    let read = reached_end _ _ _ _ _ c.loop-row.invariant c.in-None.ensures.steps.0 (sym c.due_at.ensures ∙ all) in
    record { verdict = ap verdict_of (sym read); records = ap (λ (r : Reading). r.site) (sym read) }

pub returns-then-is_some : goal.returns-then-is_some
returns-then-is_some c =
    let missing = some_due c.due_at.result (cc) in
    record {
      verdict = ap Err c.in_line-then-is_some.ensures ∙ ap verdict_of (sym (reached_missing _ _ _ _ _ c.loop-row.invariant c.in-None.ensures.steps.0 (λ e. missing (c.due_at.ensures ∙ e))));
      records = tt;
    }
