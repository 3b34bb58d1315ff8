-- The tests stand in the order of their numbers, and each return is the law of the test that led there.
use Rattle.std.specs.Prelude.{◌≡◌}
use Rattle.std.proofs.Common.{sym, ap, ◌∙◌, arith}
use Rattle.hexline.specs.LineLaws.{well_formed}
use Rattle.site.specs.Kinds.{first_byte, kind_number, some_kind}
use Rattle.site.specs.TableLaws.{due_cluster, entry_none_due, entry_other_kind, entry_fields, header_alone, cluster_alone}
use Rattle.site.specs.Table.{due}
use Rattle.site.proofs.line.entry_of_line.Goals as goal
use Rattle.site.proofs.line.entry_of_line.Goals.{After-byte}

pub returns-in_default : goal.returns-in_default
returns-in_default c = let due = sym c.due_at.ensures ∙ ap kind_number c.in_default.is in
    rw c.in_line.ensures (sym (entry_none_due c.args.k c.args.counts.clusters c.args.counts.flows _ c.args.formed.now.well_formed due))

pub byte-requires : goal.byte-requires
byte-requires c = let is = well_formed 136 _ c.args.formed.now.well_formed in omega (arith, is.some, is.even)

-- past the test of the kind
module _ (c : After-byte) where
  kind_due : due c.args.k c.args.counts.clusters c.args.counts.flows ≡ first_byte c.in-Some.kind
  kind_due = sym c.due_at.ensures ∙ ap kind_number c.in-Some.is

pub returns-then-byte-first_byte : goal.returns-then-byte-first_byte
returns-then-byte-first_byte c = let due = kind_due (goal.at.returns-then-byte-first_byte c).After-byte in
    let other = rw (c.byte.ensures, c.first_byte.ensures) at c.if-byte-first_byte.true in
    rw c.in_line-then-byte-first_byte.ensures (sym (entry_other_kind c.args.k c.args.counts.clusters c.args.counts.flows _ c.args.formed.now.well_formed (λ z. some_kind _ (sym due ∙ z)) (λ b. other (b ∙ due))))

pub cluster_line-requires : goal.cluster_line-requires
cluster_line-requires c = due_cluster c.args.k c.args.counts.clusters c.args.counts.flows (sym c.due_at.ensures ∙ ap kind_number c.in-Some.is ∙ ap first_byte c.in-Cluster.is)

pub returns-in-Header : goal.returns-in-Header
returns-in-Header c = let due = sym c.due_at.ensures ∙ ap kind_number c.in-Some.is ∙ ap first_byte c.in-Header.is in
    let first = sym c.byte.ensures ∙ c.if-byte-first_byte.false ∙ c.first_byte.ensures ∙ ap first_byte c.in-Header.is in
    c.header_line.ensures ∙ sym (header_alone c.args.k c.args.counts.clusters _) ∙ sym (entry_fields c.args.k c.args.counts.clusters c.args.counts.flows _ c.args.formed.now.well_formed 1 due (λ z. omega arith) first)

pub returns-in-Cluster : goal.returns-in-Cluster
returns-in-Cluster c = let due = sym c.due_at.ensures ∙ ap kind_number c.in-Some.is ∙ ap first_byte c.in-Cluster.is in
    let first = sym c.byte.ensures ∙ c.if-byte-first_byte.false ∙ c.first_byte.ensures ∙ ap first_byte c.in-Cluster.is in
    c.cluster_line.ensures ∙ sym (cluster_alone c.args.k c.args.counts.clusters _) ∙ sym (entry_fields c.args.k c.args.counts.clusters c.args.counts.flows _ c.args.formed.now.well_formed 2 due (λ z. omega arith) first)

pub returns-in-Flow : goal.returns-in-Flow
returns-in-Flow c = let due = sym c.due_at.ensures ∙ ap kind_number c.in-Some.is ∙ ap first_byte c.in-Flow.is in
    let first = sym c.byte.ensures ∙ c.if-byte-first_byte.false ∙ c.first_byte.ensures ∙ ap first_byte c.in-Flow.is in
    c.flow_line.ensures ∙ sym (entry_fields c.args.k c.args.counts.clusters c.args.counts.flows _ c.args.formed.now.well_formed 3 due (λ z. omega arith) first)
