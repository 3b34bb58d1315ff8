-- A length or a tag length that differs decides: the line's part up to its end has both where the line has them. Where they agree, the digits of the cluster's
-- tag stand in the line exactly if the line's tag has digits only and is the cluster's (`written_is_same`).
use Rattle.std.proofs.Common.{◌≡◌, sym, ap, ◌∙◌, ◌&&◌, List, ℕ, ◌+◌, ◌*◌, arith, take, eq-eqb, ne_eqb}
use borrow.Author.Tests.{eqb-true, eqb-false}
use mathlib.Core.Bool.{and-false}
use Rattle.hexline.specs.DigitLaws.{byte_taken, number_taken}
use Rattle.model.specs.Orders.{portion, length_at}
use Rattle.model.specs.OrderLaws.{order_has_length}
use Rattle.site.specs.Lines.{tag_at}
use Rattle.site.specs.Records.{same_tag}
use Rattle.planlines.specs.PlanFront.{tag_digits}
use Rattle.planlines.specs.PlanLines.{describes, cluster_length, tag_length}
use Rattle.planlines.specs.WrittenLaws.{written_is_same}
use Rattle.planlines.proofs.describes.Goals as goal
use Rattle.planlines.proofs.describes.Goals.{After-portion, then-length-portion, else-length-portion}

-- past the call of `portion`
module _ (asked : After-portion) where
  abbrev rest : List ℕ
  rest = asked.args.rest.now

  -- the line up to its end
  abbrev line : List ℕ
  line = take (22 + 2 * asked.args.len) rest

  -- the cluster's order is one, so that this is its portion's length
  portion_here : asked.portion.result ≡ portion asked.args.cluster.now.order
  portion_here = let here : asked.portion.result ≡ length_at portion asked.args.cluster.now.order = cc in here ∙ order_has_length portion asked.args.cluster.now.order asked.requires.order_le_largest.0

  -- the line has its length and its tag length before its end
  length_here : cluster_length line ≡ asked.args.length
  length_here = number_taken rest (22 + 2 * asked.args.len) 6 4 (omega arith) ∙ sym asked.requires.len_bound.1

  tag_length_here : tag_length line ≡ asked.args.len
  tag_length_here = byte_taken rest (22 + 2 * asked.args.len) 10 (omega arith) ∙ sym asked.requires.len_bound.2

pub returns-then-len-cluster : goal.returns-then-len-cluster
unfolding describes
returns-then-len-cluster c = elim c.if-length-portion.branch [
  | then-length-portion w ↦
      let asked = (goal.at.returns-then-len-cluster c).After-portion in
      let cluster = c.args.cluster.now in
      let len = c.args.len in
      let alike : cluster.tag.len ≡ len = sym (eqb-true _ _ (sym w.value-is ∙ c.if-len-cluster.true)) in
      let same : describes (line asked) cluster ≡ same_tag (tag_at (line asked) 11 len) cluster.tag =
      simp (tag_length_here asked, eq-eqb (cluster_length (line asked)) (portion cluster.order) (omega (arith, portion_here asked, length_here asked, w.if-length-portion.true))) in
      rw same
      (c.is_written.ensures
      ∙ written_is_same (rest asked) cluster.tag c.requires.order_le_largest.1 c.requires.order_le_largest.2
      ∙ ap (λ (n : ℕ). tag_digits (rest asked) n && same_tag (tag_at (take (22 + 2 * n) (rest asked)) 11 n) cluster.tag) alike)
  | else-length-portion w ↦ absurd (w.if-length-portion.false (eqb-true _ _ (sym w.value-is ∙ c.if-len-cluster.true)))
]

pub returns-else-len-cluster : goal.returns-else-len-cluster
unfolding describes same_tag tag_at
returns-else-len-cluster c =
    let asked = (goal.at.returns-else-len-cluster c).After-portion in
    let cluster = c.args.cluster.now in
    c.if-len-cluster.false ∙ elim c.if-length-portion.branch [
      | then-length-portion w ↦
          let other = eqb-false _ _ (sym w.value-is ∙ c.if-len-cluster.false) in
          simp (ne_eqb (tag_length (line asked)) cluster.tag.len (λ e. omega (arith, tag_length_here asked, other)), and-false)
      | else-length-portion w ↦ simp (ne_eqb (cluster_length (line asked)) (portion cluster.order) (λ e. omega (arith, portion_here asked, length_here asked, w.if-length-portion.false)), and-false)
    ]
