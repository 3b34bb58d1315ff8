-- Where the lengths agree, the slices that count decide.
use Rattle.std.proofs.Common.{sym, ◌∙◌, ne_eqb, rules}
use Rattle.tags.specs.TagLaws.{tags_by_slices, tags_by_length}
use Rattle.tags.proofs.same_tag.Goals as goal

pub returns-then-a-b : goal.returns-then-a-b
returns-then-a-b c = rw (c.eq.ensures, c.counted-n.ensures) (tags_by_slices c.args.a.now c.args.b.now (search rules) (search rules) c.if-a-b.true)

pub returns-else-a-b : goal.returns-else-a-b
returns-else-a-b c = ne_eqb _ _ c.if-a-b.false ∙ sym (tags_by_length c.args.a.now c.args.b.now c.if-a-b.false)
