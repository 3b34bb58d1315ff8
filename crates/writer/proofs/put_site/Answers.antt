-- The size is the text's length, so a shorter room is refused as it stands, and in any other the three parts
-- of the text fit one behind the other.
use Rattle.std.proofs.Common.{◌≡◌, ◌+◌, ◌≤◌, ◌<◌, length, arith, sym, ap, ◌∙◌, Ok, le-leb}
use Rattle.std.proofs.lemmas.Bool.{lt-leb}
use Rattle.hexroom.specs.Room.{put_handed, short_handed}
use Rattle.writer.specs.Text.{text_of}
use Rattle.writer.specs.TextLaws.{header-length, text-length, text_put}
use Rattle.writer.proofs.put_site.Goals as goal
use Rattle.writer.proofs.put_site.Goals.{After-size_of-2}

size : (c : After-size_of-2) → 9 + c.size_of.result + c.size_of-2.result ≡ length (text_of c.args.records.site.now)
size c =
    let site = c.args.records.site.now in
    let clusters = rw c.clusters-clusters.ensures.clusters at c.size_of.ensures.0 in
    let flows = rw c.flows-flows.ensures.flows at c.size_of-2.ensures.0 in
    omega (arith, text-length site, header-length site.cluster_count site.flow_count, clusters, flows)

fits : (c : After-size_of-2) → 9 + c.size_of.result + c.size_of-2.result ≤ length c.args.room.now → length (text_of c.args.records.site.now) ≤ length c.args.room.now
fits c enough = omega (arith, size c)

pub returns-then-room-size : goal.returns-then-room-size
returns-then-room-size c =
    let room = c.args.room.now in
    let text = text_of c.args.records.site.now in
    let short : length room < length text = omega (arith, c.if-room-size.true, size (goal.at.returns-then-room-size c).After-size_of-2) in
    (rw (c.in_line.ensures, lt-leb _ _ short), sym (short_handed room text short))

pub put_header-behind_header-requires : goal.put_header-behind_header-requires
put_header-behind_header-requires c = omega (arith, fits (goal.at.put_header-behind_header-requires c).After-size_of-2 c.if-room-size.false, text-length c.args.records.site.now)

pub put_rows-behind_clusters-requires : goal.put_rows-behind_clusters-requires
put_rows-behind_clusters-requires c =
    rw c.clusters-clusters.ensures.clusters (omega (arith, fits (goal.at.put_rows-behind_clusters-requires c).After-size_of-2 c.if-room-size.false, text-length c.args.records.site.now, c.put_header-behind_header.ensures.0, c.put_header-behind_header.auto.room))

pub put_rows-requires : goal.put_rows-requires
put_rows-requires c =
    let clusters = rw c.clusters-clusters.ensures.clusters at c.put_rows-behind_clusters.ensures in
    rw c.flows-flows.ensures.flows (omega (arith, fits (goal.at.put_rows-requires c).After-size_of-2 c.if-room-size.false, text-length c.args.records.site.now, c.put_header-behind_header.ensures.0, c.put_header-behind_header.auto.room, clusters.0, c.put_rows-behind_clusters.auto.room))

pub returns : goal.returns
returns c =
    let site = c.args.records.site.now in
    let room = c.args.room.now in
    let fit = fits (goal.at.returns c).After-size_of-2 c.if-room-size.false in
    let header = c.put_header-behind_header.ensures in
    let clusters = rw c.clusters-clusters.ensures.clusters at c.put_rows-behind_clusters.ensures in
    let flows = rw c.flows-flows.ensures.flows at c.put_rows.ensures in
    let end : c.put_rows.result ≡ length (text_of site) = omega (arith, text-length site, header.0, clusters.0, flows.0) in
    (rw (le-leb _ _ fit) (ap Ok end), rw (flows.1, clusters.1, header.1) (text_put site room _ _ header.0 clusters.0) ∙ put_handed room (text_of site) fit)
