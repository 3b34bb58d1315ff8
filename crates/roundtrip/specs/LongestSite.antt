-- The longest site has 11,721 bytes (docs/FORMATS.md, "Site text"). A header takes 9 bytes with its LF, a cluster at most 137 and a
-- flow 23, so 64 clusters and 128 flows take at most 9 + 64 x 137 + 128 x 23.
use Rattle.std.specs.Prelude.{◌≡◌, List, [], ◌∷◌, ◌++◌, ℕ, suc, ◌*◌, ◌≤◌, ◌<◌, length, get_or, take}
use Rattle.std.proofs.Common.{ap, arith, suc-mul, length-append, length-take, get_or-take, length-take-le}
use Rattle.hexroom.specs.Listing.{lines_of}
use Rattle.hexline.specs.Digits.{line_of}
use Rattle.hexroom.specs.Room.{line-length}
use Rattle.site.specs.declared.Cluster.{Cluster}
use Rattle.site.specs.declared.Flow.{Flow}
use Rattle.site.specs.declared.Site.{Site}
use Rattle.site.specs.Records.{absent, no_flow}
use Rattle.reader.specs.Reading.{accepted, read_text}
use Rattle.writer.specs.Text.{header_bytes, cluster_bytes, flow_bytes, text_of}
use Rattle.records.specs.Checked.{checked_unrefused, counts_in, site_cluster_in, clusters_reach, flows_reach}
use Rattle.roundtrip.specs.LinesBack.{header_size, cluster_size_lem, flow_size}
use Rattle.roundtrip.specs.WriteOfRead.{write_of_read}

cluster_line_lem : (c : Cluster) → c.tag.len ≤ 64 → length (line_of (cluster_bytes c)) ≤ 137
cluster_line_lem c h = omega (arith, line-length (cluster_bytes c), cluster_size_lem c, length-take c.tag.len c.tag.bytes)

flow_line_lem : (f : Flow) → length (line_of (flow_bytes f)) ≤ 23
flow_line_lem f = omega (arith, line-length (flow_bytes f), flow_size f)

-- lines of at most `most` bytes each
lines-length : {A : Type 0} (bytes : A → List ℕ) (most : ℕ) (d : A) (xs : List A)
    → ((i : ℕ) → i < length xs → length (line_of (bytes (get_or xs i d))) ≤ most) → length (lines_of bytes xs) ≤ length xs * most
unfolding lines_of
lines-length bytes most d [] h = omega arith
lines-length bytes most d (x ∷ xs) h =
    let behind = lines-length bytes most d xs (λ i l. h (suc i) (omega arith)) in
    omega (arith, length-append (line_of (bytes x)) (lines_of bytes xs), h 0 (omega arith), suc-mul (length xs) most)

first_lines_length : {A : Type 0} (bytes : A → List ℕ) (most : ℕ) (d : A) (xs : List A) (n : ℕ) → n ≤ length xs
    → ((i : ℕ) → i < n → length (line_of (bytes (get_or xs i d))) ≤ most) → length (lines_of bytes (take n xs)) ≤ n * most
first_lines_length bytes most d xs n l h =
    let long : length (take n xs) ≡ n = length-take-le n xs l in
    rw long at (lines-length bytes most d (take n xs) (λ i p. rw (get_or-take n xs i d (omega arith)) (h i (omega arith))))

pub longest_site : (t : List ℕ) (s : Site) → read_text t ≡ accepted s → length t ≤ 11721
unfolding text_of
longest_site t s e =
    let n : ℕ = s.cluster_count in let f : ℕ = s.flow_count in
    let again = write_of_read t s e in
    let sound = checked_unrefused s again.0 in
    let counts = counts_in s sound in
    let head : List ℕ = line_of (header_bytes n f) in
    let clusters : List ℕ = lines_of cluster_bytes (take n s.clusters) in
    let flows : List ℕ = lines_of flow_bytes (take f s.flows) in
    let a : length clusters ≤ n * 137 =
    first_lines_length cluster_bytes 137 absent s.clusters n (clusters_reach s sound) (λ i l. cluster_line_lem (get_or s.clusters i absent) (site_cluster_in s sound i l).short) in
    let b : length flows ≤ f * 23 = first_lines_length flow_bytes 23 no_flow s.flows f (flows_reach s sound) (λ j l. flow_line_lem (get_or s.flows j no_flow)) in
    omega (arith, ap length again.1, length-append head (clusters ++ flows), length-append clusters flows, line-length (header_bytes n f), header_size n f)
