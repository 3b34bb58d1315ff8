-- A tag as it stands in a cluster line's bytes.
use Rattle.std.specs.Prelude.{List, ℕ, ◌+◌, get_or, replicate}
use Rattle.hexline.specs.Loops.{filled}

-- the 64 bytes behind the first four
unfoldable pub tag_bytes : List ℕ → List ℕ
tag_bytes b = filled (λ i. get_or b (4 + i) 0) (replicate 64 0) 64
