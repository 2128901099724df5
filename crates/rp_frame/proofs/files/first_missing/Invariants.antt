use Rattle.std.proofs.Common.{◌≢◌, ◌<◌, ℕ, [], None, map, slice_index_or}
use Rattle.rp_outside.specs.Files.{bytes_under}
use Rattle.rp_outside.specs.NamedFile.{named_bytes}
use Rattle.rp_frame.proofs.files.first_missing.Given as goal

abbrev pub invariant-loop-place : goal.invariant-loop-place
invariant-loop-place l =
    (j : ℕ) → j < l.place → bytes_under (map named_bytes l.files) (slice_index_or (map (λ name. name.now) l.names) j []) ≢ None
