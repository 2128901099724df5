use Rattle.std.proofs.Common.{All, IsUtf8, map, take}
use Rattle.rp_outside.specs.NamedFile.{named_bytes}
use Rattle.rp_frame.proofs.FileLemmas.{IsNamedTo}
use Rattle.rp_frame.proofs.texts.files_of.Given as goal

abbrev pub invariant-loop-place : goal.invariant-loop-place
invariant-loop-place l =
    IsNamedTo (map (λ name. name.now) l.names) (map (λ part. part.now) l.parts) l.place (map named_bytes l.files.items)
    × All IsUtf8 (map (λ name. name.now) (take l.place l.names))
