use Rattle.std.proofs.Common.{◌≡◌, drop, map}
use Rattle.rp_outside.specs.Files.{bytes_under}
use Rattle.rp_outside.specs.NamedFile.{named_bytes}
use Rattle.rp_frame.proofs.files.bytes_of.Given as goal

abbrev pub invariant-loop-file : goal.invariant-loop-file
invariant-loop-file l =
    bytes_under (map named_bytes (drop l.file-index l.files)) l.name ≡ bytes_under (map named_bytes l.files) l.name
