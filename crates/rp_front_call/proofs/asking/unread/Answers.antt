use Rattle.std.proofs.Common.{◌≡◌, ◌++◌, ◌∙◌, ℕ, List, append_assoc, codes, refl}
use Rattle.rp_front_call.proofs.asking.unread.Goals as goal

joined : (program colon file failed : List ℕ) → ((program ++ colon) ++ file) ++ failed ≡ program ++ (colon ++ (file ++ failed))
joined program colon file failed = simp append_assoc

pub returns : goal.returns
returns g c = record {
  ends = refl;
  silent = c.new.ensures.items;
  tells = rw (c.name.ensures) at (c.in_ok-told.ensures ∙ joined c.name.result.now (codes ": ") c.args.name.now (codes ": read failed\n"));
}
