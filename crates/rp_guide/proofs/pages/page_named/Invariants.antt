use Rattle.std.proofs.Common.{◌≡◌, length, map}
use Rattle.rp_guide.specs.Pages.{page_named}
use Rattle.rp_guide.proofs.pages.page_named.Given as goal

abbrev pub invariant-loop-pages : goal.invariant-loop-pages
invariant-loop-pages l = page_named (map (λ p. (p.0.now, p.1.now)) l.pages) l.name ≡ page_named (map (λ p. (p.0.now, p.1.now)) l.initial.pages) l.name

abbrev pub decreases-loop-pages : goal.decreases-loop-pages
decreases-loop-pages l = length l.pages
