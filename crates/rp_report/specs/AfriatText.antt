-- The lines of evidence by Afriat's theorem (this program's own format).
use Rattle.std.specs.Prelude.{ℕ, List, ◌++◌, codes}
use Rattle.rp_evidence.specs.declared.afriat.AfriatPart.{AfriatPart}
use Rattle.rp_evidence.specs.declared.afriat.AfriatPart.TheVariants.{Model, NoModel, Wide}
use Rattle.rp_print.specs.ListText.{line_of, numbers_text, ordinal_text, ordinals_text, sums_text}

-- the numbers of a model, or the violation for which there is none, or where a number passed its width
abbrev pub afriat_text : AfriatPart → List ℕ
afriat_text (Model numbers) = line_of (codes "afriat model") ++ line_of (codes "utility " ++ sums_text numbers.u)
    ++ line_of (codes "lambda " ++ numbers_text numbers.lambda)
afriat_text (NoModel cycle) = line_of (codes "afriat none") ++ line_of (codes "cycle " ++ ordinals_text cycle)
afriat_text (Wide at) = line_of (codes "afriat withheld at " ++ ordinal_text at)
