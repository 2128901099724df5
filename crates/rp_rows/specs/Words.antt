-- The verdicts that evidence is for, and their words (this program's own).
use Rattle.std.specs.Prelude.{ℕ, Bool, true, false, List, codes}
use Rattle.rp_evidence.specs.declared.garp.Garp.{Garp}
use Rattle.rp_evidence.specs.declared.garp.Garp.TheVariants.{Cycle, Ranks}
use Rattle.rp_evidence.specs.declared.homothetic.Homothetic.{Homothetic}
use Rattle.rp_evidence.specs.declared.homothetic.Homothetic.TheVariants as homothetic
use Rattle.rp_evidence.specs.declared.quasilinear.Quasi.{Quasi}
use Rattle.rp_evidence.specs.declared.quasilinear.Quasi.TheVariants as quasi
use Rattle.rp_rows.specs.declared.verdict.Verdict.{Verdict}
use Rattle.rp_rows.specs.declared.verdict.Verdict.TheVariants.{Holds, Violated, Withheld}

abbrev pub verdict_word : Verdict → List ℕ
verdict_word Holds = codes "holds"
verdict_word Violated = codes "violated"
verdict_word Withheld = codes "withheld"

abbrev pub yes_or_no : Bool → List ℕ
yes_or_no true = codes "yes"
yes_or_no false = codes "no"

abbrev pub garp_verdict : Garp → Verdict
garp_verdict (Ranks ranks) = Holds
garp_verdict (Cycle walk) = Violated

-- whether an index is attained, by the evidence at it
abbrev pub is_attained : Garp → Bool
is_attained (Ranks ranks) = true
is_attained (Cycle walk) = false

abbrev pub homothetic_verdict : Homothetic → Verdict
homothetic_verdict (homothetic.Values values) = Holds
homothetic_verdict (homothetic.Cycle start walk) = Violated
homothetic_verdict (homothetic.Withheld steps from to) = Withheld

abbrev pub quasilinear_verdict : Quasi → Verdict
quasilinear_verdict (quasi.Values values) = Holds
quasilinear_verdict (quasi.Cycle walk) = Violated
