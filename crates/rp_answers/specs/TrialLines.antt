-- The lines of a trial: which one it is, and its verdicts without their evidence (this program's own text).
use Rattle.std.specs.Prelude.{ℕ, List, ◌++◌, codes}
use Rattle.std.specs.Fmt.{decimal}
use Rattle.rp_evidence.specs.declared.efficiency.Efficiency.{Efficiency}
use Rattle.rp_evidence.specs.declared.garp.Garp.{Garp}
use Rattle.rp_evidence.specs.declared.garp.Garp.TheVariants.{Ranks, Cycle as GarpCycle}
use Rattle.rp_evidence.specs.declared.homothetic.Homothetic.{Homothetic}
use Rattle.rp_evidence.specs.declared.homothetic.Homothetic.TheVariants.{Values as HomotheticValues}
use Rattle.rp_evidence.specs.declared.homothetic.Homothetic.TheVariants.{Cycle as HomotheticCycle, Withheld}
use Rattle.rp_evidence.specs.declared.quasilinear.Quasi.{Quasi}
use Rattle.rp_evidence.specs.declared.quasilinear.Quasi.TheVariants.{Values as QuasiValues, Cycle as QuasiCycle}
use Rattle.rp_report.specs.EfficiencyText.{index_text}
use Rattle.rp_print.specs.ListText.{line_of}

abbrev pub garp_word : Garp → List ℕ
garp_word (Ranks ranks) = codes "holds"
garp_word (GarpCycle cycle) = codes "violated"

abbrev pub homothetic_word : Homothetic → List ℕ
homothetic_word (HomotheticValues values) = codes "holds"
homothetic_word (HomotheticCycle start cycle) = codes "violated"
homothetic_word (Withheld steps from to) = codes "withheld"

abbrev pub quasilinear_word : Quasi → List ℕ
quasilinear_word (QuasiValues values) = codes "holds"
quasilinear_word (QuasiCycle cycle) = codes "violated"

-- which trial it is
abbrev pub trial_head : ℕ → ℕ → ℕ → List ℕ
trial_head seed rows goods =
    line_of (codes "trial " ++ decimal seed ++ codes " rows " ++ decimal rows ++ codes " goods " ++ decimal goods)

abbrev pub verdict_lines : Garp → Efficiency → Homothetic → Quasi → List ℕ
verdict_lines garp efficiency homothetic quasilinear =
    line_of (codes "garp " ++ garp_word garp) ++ index_text efficiency
    ++ line_of (codes "homothetic " ++ homothetic_word homothetic)
    ++ line_of (codes "quasilinear " ++ quasilinear_word quasilinear)
