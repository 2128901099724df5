-- What is read of an efficiency index with its evidence.
use Rattle.std.proofs.Common.{◌≡◌, ◌≢◌, ℕ, List, All, Option, Some, None, IfSome, refl, sym, ap, subst, ◌∙◌, arith}
use Rattle.std.specs.Prelude.{⊤}
use Rattle.serde_json.specs.Data.{Data}
use Rattle.rp_num.specs.Fraction.{Fraction}
use Rattle.rp_num.specs.Spelled.{IsReduced}
use Rattle.rp_evidence.specs.declared.efficiency.Efficiency.{Efficiency}
use Rattle.rp_evidence.specs.declared.garp.Garp.{Garp}
use Rattle.rp_evidence.specs.declared.garp.Garp.TheVariants.{Ranks, Cycle}
use Rattle.rp_evidence.specs.declared.level.Level.{Level}
use Rattle.rp_json_tests.specs.EfficiencyValue.{efficiency_value, level_value}
use Rattle.rp_json_entries.specs.Reading.{FitObservations, FitsCount, FitsLong, IsFound}
use Rattle.rp_json_tests.specs.Limits.{FitsEfficiency, FitsLevel}
use Rattle.rp_json_entries.specs.Values.{fraction_value}
use Rattle.rp_json_entries.proofs.ShapeDifferences.{differ, late_letter}

-- a walk above, ranks or a cycle at the index, ranks below it and the level
abbrev pub Form : Type 0
Form = List ℕ × (List ℕ × (List ℕ × (Unit {0} × (Level × Unit {0}))))

abbrev pub made_attained : Form → Efficiency
made_attained x = record { level = x.1.1.1.1.0; below = x.1.1.0; above = x.0; at = Ranks x.1.0 }

abbrev pub made_missed : Form → Efficiency
made_missed x = record { level = x.1.1.1.1.0; below = x.1.1.0; above = x.0; at = Cycle x.1.0 }

abbrev pub value_attained : Form → Data
value_attained x = efficiency_value (made_attained x)

abbrev pub value_missed : Form → Data
value_missed x = efficiency_value (made_missed x)

abbrev pub Fits_attained : Form → Type 0
Fits_attained x = FitObservations x.0 × (All FitsCount x.1.0 × (All FitsCount x.1.1.0 × (⊤ × (FitsLevel x.1.1.1.1.0 × ⊤))))

abbrev pub Fits_missed : Form → Type 0
Fits_missed x = FitObservations x.0 × (FitObservations x.1.0 × (All FitsCount x.1.1.0 × (⊤ × (FitsLevel x.1.1.1.1.0 × ⊤))))

pub found_attained : (d : Data) (x : Form) → IsFound value_attained Fits_attained d (Some x) → IsFound efficiency_value FitsEfficiency d (Some (made_attained x))
found_attained d x r = (r.0, (r.1.0, r.1.1.0, r.1.1.1.0, r.1.1.1.1.1.0), λ y. go y.level y.below y.above y.at)
  where
    go : (level : Level) (below above : List ℕ) (at : Garp) → FitsEfficiency (record { level = level; below = below; above = above; at = at })
        → efficiency_value (record { level = level; below = below; above = above; at = at }) ≡ d → record { level = level; below = below; above = above; at = at } ≡ made_attained x
    go level below above (Ranks ranks) h e = ap made_attained (r.2 (above, (ranks, (below, (tt, (level, tt))))) (h.0, (h.1, (h.2, (tt, (h.3, tt))))) e)
    go level below above (Cycle walk) h e = absurd (differ late_letter _ _ (e ∙ sym r.0) (λ q. omega (arith, q)))

pub found_missed : (d : Data) (x : Form) → IsFound value_attained Fits_attained d None → IsFound value_missed Fits_missed d (Some x) → IsFound efficiency_value FitsEfficiency d (Some (made_missed x))
found_missed d x none r = (r.0, (r.1.0, r.1.1.0, r.1.1.1.0, r.1.1.1.1.1.0), λ y. go y.level y.below y.above y.at)
  where
    go : (level : Level) (below above : List ℕ) (at : Garp) → FitsEfficiency (record { level = level; below = below; above = above; at = at })
        → efficiency_value (record { level = level; below = below; above = above; at = at }) ≡ d → record { level = level; below = below; above = above; at = at } ≡ made_missed x
    go level below above (Ranks ranks) h e = absurd (none (above, (ranks, (below, (tt, (level, tt))))) (h.0, (h.1, (h.2, (tt, (h.3, tt))))) e)
    go level below above (Cycle walk) h e = ap made_missed (r.2 (above, (walk, (below, (tt, (level, tt))))) (h.0, (h.1, (h.2, (tt, (h.3, tt))))) e)

pub found_none : (d : Data) → IsFound value_attained Fits_attained d None → IsFound value_missed Fits_missed d None → IsFound efficiency_value FitsEfficiency d None
found_none d none_attained none_missed y = go y.level y.below y.above y.at
  where
    go : (level : Level) (below above : List ℕ) (at : Garp) → FitsEfficiency (record { level = level; below = below; above = above; at = at })
        → efficiency_value (record { level = level; below = below; above = above; at = at }) ≢ d
    go level below above (Ranks ranks) h e = none_attained (above, (ranks, (below, (tt, (level, tt))))) (h.0, (h.1, (h.2, (tt, (h.3, tt))))) e
    go level below above (Cycle walk) h e = none_missed (above, (walk, (below, (tt, (level, tt))))) (h.0, (h.1, (h.2, (tt, (h.3, tt))))) e

-- ---- the level

abbrev fraction_of : Level → Fraction
fraction_of level = record { num = level.num; den = level.den }

abbrev level_of : Fraction → Level
level_of f = record { num = f.num; den = f.den }

pub level_found : (d : Data) (f : Fraction) (level : Level) → IsFound fraction_value IsReduced d (Some f) → (level.num ≡ f.num) × (level.den ≡ f.den)
    → FitsLong level.num × FitsLong level.den → IsFound level_value FitsLevel d (Some level)
level_found d f level r same fits =
    let whole : fraction_of level ≡ f = λ i. record { num = same.0 i; den = same.1 i } in
    (ap fraction_value whole ∙ r.0, (subst IsReduced (sym whole) r.1, fits.0, fits.1), λ y h e. ap level_of (r.2 (fraction_of y) h.0 e ∙ sym whole))

pub no_level : (d : Data) (f : Fraction) → IsFound fraction_value IsReduced d (Some f) → ¬ (FitsLong f.num × FitsLong f.den) → IsFound level_value FitsLevel d None
no_level d f r long y h e =
    let whole : fraction_of y ≡ f = r.2 (fraction_of y) h.0 e in
    long (subst (λ g. FitsLong g.num × FitsLong g.den) whole (h.1, h.2))

pub no_fraction : (d : Data) → IsFound fraction_value IsReduced d None → IsFound level_value FitsLevel d None
no_fraction d none y h e = none (fraction_of y) h.0 e

pub level_read : (d : Data) (f : Fraction) (o : Option Level) → IsFound fraction_value IsReduced d (Some f)
    → IfSome o (λ level. (level.num ≡ f.num) × (level.den ≡ f.den)) → IfSome o (λ level. FitsLong level.num × FitsLong level.den)
    → (o ≡ None → ¬ (FitsLong f.num × FitsLong f.den)) → IsFound level_value FitsLevel d o
level_read d f (Some level) r same fits none = level_found d f level r same fits
level_read d f None r same fits none = no_level d f r (none refl)
