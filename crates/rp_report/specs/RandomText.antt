-- The report of evidence on random choices (this program's own format; the share after Kitamura and Stoye 2018).
use Rattle.std.specs.Prelude.{ℕ, ◌*◌, List, [], ◌++◌, Option, Some, None, codes, length}
use Rattle.std.specs.List.{flat_map}
use Rattle.std.specs.Fmt.{decimal}
use Rattle.rp_num.specs.Fraction.{Fraction}
use Rattle.rp_evidence.specs.declared.certificate.Item.{Item}
use Rattle.rp_evidence.specs.declared.certificate.Item.TheVariants.{Garp as GarpItem, Afriat as AfriatItem}
use Rattle.rp_evidence.specs.declared.certificate.Item.TheVariants.{Efficiency as EfficiencyItem}
use Rattle.rp_evidence.specs.declared.certificate.Item.TheVariants.{Homothetic as HomotheticItem, Quasi as QuasiItem}
use Rattle.rp_evidence.specs.declared.certificate.Item.TheVariants.{Demand as DemandItem, Welfare as WelfareItem}
use Rattle.rp_evidence.specs.declared.certificate.Item.TheVariants.{Random as RandomItem}
use Rattle.rp_evidence.specs.declared.random.RandomPart.{RandomPart}
use Rattle.rp_evidence.specs.declared.random.RandomPart.TheVariants.{Mixture, Violated, Wide}
use Rattle.rp_patch.specs.Mixtures.{units_weight}
use Rattle.rp_patch.specs.Patches.{PatchList}
use Rattle.rp_print.specs.ListText.{line_of, ordinal_text}
use Rattle.rp_print.specs.LowestTerms.{lowest_terms}
use Rattle.rp_print.specs.MixtureText.{apportioned_text, mixture_text, violation_text}

-- what the units of the patches weigh over the denominator, as a share of the total, in lowest terms
abbrev pub share_of_units : PatchList → ℕ → List ℕ → Fraction
share_of_units p den weights = lowest_terms (units_weight p weights) (den * p.total)

-- evidence on random choices, its patches counted from 1: a mixture; or the greatest share, with the weights that show
-- it and a partial mixture that has it; or the step at which the run of the program passes its width
abbrev pub random_text : PatchList → RandomPart → List ℕ
random_text p (Mixture den parts) = mixture_text (codes "random") ordinal_text den parts
random_text p (Violated den parts weights) =
    violation_text (codes "random") ordinal_text (share_of_units p den weights) den weights parts
random_text p (Wide step) = line_of (codes "random withheld " ++ decimal step)

-- how many types are rational, where they are listed
abbrev pub types_text : Option ℕ → List ℕ
types_text (Some types) = codes " types " ++ decimal types
types_text None = codes " types unlisted"

-- the patches, of which so many types are rational
abbrev pub counts_text : PatchList → Option ℕ → List ℕ
counts_text p types = line_of (codes "budgets " ++ decimal p.budgets ++ codes " patches " ++ decimal (length p.patches)
    ++ types_text types ++ codes " total " ++ decimal p.total)

-- an item on random choices; tables have no place in this report
abbrev pub random_item_text : PatchList → Item → List ℕ
random_item_text p (GarpItem verdict) = []
random_item_text p (AfriatItem evidence) = []
random_item_text p (EfficiencyItem evidence) = []
random_item_text p (HomotheticItem verdict) = []
random_item_text p (QuasiItem verdict) = []
random_item_text p (DemandItem prices m evidence) = []
random_item_text p (WelfareItem prices of evidence) = []
random_item_text p (RandomItem total evidence) = random_text p evidence

-- the report of these items on patches of which so many types are rational
abbrev pub random_report_text : PatchList → Option ℕ → List Item → List ℕ
random_report_text p types items =
    counts_text p types ++ apportioned_text p.asked ++ flat_map (random_item_text p) items
