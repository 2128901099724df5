-- The report of random choices at worked values.
use Rattle.std.proofs.Common.{◌≡◌, ℕ, [], ◌∷◌, refl, Some, None, Option}
use Rattle.std.specs.Fmt.{digits}
use Rattle.std.specs.Prelude.{codes, pos, negsuc}
use Rattle.rp_evidence.specs.declared.certificate.Item.TheVariants.{Random as RandomItem}
use Rattle.rp_evidence.specs.declared.random.RandomPart.TheVariants.{Mixture, Violated, Wide}
use Rattle.rp_evidence.specs.declared.random.Share.{Share}
use Rattle.rp_patch.specs.Patches.{PatchList}
use Rattle.rp_report.specs.RandomText.{random_report_text}

-- two budgets that cross, with these units of the patches on the one and on the other
abbrev crossed : ℕ → ℕ → ℕ → ℕ → ℕ → Option ℕ → PatchList
crossed first second third fourth total asked = record {
  budgets = 2;
  patches = record { budget = 0; signs = pos 0 ∷ pos 1 ∷ []; units = first }
      ∷ record { budget = 0; signs = pos 0 ∷ negsuc 0 ∷ []; units = second }
      ∷ record { budget = 1; signs = pos 1 ∷ pos 0 ∷ []; units = third }
      ∷ record { budget = 1; signs = negsuc 0 ∷ pos 0 ∷ []; units = fourth }
      ∷ [];
  total = total;
  asked = asked;
}

abbrev part : ℕ → ℕ → ℕ → Share
part first second weight = record { patches = first ∷ second ∷ []; weight = weight }

a_share_of_three_quarters : random_report_text (crossed 1 3 2 2 4 None) (Some 3) (RandomItem 4 (Violated 1 (part 0 3 1 ∷ part 1 2 2 ∷ []) (1 ∷ 0 ∷ 1 ∷ 0 ∷ [])) ∷ [])
    ≡ codes "budgets 2 patches 4 types 3 total 4\nrandom violated share 3/4\nweights 1 0 1 0 over 1\npart 1 4 weight 1\npart 2 3 weight 2\n"
unfolding digits
a_share_of_three_quarters = refl

a_mixture : random_report_text (crossed 3 1 2 2 4 None) (Some 3) (RandomItem 4 (Mixture 1 (part 0 2 1 ∷ part 0 3 2 ∷ part 1 2 1 ∷ [])) ∷ [])
    ≡ codes "budgets 2 patches 4 types 3 total 4\nrandom mixture over 1\npart 1 3 weight 1\npart 1 4 weight 2\npart 2 3 weight 1\n"
unfolding digits
a_mixture = refl

a_unit_and_a_step : random_report_text (crossed 1 3 2 2 4 (Some 4)) (Some 3) (RandomItem 4 (Wide 7) ∷ [])
    ≡ codes "budgets 2 patches 4 types 3 total 4\napportioned per 4\nrandom withheld 7\n"
unfolding digits
a_unit_and_a_step = refl

types_that_are_not_listed : random_report_text (crossed 3 1 2 2 4 None) None (RandomItem 4 (Wide 7) ∷ [])
    ≡ codes "budgets 2 patches 4 types unlisted total 4\nrandom withheld 7\n"
unfolding digits
types_that_are_not_listed = refl
