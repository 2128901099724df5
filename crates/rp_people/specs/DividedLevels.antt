-- What the critical cost efficiency index says of people (Afriat 1973): it divides the levels at which some preference
-- rationalizes what a table tells of from those at which none does.
use Rattle.std.specs.Prelude.{ℕ, ◌*◌, ◌<◌, ◌↔◌}
use Rattle.rp_evidence.specs.Garp.{MeetsGarpAt}
use Rattle.rp_evidence.specs.Input.{TableInput}
use Rattle.rp_evidence.specs.Preference.{IsLevel}
use Rattle.rp_people.specs.Rationalizing.{HasConcaveUtility, HasNonsatiatedPreference, HasPreference}
use Rattle.rp_people.specs.TableChoices.{choices_at}

-- At each level below num/den a strictly monotone and concave utility rationalizes, at each level above it, up to 1, no
-- locally nonsatiated preference does, and at num/den itself one does exactly where the index is attained: where the
-- axiom holds at it.
pub record DividesLevels (input : TableInput) (num den : ℕ) : Type 0 where
  pub utility_below : (p q : ℕ) → IsLevel p q → p * den < num * q → HasConcaveUtility (choices_at input p q)
  pub none_above : (p q : ℕ) → IsLevel p q → num * q < p * den → ¬ HasNonsatiatedPreference (choices_at input p q)
  pub nonsatiated_where_attained : HasNonsatiatedPreference (choices_at input num den)
      ↔ MeetsGarpAt input.n input.cost num den
  pub preference_where_attained : HasPreference (choices_at input num den) ↔ MeetsGarpAt input.n input.cost num den
  pub utility_where_attained : HasConcaveUtility (choices_at input num den) ↔ MeetsGarpAt input.n input.cost num den
