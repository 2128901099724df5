use Rattle.std.proofs.Common.{◌*◌}
use Rattle.rp_table.specs.OwnLevels.{level_scale, own_by_level}
use Rattle.rp_evidence.proofs.Utilities.{as_good_or_worse, one_of_fractions, one_utility}
use Rattle.rp_evidence.proofs.afriat_laws.bundles_have_one_utility.Goals as goal

pub returns-clause-by_levels : goal.returns-clause-by_levels
returns-clause-by_levels c = λ n den levels cost utility multiplier spent some.
    one_utility n (own_by_level levels cost) utility multiplier den (λ s. level_scale levels * spent s) some

pub returns-clause-of_fractions : goal.returns-clause-of_fractions
returns-clause-of_fractions c = λ input utility multiplier bundle some. one_of_fractions input utility multiplier bundle some

pub returns-clause-as_good_or_worse : goal.returns-clause-as_good_or_worse
returns-clause-as_good_or_worse c = λ input utility multiplier bundle t some fraction. as_good_or_worse input utility multiplier bundle some t fraction
