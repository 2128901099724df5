use Rattle.std.proofs.Common.{◌≡◌, ◌+◌, ◌++◌, ◌∙◌, ap, sym, subst, arith}
use Rattle.std.specs.Fmt.{decimal}
use Rattle.rp_table.specs.Names.{IsName}
use Rattle.rp_answers.specs.TrialTable.{good_name}
use Rattle.rp_answers.proofs.TrialLemmas.{good_name_is}
use Rattle.rp_answers.proofs.trial.table.good_names.Goals as goal

pub new-requires : goal.new-requires
new-requires c =
    let same : c.from.result ≡ c.loop-g.g = c.from.ensures in
    let is : c.print_u128.new.out.items ≡ good_name c.loop-g.g =
    c.in_ok-print_u128.ensures.ok ∙ ap (λ t. t ++ decimal (c.from.result + 1)) c.in_ok-bytes.ensures.items ∙ ap good_name same in
    subst IsName (sym is) (good_name_is c.loop-g.g (omega arith))
