use Rattle.std.proofs.Common.{◌≡◌, ℕ, IfOk, arith, rules, subst}
use Rattle.serde_json.specs.View.{members_view, view}
use Rattle.rp_json.specs.InnerItems.{AreLevelsBy}
use Rattle.rp_json.proofs.TopLemmas.{levels_of_object}
use Rattle.rp_json.proofs.reading.read_levels.Goals as goal

pub returns-in-1-default : goal.returns-in-1-default
returns-in-1-default c =
    let one : 1 ≡ c.args.version = omega (arith, c.in-1-default.is-0) in
    subst (λ (n : ℕ). IfOk c.read_no_levels.result (λ o. AreLevelsBy c.args.kind n (view c.args.value.now) o)) one
    (levels_of_object c.args.kind 1 (view c.args.value.now) (members_view c.in-Some.members.now.entries) c.read_no_levels.result (search rules)
    (c.read_no_levels.ensures c.args.kind))
