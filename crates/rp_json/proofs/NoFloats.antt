-- The value of a certificate has no float.
use Rattle.std.proofs.Common.{◌≡◌, ◌==◌, ℕ, List, [], ◌∷◌, Bool, true, false, if◌then◌else◌, codes, refl}
use Rattle.rp_evidence.specs.declared.afriat.AfriatPart.{AfriatPart}
use Rattle.rp_evidence.specs.declared.afriat.AfriatPart.TheVariants.{Model, NoModel, Wide}
use Rattle.rp_evidence.specs.declared.certificate.Certificate.{Certificate}
use Rattle.rp_evidence.specs.declared.certificate.Item.{Item}
use Rattle.rp_evidence.specs.declared.certificate.Item.TheVariants.{Garp as GarpItem, Afriat as AfriatItem, Efficiency as EfficiencyItem, Homothetic as HomotheticItem, Quasi as QuasiItem, Demand as DemandItem, Welfare as WelfareItem, Random as RandomItem}
use Rattle.rp_evidence.specs.declared.demand.Bound.{Bound}
use Rattle.rp_evidence.specs.declared.demand.Bound.TheVariants.{Shown, Wide as WideBound}
use Rattle.rp_evidence.specs.declared.demand.DemandPart.{DemandPart}
use Rattle.rp_evidence.specs.declared.demand.DemandPart.TheVariants.{Bounds, NoModel as NoDemand}
use Rattle.rp_evidence.specs.declared.demand.GoodBounds.{GoodBounds}
use Rattle.rp_evidence.specs.declared.demand.WelfarePart.{WelfarePart}
use Rattle.rp_evidence.specs.declared.demand.WelfarePart.TheVariants.{Bounds as WelfareBounds, NoModel as NoWelfare}
use Rattle.rp_evidence.specs.declared.random.RandomPart.{RandomPart}
use Rattle.rp_evidence.specs.declared.random.RandomPart.TheVariants.{Mixture, Violated, Wide as WideRandom}
use Rattle.rp_evidence.specs.declared.random.Share.{Share}
use Rattle.rp_evidence.specs.declared.efficiency.Efficiency.{Efficiency}
use Rattle.rp_evidence.specs.declared.garp.Garp.{Garp}
use Rattle.rp_evidence.specs.declared.garp.Garp.TheVariants.{Ranks, Cycle}
use Rattle.rp_evidence.specs.declared.homothetic.Homothetic.{Homothetic}
use Rattle.rp_evidence.specs.declared.homothetic.Homothetic.TheVariants.{Values, Cycle as Falls, Withheld}
use Rattle.rp_evidence.specs.declared.quasilinear.Quasi.{Quasi}
use Rattle.rp_evidence.specs.declared.quasilinear.Quasi.TheVariants.{Values as Sums, Cycle as Negative}
use Rattle.serde_json.specs.Data.{Data, Members, member, no_members}
use Rattle.serde_json.specs.Written.{has_float, members_have_float}
use Rattle.rp_json_tests.specs.AfriatValue.{afriat_value}
use Rattle.rp_json_programs.specs.BoundValue.{bound_value, entry_value, good_value}
use Rattle.rp_json.specs.CertificateValue.{certificate_value, item_value}
use Rattle.rp_json_programs.specs.DemandValue.{demand_value, welfare_value}
use Rattle.rp_json_tests.specs.EfficiencyValue.{at_members, below_members, efficiency_value}
use Rattle.rp_json_tests.specs.GarpValue.{garp_value}
use Rattle.rp_json_tests.specs.HomotheticValue.{homothetic_value}
use Rattle.rp_json_tests.specs.QuasilinearValue.{quasilinear_value}
use Rattle.rp_json_programs.specs.RandomValue.{random_value, share_value}
use Rattle.rp_json_entries.specs.Values.{count_value, counts_value, fraction_value, list_value, natural_value, observation_value, signed_value}

-- nor has a list of values without one
no_list : {X : Type 0} (value_of : X → Data) → ((x : X) → has_float (value_of x) ≡ false) → (xs : List X) → has_float (list_value value_of xs) ≡ false
no_list value_of none [] = refl
no_list value_of none (x ∷ xs) = rw (none x) (no_list value_of none xs)

no_counts : (xs : List ℕ) → has_float (list_value count_value xs) ≡ false
no_counts xs = no_list count_value (λ _. refl) xs

no_observations : (xs : List ℕ) → has_float (list_value observation_value xs) ≡ false
no_observations xs = no_list observation_value (λ _. refl) xs

garp_has_none : (v : Garp) → has_float (garp_value v) ≡ false
garp_has_none (Ranks ranks) = rw (no_counts ranks) refl
garp_has_none (Cycle cycle) = rw (no_observations cycle) refl

afriat_has_none : (v : AfriatPart) → has_float (afriat_value v) ≡ false
afriat_has_none (Model numbers) = rw (no_list natural_value (λ _. refl) numbers.lambda, no_list signed_value (λ _. refl) numbers.u) refl
afriat_has_none (NoModel cycle) = rw (no_observations cycle) refl
afriat_has_none (Wide at) = refl

at_has_none : (at : Garp) (others : Members) → members_have_float others ≡ false → members_have_float (at_members at others) ≡ false
at_has_none (Ranks ranks) others none = rw (no_counts ranks) none
at_has_none (Cycle cycle) others none = rw (no_observations cycle) none

efficiency_has_none : (v : Efficiency) → has_float (efficiency_value v) ≡ false
efficiency_has_none v = rw (no_observations v.above) (at_has_none v.at (below_members v) (rw (no_counts v.below) refl))

homothetic_has_none : (v : Homothetic) → has_float (homothetic_value v) ≡ false
homothetic_has_none (Values values) = rw (no_list fraction_value (λ _. refl) values) refl
homothetic_has_none (Falls start steps) = rw (no_observations steps) refl
homothetic_has_none (Withheld steps from to) = refl

quasilinear_has_none : (v : Quasi) → has_float (quasilinear_value v) ≡ false
quasilinear_has_none (Sums values) = rw (no_list signed_value (λ _. refl) values) refl
quasilinear_has_none (Negative cycle) = rw (no_observations cycle) refl

no_naturals : (xs : List ℕ) → has_float (list_value natural_value xs) ≡ false
no_naturals xs = no_list natural_value (λ _. refl) xs

bound_has_none : (b : Bound) → has_float (bound_value b) ≡ false
bound_has_none (Shown value pair) = rw (no_naturals pair.x, no_list entry_value (λ _. refl) pair.y) refl
bound_has_none (WideBound step) = refl

good_has_none : (b : GoodBounds) → has_float (good_value b) ≡ false
good_has_none b = rw (bound_has_none b.lower, bound_has_none b.upper) refl

demand_has_none : (prices : List ℕ) (m : ℕ) (part : DemandPart) → has_float (demand_value prices m part) ≡ false
demand_has_none prices m (Bounds below strict inner goods) =
    rw (no_observations below, no_list good_value good_has_none goods, no_naturals inner.num, no_naturals prices, no_observations strict) refl
demand_has_none prices m (NoDemand cycle) = rw (no_observations cycle, no_naturals prices) refl

welfare_has_none : (prices : List ℕ) (of : ℕ) (part : WelfarePart) → has_float (welfare_value prices of part) ≡ false
welfare_has_none prices of (WelfareBounds upper at lower) = rw (bound_has_none lower, no_naturals prices) refl
welfare_has_none prices of (NoWelfare cycle) = rw (no_observations cycle, no_naturals prices) refl

share_has_none : (s : Share) → has_float (share_value s) ≡ false
share_has_none s = rw (no_observations s.patches) refl

random_has_none : (total : ℕ) (part : RandomPart) → has_float (random_value total part) ≡ false
random_has_none total (Mixture den parts) = rw (no_list share_value share_has_none parts) refl
random_has_none total (Violated den parts weights) = rw (no_list share_value share_has_none parts, no_naturals weights) refl
random_has_none total (WideRandom step) = refl

item_has_none : (i : Item) → has_float (item_value i) ≡ false
item_has_none (GarpItem v) = garp_has_none v
item_has_none (AfriatItem v) = afriat_has_none v
item_has_none (EfficiencyItem v) = efficiency_has_none v
item_has_none (HomotheticItem v) = homothetic_has_none v
item_has_none (QuasiItem v) = quasilinear_has_none v
item_has_none (DemandItem prices m part) = demand_has_none prices m part
item_has_none (WelfareItem prices of part) = welfare_has_none prices of part
item_has_none (RandomItem total part) = random_has_none total part

levels_have_none : (two : Bool) (levels : List ℕ) (others : Members) → members_have_float others ≡ false
    → members_have_float (if two then member (codes "levels") (counts_value levels) others else others) ≡ false
levels_have_none true levels others none = rw (no_counts levels) none
levels_have_none false levels others none = none

pub certificate_has_none : (c : Certificate) → has_float (certificate_value c) ≡ false
certificate_has_none c =
    rw (no_list item_value item_has_none c.items)
    (levels_have_none (c.version == 2) c.levels (member (codes "version") (count_value c.version) no_members) refl)
