-- The whole certificate: what is found for its items, put together.
use Rattle.std.proofs.Common.{◌≡◌, ◌<◌, ◌||◌, ℕ, zero, suc, Bool, List, [], ◌∷◌, Ok, All, arith, inl, inr, length, refl, sym, subst, take, slice_index_or, sum_by}
use Rattle.std.proofs.lemmas.List.{get_or_default}
use Rattle.rp_agreement.specs.ReadBack.{IsReadBack}
use Rattle.rp_agreement.proofs.SameValues.{text_read_back}
use Rattle.rp_check.specs.CheckVerdict.{IsCheckVerdict, IsCheckVerdictOnItems}
use Rattle.rp_check.specs.ItemFailure.{ItemFails, one_shows_garp, shows_garp}
use Rattle.rp_check.specs.declared.verdict.Verdict.TheVariants.{Accepted}
use Rattle.rp_check.proofs.SoundItems.{all_prove}
use Rattle.rp_clauses.proofs.SoundTests.{homothetic_proves}
use Rattle.rp_evidence.specs.Input.{TableInput, input_of_table}
use Rattle.rp_evidence.specs.Kinds.{IsCertificateOf, IsOfKind}
use Rattle.rp_evidence.specs.Proves.{Proves}
use Rattle.rp_evidence.specs.Withheld.{withheld_in}
use Rattle.rp_evidence.specs.declared.certificate.Certificate.{Certificate}
use Rattle.rp_evidence.specs.declared.certificate.Item.{Item}
use Rattle.rp_evidence.specs.declared.certificate.Item.TheVariants.{Garp as GarpItem, Afriat as AfriatItem, Efficiency as EfficiencyItem, Homothetic as HomotheticItem, Quasi as QuasiItem, Demand as DemandItem, Welfare as WelfareItem, Random as RandomItem}
use Rattle.rp_evidence.specs.declared.certificate.Kind.TheVariants.{Table}
use Rattle.rp_evidence.specs.declared.demand.DemandPart.{DemandPart}
use Rattle.rp_evidence.specs.declared.demand.DemandPart.TheVariants.{Bounds, NoModel}
use Rattle.rp_evidence.specs.declared.demand.GoodBounds.{GoodBounds}
use Rattle.rp_evidence.specs.declared.demand.WelfarePart.{WelfarePart}
use Rattle.rp_evidence.specs.declared.demand.WelfarePart.TheVariants.{Bounds as WelfareBounds, NoModel as NoWelfare}
use Rattle.rp_evidence.specs.DemandEvidence.{withheld_bound}
use Rattle.rp_evidence.specs.Homothetic.{withheld_homothetic}
use Rattle.rp_evidence.specs.declared.homothetic.Homothetic.{Homothetic}
use Rattle.rp_evidence.specs.declared.homothetic.Homothetic.TheVariants.{Values, Cycle, Withheld}
use Rattle.rp_json.specs.Denoted.{FitsKind, IsDenoted, IsReadable}
use Rattle.rp_people.proofs.FullTables.{table_is_full}
use Rattle.rp_people.proofs.SaysOfItems.{all_say, says}
use Rattle.rp_table.specs.Tables.{IsTable, Observations}
use Rattle.rp_filled.specs.Filled.{AreFilledEach, IsFilledCertificate, IsFilledDemand, IsFilledGood, IsFilledItem, IsFilledVerdict, IsFilledWelfare}
use Rattle.rp_filled.specs.InnerFound.{ArePaired, IsFoundHomothetic, IsFoundItem, ItemsPass}
use Rattle.rp_filled.proofs.FoundLemmas.{stays}

-- a certificate that is read back is within the limits
pub readable : (c : Certificate) → IsReadBack Table c → IsReadable Table c
readable c back = back.denotes.2.1

-- and one that bytes denote is read back from its own text
pub denoted_read_back : (bytes : List ℕ) (c : Certificate) → IsDenoted Table bytes (Ok c) → IsReadBack Table c
denoted_read_back bytes c denoted = text_read_back Table c denoted.2.1

-- nothing is found wrong with any of its items
pub items_pass : (input : TableInput) (levels : List ℕ) (items : List Item) → IsCheckVerdict input levels items Accepted → ItemsPass input items
items_pass input levels items (inl wrong) k d l = absurd wrong
items_pass input levels items (inr passed) k d l = (one_shows_garp (take k items), passed.1 k l d)

-- ---- the same items

good_stays : (bounds : GoodBounds) → IsFilledGood bounds bounds
good_stays bounds = record { lower = stays withheld_bound bounds.lower; upper = stays withheld_bound bounds.upper }

module _ {A : Type 0} (IsFilled : A → A → Type 0) (stay : (a : A) → IsFilled a a) where
  each_stays : (xs : List A) → AreFilledEach IsFilled xs xs
  each_stays xs =
      record { one_each = refl; each = λ k d e l. subst (λ (x : A). IsFilled (slice_index_or xs k d) x) (get_or_default xs k d e l) (stay (slice_index_or xs k d)) }

demand_stays : (part : DemandPart) → IsFilledDemand part part
demand_stays (Bounds below strict inner goods) = (goods, refl, each_stays IsFilledGood good_stays goods)
demand_stays (NoModel walk) = refl

welfare_stays : (part : WelfarePart) → IsFilledWelfare part part
welfare_stays (WelfareBounds upper at lower) = (lower, refl, stays withheld_bound lower)
welfare_stays (NoWelfare walk) = refl

pub item_same : (item : Item) → IsFilledItem item item
item_same (HomotheticItem verdict) = (verdict, refl, stays withheld_homothetic verdict)
item_same (DemandItem prices m part) = (part, refl, demand_stays part)
item_same (WelfareItem prices of part) = (part, refl, welfare_stays part)
item_same (GarpItem verdict) = refl
item_same (AfriatItem part) = refl
item_same (EfficiencyItem evidence) = refl
item_same (QuasiItem verdict) = refl
item_same (RandomItem total part) = refl

-- ---- items that are found pass and can be read back

shows_alike : (k : ℕ) (xs ys : List Item) → length ys ≡ length xs → ((j : ℕ) (d e : Item) → j < length xs → shows_garp (slice_index_or ys j e) ≡ shows_garp (slice_index_or xs j d))
    → one_shows_garp (take k ys) ≡ one_shows_garp (take k xs)
shows_alike zero xs ys n each = refl
shows_alike (suc k) [] [] n each = refl
shows_alike (suc k) [] (y ∷ ys) n each = absurd (omega (arith, n))
shows_alike (suc k) (x ∷ xs) [] n each = absurd (omega (arith, n))
shows_alike (suc k) (x ∷ xs) (y ∷ ys) n each =
    let here = each 0 x y (omega arith) in
    let rest = shows_alike k xs ys (omega (arith, n)) (λ j d e l. each (suc j) d e (omega arith)) in
    λ i. here i || rest i

module _ (input : TableInput) (stated found : List Item) (are : ArePaired (λ k. IsFoundItem input) stated found) where
  pub found_pass : IsCheckVerdictOnItems input stated Accepted → IsCheckVerdictOnItems input found Accepted
  found_pass pass k l other =
      let within : k < length stated = omega (arith, l, are.one_each) in
      subst (λ (shown : Bool). ItemFails input shown (slice_index_or found k other) (Ok tt)) (sym (shows_alike k stated found are.one_each (λ j d e within. (are.each j d e within).shows)))
      ((are.each k other other within).passes (one_shows_garp (take k stated)) (pass k within other))

  pub found_fit : All (FitsKind Table) stated → All (FitsKind Table) found
  found_fit fit k d l = let within : k < length stated = omega (arith, l, are.one_each) in (are.each k d d within).fits (fit k d within)

  pub found_filled : AreFilledEach IsFilledItem stated found
  found_filled = record { one_each = are.one_each; each = λ k d e l. (are.each k d e l).from_stated }

-- ---- the certificate

-- none of its items is of another kind
pub certificate_of_table : (c : Certificate) → IsReadBack Table c → IsCertificateOf Table c
certificate_of_table c back = ((readable c back).of_kind, λ k d l. ((readable c back).items k d l).0)

-- an item that may be read back from a certificate on a table may stand in one
of_table : (items : List Item) → All (FitsKind Table) items → All (IsOfKind Table) items
of_table items fit k d l = (fit k d l).0

module _ (table : Observations) (valid : IsTable table) where
  abbrev input : TableInput
  input = input_of_table table

  -- items of which nothing is found wrong prove their verdicts, and say so of people
  items_prove : (items : List Item) → All (IsOfKind Table) items → IsCheckVerdictOnItems input items Accepted → All (Proves input) items
  items_prove items kinds pass k d l = (all_prove input (λ s s_in. (table_is_full table valid).positive_costs s s s_in s_in) items kinds (length items) (omega arith) (λ j below. pass j below)).0 k d l

  -- the homothetic verdict alone
  pub verdict_filled : (stated found : Homothetic) → Proves input (HomotheticItem stated) → IsFoundHomothetic input stated found → IsFilledVerdict input stated found
  verdict_filled stated found proves is =
      let true_of : Proves input (HomotheticItem found) = found_proves stated proves is in
      record { from_stated = is.from_stated; proves = true_of; says = says input (table_is_full table valid) (HomotheticItem found) true_of }
    where
      found_proves : (stated : Homothetic) → Proves input (HomotheticItem stated) → IsFoundHomothetic input stated found → Proves input (HomotheticItem found)
      found_proves (Values values) proves is = subst (λ (h : Homothetic). Proves input (HomotheticItem h)) (sym (is.from_stated.same refl)) proves
      found_proves (Cycle start steps) proves is = subst (λ (h : Homothetic). Proves input (HomotheticItem h)) (sym (is.from_stated.same refl)) proves
      found_proves (Withheld steps from to) proves is = homothetic_proves input.n input.cost found (is.passes tt)

  module _ (stated : Certificate) (accepted : IsCheckVerdict input stated.levels stated.items Accepted) (back : IsReadBack Table stated) where
    pass_on : IsCheckVerdict input stated.levels stated.items Accepted → IsCheckVerdictOnItems input stated.items Accepted
    pass_on (inl wrong) = absurd wrong
    pass_on (inr passed) = passed.1

    stated_proves : All (Proves input) stated.items
    stated_proves = items_prove stated.items (of_table stated.items (readable stated back).items) (pass_on accepted)

    -- where nothing is withheld it stays
    pub certificate_stays : IsFilledCertificate input stated stated
    certificate_stays = record {
      kind = refl;
      version = refl;
      levels = refl;
      items = each_stays IsFilledItem item_same stated.items;
      same = λ none. refl;
      proves = stated_proves;
      says = all_say input (table_is_full table valid) stated.items stated_proves;
      accepted = accepted;
      read_back = back;
    }

    module _ (found : List Item) (are : ArePaired (λ k. IsFoundItem input) stated.items found) (some : ¬ (sum_by withheld_in stated.items ≡ 0)) where
      abbrev filled : Certificate
      filled = record { kind = stated.kind; version = stated.version; levels = stated.levels; items = found }

      fit : All (FitsKind Table) found
      fit = found_fit input stated.items found are (readable stated back).items

      pass : IsCheckVerdictOnItems input found Accepted
      pass = found_pass input stated.items found are (pass_on accepted)

      proves : All (Proves input) found
      proves = items_prove found (of_table found fit) pass

      accepted_too : IsCheckVerdict input stated.levels stated.items Accepted → IsCheckVerdict input stated.levels found Accepted
      accepted_too (inl wrong) = absurd wrong
      accepted_too (inr passed) = inr (passed.0, pass)

      certificate_filled : IsFilledCertificate input stated filled
      certificate_filled = record {
        kind = refl;
        version = refl;
        levels = refl;
        items = found_filled input stated.items found are;
        same = λ none. absurd (some none);
        proves = proves;
        says = all_say input (table_is_full table valid) found proves;
        accepted = accepted_too accepted;
        read_back = text_read_back Table filled (record { of_kind = (readable stated back).of_kind; levels = (readable stated back).levels; items = fit });
      }

    -- the certificate of what the calls gave
    pub certificate_from : (given found : List Item) (whole : Certificate) → given ≡ stated.items → whole ≡ record { kind = stated.kind; version = stated.version; levels = stated.levels; items = found }
        → ArePaired (λ k. IsFoundItem input) given found → ¬ (sum_by withheld_in stated.items ≡ 0) → IsFilledCertificate input stated whole
    certificate_from given found whole same made are some =
        subst (λ (c : Certificate). IsFilledCertificate input stated c) (sym made)
        (certificate_filled found (subst (λ (xs : List Item). ArePaired (λ k. IsFoundItem input) xs found) same are) some)
