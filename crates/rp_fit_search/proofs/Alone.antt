-- Groups of one observation each pass the check.
use Rattle.std.proofs.Common.{◌≡◌, ◌<◌, ◌≤◌, ◌+◌, ◌*◌, ◌==◌, ◌||◌, ℕ, zero, suc, false, List, [], ◌∷◌, ◌++◌, Ok, length, get_or, add-one, arith, refl, ap, subst, ◌∙◌, sym, below_more, eq-eqb, if◌then◌else◌}
use Rattle.std.proofs.Math.ListN.{get_or-append}
use Rattle.std.proofs.Math.Seq.{get_or-append_seam}
use Rattle.std.proofs.lemmas.List.{length-append}
use Rattle.std.proofs.lemmas.List.Sums.{sum_by_push}
use Rattle.rp_check_fit.specs.KeptFailure.{GroupFails, KeptFails, group_at}
use Rattle.rp_evidence.specs.Clauses.{InOrder, Unless}
use Rattle.rp_evidence.specs.declared.failure.Reason.TheVariants.{Number, Set}
use Rattle.rp_evidence.specs.Preference.{IsStrict, IsWeak}
use Rattle.rp_fit.specs.Groups.{AllContradict, AreOfKind, allowed_by, allowed_of, is_among, weight_on}
use Rattle.rp_fit.specs.declared.kept.Group.{Group}
use Rattle.rp_fit.specs.declared.kept.GroupKind.TheVariants.{Pairs}
use Rattle.rp_fit_search.specs.InnerAlone.{group_of, groups_below}

-- the entry past the end
abbrev none : Group
none = record { weight = 0; kind = Pairs; members = [] }

pub groups_more : (n : ℕ) → groups_below (n + 1) ≡ groups_below n ++ group_of n ∷ []
groups_more n = rw (add-one n) refl

-- one group more
pub groups_pushed : (n : ℕ) (groups : List Group) (group : Group) (new : List Group) → groups ≡ groups_below n → group ≡ group_of n
    → new ≡ groups ++ group ∷ [] → new ≡ groups_below (n + 1)
groups_pushed n groups group new so_far last is = rw (is, so_far, last) (sym (groups_more n))

length-groups_below : (n : ℕ) → length (groups_below n) ≡ n
length-groups_below zero = refl
length-groups_below (suc n) = length-append (groups_below n) (group_of n ∷ []) ∙ ap (λ k. k + 1) (length-groups_below n) ∙ add-one n

-- each group is that of its place
group_at-groups_below : (n k : ℕ) → k < n → group_at (groups_below n) k ≡ group_of k
group_at-groups_below zero k hk = absurd (omega arith)
group_at-groups_below (suc n) k hk =
    let long : length (groups_below n) ≡ n = length-groups_below n in
    below_more (λ j. group_at (groups_below n ++ group_of n ∷ []) j ≡ group_of j) n
    (λ j hj. get_or-append (groups_below n) (group_of n ∷ []) none j (omega (arith, hj, long)) ∙ group_at-groups_below n j hj)
    (subst (λ m. get_or (groups_below n ++ group_of n ∷ []) m none ≡ group_of n) long (get_or-append_seam (groups_below n) (group_of n) [] none))
    k (omega (arith, hk))

-- one observation contradicts no other of its group, since there is none
first_of : (n s k : ℕ) → s < n → k < 1 → get_or (s ∷ []) k 0 < n
first_of n s zero hs hk = hs
first_of n s (suc k) hs hk = absurd (omega arith)

alone_contradict : (n : ℕ) (c : ℕ → ℕ → ℕ) (s : ℕ) → s < n → AllContradict n c (s ∷ [])
alone_contradict n c s hs = record {
  observed = λ k hk. first_of n s k hs hk;
  each_two = λ i j hij hj. absurd (omega (arith, hij, hj));
}

group_passes : (n : ℕ) (c : ℕ → ℕ → ℕ) (k : ℕ) → k < n → GroupFails n c (groups_below n) k (Ok tt)
group_passes n c k hk =
    subst (λ (g : Group). InOrder (Unless (1 ≤ g.weight) Number (k + 1) ∷ Unless (AreOfKind n c g.kind g.members) Set (k + 1) ∷ []) (Ok tt))
    (sym (group_at-groups_below n k hk)) (omega arith, (alone_contradict n c k hk, tt))

-- the weight on each observation below n is 1 or more
weight_push : (n s : ℕ) → weight_on (groups_below n ++ group_of n ∷ []) s ≡ weight_on (groups_below n) s + (if (n == s) || false then 1 else 0)
weight_push n s = sum_by_push (λ (g : Group). if is_among g.members s then g.weight else 0) (groups_below n) (group_of n)

weight_alone : (n s : ℕ) → s < n → 1 ≤ weight_on (groups_below n) s
weight_alone zero s hs = absurd (omega arith)
weight_alone (suc n) s hs =
    below_more (λ j. 1 ≤ weight_on (groups_below n ++ group_of n ∷ []) j) n
    (λ j hj. let e = weight_push n j in let h = weight_alone n j hj in omega (arith, e, h))
    (let e : weight_on (groups_below n ++ group_of n ∷ []) n ≡ weight_on (groups_below n) n + 1 =
    subst (λ b. weight_on (groups_below n ++ group_of n ∷ []) n ≡ weight_on (groups_below n) n + (if b || false then 1 else 0)) (eq-eqb n n refl) (weight_push n n) in
    omega (arith, e))
    s (omega (arith, hs))

-- what they allow together
allowed_alone : (n : ℕ) → allowed_by (groups_below n) ≡ n
allowed_alone zero = refl
allowed_alone (suc n) =
    sum_by_push (λ (g : Group). g.weight * allowed_of g.kind g.members) (groups_below n) (group_of n) ∙ ap (λ k. k + 1) (allowed_alone n) ∙ add-one n

-- the first observation alone respects its steps
respects : (c : ℕ → ℕ → ℕ) (i j : ℕ) → i < 1 → j < 1
    → (IsWeak c (get_or (0 ∷ []) i 0) (get_or (0 ∷ []) j 0) → get_or (0 ∷ []) j 0 ≤ get_or (0 ∷ []) i 0)
    × (IsStrict c (get_or (0 ∷ []) i 0) (get_or (0 ∷ []) j 0) → get_or (0 ∷ []) j 0 < get_or (0 ∷ []) i 0)
respects c zero zero hi hj = ((λ weak. omega arith), (λ strict. absurd (omega (arith, strict))))
respects c zero (suc j) hi hj = absurd (omega (arith, hj))
respects c (suc i) j hi hj = absurd (omega (arith, hi))

-- the first observation, and each observation as a group
pub alone_passes : (n : ℕ) (c : ℕ → ℕ → ℕ) → 1 ≤ n → KeptFails n c (record { kept = 0 ∷ []; ranks = 0 ∷ []; den = 1; groups = groups_below n; most = n }) (Ok tt)
alone_passes n c some = (
  omega arith,
  (
    (refl, ((λ k hk. first_of n 0 k some hk), ((λ k hk. absurd (omega arith)), ((λ i hi j hj. respects c i j hi hj), tt)))),
    (
      (λ k hk. group_passes n c k (let e = length-groups_below n in omega (arith, hk, e))),
      (
        ((λ s hs. weight_alone n s hs), ((let e = allowed_alone n in omega (arith, e)), tt)),
        (some, tt),
      ),
    ),
  ),
)

-- the same where the part's lists and bound are equal to these
pub alone_of_lists_passes : (n : ℕ) (c : ℕ → ℕ → ℕ) (kept ranks : List ℕ) (groups : List Group) (most : ℕ) → 1 ≤ n
    → kept ≡ 0 ∷ [] → ranks ≡ 0 ∷ [] → groups ≡ groups_below n → most ≡ n
    → KeptFails n c (record { kept = kept; ranks = ranks; den = 1; groups = groups; most = most }) (Ok tt)
alone_of_lists_passes n c kept ranks groups most some e f g h =
    subst (λ k. KeptFails n c (record { kept = k; ranks = ranks; den = 1; groups = groups; most = most }) (Ok tt)) (sym e)
    (subst (λ r. KeptFails n c (record { kept = 0 ∷ []; ranks = r; den = 1; groups = groups; most = most }) (Ok tt)) (sym f)
    (subst (λ gs. KeptFails n c (record { kept = 0 ∷ []; ranks = 0 ∷ []; den = 1; groups = gs; most = most }) (Ok tt)) (sym g)
    (subst (λ m. KeptFails n c (record { kept = 0 ∷ []; ranks = 0 ∷ []; den = 1; groups = groups_below n; most = m }) (Ok tt)) (sym h)
    (alone_passes n c some))))
