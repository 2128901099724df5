-- Functions of two observations that are tabulated.
use Rattle.std.proofs.Common.{◌≡◌, ◌<◌, ◌∙◌, ℕ, Bool, false, [], ap, map, arith, get_or}
use Rattle.std.specs.List.{range_with_len}
use Rattle.std.proofs.lemmas.List.{get_or-map}
use Rattle.std.proofs.lemmas.List.FromFn.{get_or-range_with_len, length-range_with_len}
use Rattle.rp_evidence.specs.Reached.{reached_by, reaches_in}

tabulated : {A : Type 0} (n : ℕ) (f : ℕ → A) (s : ℕ) (d : A) → s < n → get_or (map f (range_with_len 0 n)) s d ≡ f s
tabulated n f s d l =
    get_or-map f (range_with_len 0 n) s 0 d (omega (arith, length-range_with_len 0 n)) ∙ ap f (omega (arith, get_or-range_with_len 0 n s 0 l))

pub reaches_in_by : (n : ℕ) (f : ℕ → ℕ → Bool) (s t : ℕ) → s < n → t < n → reaches_in (reached_by n f) s t ≡ f s t
reaches_in_by n f s t a b =
    ap (λ row. get_or row t false) (tabulated n (λ x. map (f x) (range_with_len 0 n)) s [] a) ∙ tabulated n (f s) t false b
