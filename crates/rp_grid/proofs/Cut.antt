-- A list cut into rows, and one of its rows written.
use Rattle.std.proofs.Common.{◌≡◌, ℕ, zero, suc, ◌+◌, ◌-◌, ◌*◌, ◌<◌, ◌≤◌, List, [], ◌∷◌, ◌++◌, map, length, take, drop, set, get_or, replicate, Option, Some, refl, sym, ap, ◌∙◌, subst, arith, zero-mul, suc-mul, mul-le-mul_right, length-append, length-take, length-drop, take-take, drop-drop, take_at, drop_at, append_assoc}
use Rattle.std.proofs.lemmas.List.{length-map, length-replicate, length-take-le, take-map, drop-map, map-append, take-append-le, drop-append-le, drop-take, take-replicate, drop-replicate, replicate_more, set_at}
use Rattle.std.specs.List.{refill}
use Rattle.rp_grid.specs.Places.{somes, IsRun}
use Rattle.rp_grid.specs.InnerLends.{spliced}
use Rattle.rp_grid.specs.Held.{cut}

pub row_fits : (r rows cols : ℕ) → r < rows → r * cols + cols ≤ rows * cols
row_fits r rows cols lt = subst (λ k. k ≤ rows * cols) (suc-mul r cols) (mul-le-mul_right cols lt)

module _ {X : Type 0} where
  pub somes_map : (xs : List X) → somes (map Some xs) ≡ xs
  somes_map [] = refl
  somes_map (x ∷ xs) = ap (λ l. x ∷ l) (somes_map xs)

  run_map : (from len : ℕ) (xs : List X) → take len (drop from (map Some xs)) ≡ map Some (take len (drop from xs))
  run_map from len xs = ap (take len) (drop-map Some from xs) ∙ take-map Some len (drop from xs)

  -- A run of a block in which every place holds a value.
  pub run_there : (slots : List (Option X)) (from len : ℕ) → slots ≡ map Some (somes slots) → from + len ≤ length (somes slots) → IsRun slots from len
  run_there slots from len full fits =
      let xs = somes slots in
      let long : length slots ≡ length xs = ap length full ∙ length-map xs Some in
      (omega arith, (take len (drop from xs), ap (λ l. take len (drop from l)) full ∙ run_map from len xs))

  pub run_is : (slots : List (Option X)) (from len : ℕ) (ws : List X) → slots ≡ map Some (somes slots) → take len (drop from slots) ≡ map Some ws → ws ≡ take len (drop from (somes slots))
  run_is slots from len ws full run =
      let xs = somes slots in
      sym (somes_map ws) ∙ ap somes (sym run ∙ ap (λ l. take len (drop from l)) full ∙ run_map from len xs) ∙ somes_map (take len (drop from xs))

  -- The list in which a run is written.
  abbrev pub put : List X → ℕ → ℕ → List X → List X
  put xs from len ws = take from xs ++ (ws ++ drop (from + len) xs)

  pub length_put : (xs : List X) (from len : ℕ) (ws : List X) → from + len ≤ length xs → length ws ≡ len → length (put xs from len ws) ≡ length xs
  length_put xs from len ws fits long =
      omega (arith, length-append (take from xs) (ws ++ drop (from + len) xs), length-append ws (drop (from + len) xs), length-take from xs, length-drop (from + len) xs)

  pub spliced_is : (slots : List (Option X)) (from len : ℕ) (ws : List X) → slots ≡ map Some (somes slots)
      → spliced slots from len (refill len (somes (take len (drop from slots))) ws) ≡ map Some (put (somes slots) from len (refill len (take len (drop from (somes slots))) ws))
  spliced_is slots from len ws full =
      let xs = somes slots in
      let old : somes (take len (drop from slots)) ≡ take len (drop from xs) =
      ap (λ l. somes (take len (drop from l))) full ∙ ap somes (run_map from len xs) ∙ somes_map (take len (drop from xs)) in
      let new = refill len (take len (drop from xs)) ws in
      (λ i. spliced (full i) from len (refill len (old i) ws))
      ∙ (λ i. take-map Some from xs i ++ (map Some new ++ drop-map Some (from + len) xs i))
      ∙ sym (map-append Some (take from xs) (new ++ drop (from + len) xs) ∙ ap (λ l. map Some (take from xs) ++ l) (map-append Some new (drop (from + len) xs)))

  pub cut_count : (rows cols : ℕ) (xs : List X) → length (cut rows cols xs) ≡ rows
  cut_count zero cols xs = refl
  cut_count (suc rows) cols xs = ap suc (cut_count rows cols (drop cols xs))

  pub cut_row : (rows cols r : ℕ) (xs : List X) → r < rows → get_or (cut rows cols xs) r [] ≡ take cols (drop (r * cols) xs)
  cut_row zero cols r xs lt = absurd (omega arith)
  cut_row (suc rows) cols zero xs lt = ap (λ k. take cols (drop k xs)) (sym (zero-mul cols))
  cut_row (suc rows) cols (suc r) xs lt =
      let on : cols + r * cols ≡ suc r * cols = omega (arith, suc-mul r cols) in
      cut_row rows cols r (drop cols xs) (omega arith) ∙ ap (take cols) (drop-drop (r * cols) cols xs ∙ ap (λ k. drop k xs) on)

  pub length_row : (rows cols r : ℕ) (xs : List X) → r < rows → length xs ≡ rows * cols → length (get_or (cut rows cols xs) r []) ≡ cols
  length_row rows cols r xs lt long =
      let fits = row_fits r rows cols lt in
      ap length (cut_row rows cols r xs lt) ∙ omega (arith, length-take cols (drop (r * cols) xs), length-drop (r * cols) xs)

  pub cut_put : (rows cols r : ℕ) (xs ws : List X) → r < rows → length xs ≡ rows * cols → length ws ≡ cols
      → cut rows cols (put xs (r * cols) cols ws) ≡ set (cut rows cols xs) r ws
  cut_put zero cols r xs ws lt count long = absurd (omega arith)
  cut_put (suc rows) cols zero xs ws lt count long =
      let rest = drop (0 + cols) xs in let same : 0 + cols ≡ cols = omega arith in
      ap (λ k. cut (suc rows) cols (put xs k cols ws)) (zero-mul cols)
      ∙ (λ i. take_at ws rest cols long i ∷ cut rows cols (drop_at ws rest cols long i)) ∙ ap (λ k. ws ∷ cut rows cols (drop k xs)) same
  cut_put (suc rows) cols (suc r) xs ws lt count long =
      let k = suc r * cols in let at : k ≡ cols + r * cols = omega (arith, suc-mul r cols) in
      let fits = row_fits (suc r) (suc rows) cols lt in
      let rest = ws ++ drop (k + cols) xs in
      let front : length (take k xs) ≡ k = length-take-le k xs (omega arith) in
      let more : cols ≤ length (take k xs) = omega arith in
      let within : cols ≤ k = omega arith in
      let first : take cols (take k xs ++ rest) ≡ take cols xs = take-append-le cols (take k xs) rest more ∙ take-take cols k xs within in
      let second : drop cols (take k xs) ≡ take (r * cols) (drop cols xs) = ap (λ j. drop cols (take j xs)) at ∙ drop-take cols (r * cols) xs in
      let third : drop (k + cols) xs ≡ drop (r * cols + cols) (drop cols xs) =
      sym (drop-drop (r * cols + cols) cols xs ∙ ap (λ j. drop j xs) (let e : cols + (r * cols + cols) ≡ k + cols = omega arith in e)) in
      let all : drop cols (take k xs ++ rest) ≡ put (drop cols xs) (r * cols) cols ws =
      drop-append-le cols (take k xs) rest more ∙ (λ i. second i ++ (ws ++ third i)) in
      let left : length (drop cols xs) ≡ rows * cols = omega (arith, length-drop cols xs, suc-mul rows cols) in
      (λ i. first i ∷ cut rows cols (all i)) ∙ ap (λ l. take cols xs ∷ l) (cut_put rows cols r (drop cols xs) ws (omega arith) left long)

  pub cut_filled : (rows cols : ℕ) (x : X) → cut rows cols (replicate (rows * cols) x) ≡ replicate rows (replicate cols x)
  cut_filled zero cols x = refl
  cut_filled (suc rows) cols x =
      let at : suc rows * cols ≡ cols + rows * cols = omega (arith, suc-mul rows cols) in
      let all = replicate (cols + rows * cols) x in
      let rest : cols + rows * cols - cols ≡ rows * cols = omega arith in
      ap (λ n. cut (suc rows) cols (replicate n x)) at
      ∙ (λ i. take-replicate cols (cols + rows * cols) x (omega arith) i ∷ cut rows cols ((drop-replicate cols (cols + rows * cols) x ∙ ap (λ n. replicate n x) rest) i))
      ∙ ap (λ l. replicate cols x ∷ l) (cut_filled rows cols x)

  pub somes_filled : (n : ℕ) (x : X) → replicate n (Some x) ≡ map Some (replicate n x)
  somes_filled zero x = refl
  somes_filled (suc n) x = ap (λ l. Some x ∷ l) (somes_filled n x)

  -- One more of the places is filled.
  pub filled_more : (n i : ℕ) (a b : X) → i < n → set (replicate i a ++ replicate (n - i) b) i a ≡ replicate (i + 1) a ++ replicate (n - (i + 1)) b
  filled_more n i a b lt =
      let rest = replicate (n - (i + 1)) b in let one : n - i ≡ suc (n - (i + 1)) = omega arith in
      ap (λ k. set (replicate i a ++ replicate k b) i a) one ∙ set_at (replicate i a) b rest a i (length-replicate i a)
      ∙ sym (append_assoc (replicate i a) (a ∷ []) rest) ∙ ap (λ l. l ++ rest) (replicate_more i a)
