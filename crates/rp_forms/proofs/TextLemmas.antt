-- The blanks round a text, found by place.
use Rattle.std.proofs.Common.{◌≡◌, ℕ, ◌-◌, ◌<◌, ◌≤◌, true, false, List, length, get_or, take, drop, sym, ap, arith, ◌∙◌}
use Rattle.std.proofs.lemmas.List.{take_rest}
use Rattle.std.proofs.lemmas.List.Sums.{prefix_len_is, suffix_len_is}
use Rattle.rp_forms.specs.Texts.{is_blank, after_blanks, before_blanks}

-- what stands after the blanks
pub blanks_before : (text : List ℕ) (n : ℕ) → n ≤ length text → ((k : ℕ) → k < n → is_blank (get_or text k 0) ≡ true) → (n < length text → is_blank (get_or text n 0) ≡ false) → take (length text - n) (drop n text) ≡ after_blanks text
unfolding after_blanks
blanks_before text n within blank stops =
    let all = prefix_len_is is_blank text n 0 within blank stops in
    take_rest text n ∙ ap (λ (k : ℕ). drop k text) (sym all)

-- what stands before the blanks
pub blanks_after : (text : List ℕ) (n : ℕ) → n ≤ length text → ((k : ℕ) → n ≤ k → k < length text → is_blank (get_or text k 0) ≡ true) → (0 < n → is_blank (get_or text (n - 1) 0) ≡ false) → take n text ≡ before_blanks text
unfolding before_blanks
blanks_after text n within blank stops =
    let all = suffix_len_is is_blank text n 0 within blank stops in
    let place : n ≡ length text - (length text - n) = omega arith in
    ap (λ (k : ℕ). take k text) place ∙ ap (λ (k : ℕ). take (length text - k) text) (sym all)
