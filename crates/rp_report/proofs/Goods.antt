-- The bounds of the goods, one after another.
use Rattle.std.proofs.Common.{◌≡◌, ℕ, suc, ◌+◌, ◌<◌, List, [], ◌∷◌, ◌++◌, ◌∙◌, ap, sym, append_assoc, append-nil, arith, length, take, get_or}
use Rattle.std.proofs.lemmas.List.{take_more, length-take-le}
use Rattle.rp_evidence.specs.declared.demand.GoodBounds.{GoodBounds}
use Rattle.rp_report.specs.DemandText.{good_text, goods_text}

-- the good after these
goods_then : (g : ℕ) (these : List GoodBounds) (last : GoodBounds) → goods_text g (these ++ last ∷ []) ≡ goods_text g these ++ good_text (g + length these) last
goods_then g [] last = append-nil (good_text g last) ∙ ap (λ k. good_text k last) (let same : g ≡ g + 0 = omega arith in same)
goods_then g (bounds ∷ others) last =
    let same : (g + 1) + length others ≡ g + suc (length others) = omega arith in
    ap (λ rest. good_text g bounds ++ rest) (goods_then (g + 1) others last ∙ ap (λ k. goods_text (g + 1) others ++ good_text k last) same)
    ∙ sym (append_assoc (good_text g bounds) (goods_text (g + 1) others) (good_text (g + suc (length others)) last))

-- one good more
pub goods_more : (goods : List GoodBounds) (i : ℕ) (d : GoodBounds) → i < length goods → goods_text 0 (take (i + 1) goods) ≡ goods_text 0 (take i goods) ++ good_text i (get_or goods i d)
goods_more goods i d within =
    ap (goods_text 0) (take_more goods i d within) ∙ goods_then 0 (take i goods) (get_or goods i d)
    ∙ ap (λ k. goods_text 0 (take i goods) ++ good_text k (get_or goods i d)) (let z : 0 + length (take i goods) ≡ i = omega (arith, length-take-le i goods (omega arith)) in z)
