-- Two rows are exchanged column by column.
use Rattle.std.proofs.Common.{◌≡◌, ◌≢◌, ℕ, ◌+◌, ◌<◌, ◌≤◌, List, [], ◌∷◌, ◌++◌, length, take, drop, set, get_or, sym, ap, ◌∙◌, arith, length-set, append_assoc, append-nil, take_all, get_or-set_same, get_or-set_other, set-set}
use Rattle.std.proofs.lemmas.List.{set_comm, set_at, take_more, drop_more, drop_all, get_or_at, length-take-le}
use Rattle.rp_grid.specs.Rows.{Rows, row_of, with_row, with_cell, exchanged}

module _ {X : Type 0} where
  -- The first columns from one row and the others from another.
  abbrev pub mixed : ℕ → List X → List X → List X
  mixed c xs ys = take c xs ++ drop c ys

  -- The grid of which the first columns of two rows are exchanged.
  abbrev pub exchanged_to : ℕ → Rows X → ℕ → ℕ → Rows X
  exchanged_to c g a b = with_row (with_row g a (mixed c (row_of g b) (row_of g a))) b (mixed c (row_of g a) (row_of g b))

  mixed_read : (c : ℕ) (xs ys : List X) (y : X) → c < length ys → c ≤ length xs → get_or (mixed c xs ys) c y ≡ get_or ys c y
  mixed_read c xs ys y inner front =
      ap (λ l. get_or (take c xs ++ l) c y) (drop_more ys c y inner) ∙ get_or_at (take c xs) (get_or ys c y) (drop (c + 1) ys) y c (length-take-le c xs front)

  mixed_more : (c : ℕ) (xs ys : List X) (x : X) → c < length xs → c < length ys → x ≡ get_or xs c x → set (mixed c xs ys) c x ≡ mixed (c + 1) xs ys
  mixed_more c xs ys x front inner is =
      let rest = drop (c + 1) ys in
      ap (λ l. set (take c xs ++ l) c x) (drop_more ys c x inner) ∙ set_at (take c xs) (get_or ys c x) rest x c (length-take-le c xs (omega arith))
      ∙ sym (append_assoc (take c xs) (x ∷ []) rest) ∙ ap (λ l. l ++ rest) (ap (λ y. take c xs ++ y ∷ []) is ∙ sym (take_more xs c x front))

  rewritten : (rows : List (List X)) (a b : ℕ) (xa xb xa' xb' : List X) → a ≢ b → set (set (set (set rows a xa) b xb) a xa') b xb' ≡ set (set rows a xa') b xb'
  rewritten rows a b xa xb xa' xb' apart =
      ap (λ l. set l b xb') (set_comm (set rows a xa) b a xb xa' (λ e. apart (sym e)) ∙ ap (λ l. set l b xb) (set-set rows a xa xa'))
      ∙ set-set (set rows a xa') b xb xb'

  module _ (g : Rows X) (a b : ℕ) (apart : a ≢ b) (first : a < length g.rows) (second : b < length g.rows)
      (long_a : length (row_of g a) ≡ g.cols) (long_b : length (row_of g b) ≡ g.cols) (c : ℕ) (within : c < g.cols) where
    abbrev now : Rows X
    now = exchanged_to c g a b

    now_a : row_of now a ≡ mixed c (row_of g b) (row_of g a)
    now_a = get_or-set_other (set g.rows a (mixed c (row_of g b) (row_of g a))) b a (mixed c (row_of g a) (row_of g b)) [] apart
        ∙ get_or-set_same g.rows a (mixed c (row_of g b) (row_of g a)) [] first

    now_b : row_of now b ≡ mixed c (row_of g a) (row_of g b)
    now_b = get_or-set_same (set g.rows a (mixed c (row_of g b) (row_of g a))) b (mixed c (row_of g a) (row_of g b)) [] (omega (arith, length-set g.rows a (mixed c (row_of g b) (row_of g a))))

    -- One more column.
    pub one_more : (of_a of_b : X) → of_a ≡ get_or (row_of now a) c of_a → of_b ≡ get_or (row_of now b) c of_b
        → with_cell (with_cell now a c of_b) b c of_a ≡ exchanged_to (c + 1) g a b
    one_more of_a of_b is_a is_b =
        let ra = row_of g a in let rb = row_of g b in
        let x : of_a ≡ get_or ra c of_a = is_a ∙ ap (λ l. get_or l c of_a) now_a ∙ mixed_read c rb ra of_a (omega arith) (omega arith) in
        let y : of_b ≡ get_or rb c of_b = is_b ∙ ap (λ l. get_or l c of_b) now_b ∙ mixed_read c ra rb of_b (omega arith) (omega arith) in
        let new_a : set (row_of now a) c of_b ≡ mixed (c + 1) rb ra = ap (λ l. set l c of_b) now_a ∙ mixed_more c rb ra of_b (omega arith) (omega arith) y in
        let kept : row_of (with_cell now a c of_b) b ≡ row_of now b = get_or-set_other now.rows a b (set (row_of now a) c of_b) [] (λ e. apart (sym e)) in
        let new_b : set (row_of (with_cell now a c of_b) b) c of_a ≡ mixed (c + 1) ra rb =
        ap (λ l. set l c of_a) (kept ∙ now_b) ∙ mixed_more c ra rb of_a (omega arith) (omega arith) x in
        let all : set (set now.rows a (set (row_of now a) c of_b)) b (set (row_of (with_cell now a c of_b) b) c of_a) ≡ (exchanged_to (c + 1) g a b).rows =
        (λ i. set (set now.rows a (new_a i)) b (new_b i)) ∙ rewritten g.rows a b (mixed c rb ra) (mixed c ra rb) (mixed (c + 1) rb ra) (mixed (c + 1) ra rb) apart in
        λ i. record { rows = all i; cols = g.cols }

    -- The same where the two rows were written one after the other.
    pub one_written : (self : Rows X) → self ≡ now → (of_a of_b : X) → of_a ≡ get_or (row_of self a) c of_a → of_b ≡ get_or (row_of self b) c of_b
        → (to_a to_b : List X) → to_a ≡ set (row_of self a) c of_b → to_b ≡ set (row_of (with_row self a to_a) b) c of_a
        → with_row (with_row self a to_a) b to_b ≡ exchanged_to (c + 1) g a b
    one_written self is of_a of_b is_a is_b to_a to_b wrote_a wrote_b =
        ap (with_row (with_row self a to_a) b) wrote_b
        ∙ ap (λ w. with_row (with_row self a w) b (set (row_of (with_row self a w) b) c of_a)) wrote_a
        ∙ ap (λ s. with_cell (with_cell s a c of_b) b c of_a) is
        ∙ one_more of_a of_b (is_a ∙ ap (λ s. get_or (row_of s a) c of_a) is) (is_b ∙ ap (λ s. get_or (row_of s b) c of_b) is)

  pub all_done : (g : Rows X) (a b : ℕ) → length (row_of g a) ≡ g.cols → length (row_of g b) ≡ g.cols → exchanged_to g.cols g a b ≡ exchanged g a b
  all_done g a b long_a long_b =
      let whole : (xs ys : List X) → length xs ≡ g.cols → length ys ≡ g.cols → mixed g.cols xs ys ≡ xs =
      λ xs ys long_x long_y. (λ i. take_all g.cols xs (omega arith) i ++ drop_all g.cols ys (omega arith) i) ∙ append-nil xs in
      λ i. with_row (with_row g a (whole (row_of g b) (row_of g a) long_b long_a i)) b (whole (row_of g a) (row_of g b) long_a long_b i)
