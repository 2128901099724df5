-- Scaled numbers: powers of ten, and a size by its column.
use Rattle.std.proofs.Common.{◌≡◌, ℕ, ◌+◌, ◌*◌, ◌^◌, ◌<◌, ◌≤◌, max, List, length, get_or, Some, Result, refl, sym, ◌∙◌, arith, add-one, lit<}
use Rattle.std.proofs.lemmas.Nat.{mul-le}
use Rattle.std.proofs.Math.Nat.{mul_assoc, pow-suc, pow-le-pow_right}
use Rattle.rp_num.specs.declared.decimal.Decimal.{Decimal}
use Rattle.rp_num.specs.Below.{greatest_below, listed}
use Rattle.rp_forms.specs.Texts.{text_at, number_of}
use Rattle.rp_forms.specs.Columns.{role_of, role_at}
use Rattle.rp_sheet.specs.Sizes.{figure_at, places_of, size_of, size_at}
use Rattle.rp_forms.specs.Columns.{limit_of}
use Rattle.rp_forms.specs.declared.form.Form.{Form}
use Rattle.rp_forms.specs.declared.form.Role.{Role}
use Rattle.rp_sheet.specs.declared.fault.TableFault.{TableFault}
use Rattle.rp_num.proofs.BelowLemmas.{get-listed}
use Rattle.rp_sheet.proofs.FieldFaults.{role_is}

-- past a limit, a greater power is too
pub past : (units limit i k : ℕ) → i ≤ k → limit < units * 10 ^ i → limit < units * 10 ^ k
past units limit i k earlier more =
    let grows = mul-le units (10 ^ i) units (10 ^ k) (omega arith) (pow-le-pow_right {n = 10} (lit< tt) {i = i} {j = k} earlier) in
    omega (arith, grows)

-- one more power
pub one_more : (units size i : ℕ) → size ≡ units * 10 ^ i → size * 10 ≡ units * 10 ^ (i + 1)
one_more units size i is = rw (add-one, pow-suc 10 i, is) (mul_assoc units (10 ^ i) 10)

-- the greatest so far
pub greatest_more : (f : ℕ → ℕ) (n greatest here next : ℕ) → greatest ≡ greatest_below n f → here ≡ f n → next ≡ max greatest here → next ≡ greatest_below (n + 1) f
greatest_more f n greatest here next before is most = rw (add-one, most, before, is) refl

-- the scaled number of a column
pub size_there : (form : Form) (headers : List (List ℕ)) (figures : List (List Decimal)) (places : List ℕ) (t c : ℕ) (role : Role) (figure : Decimal) (limit row column : ℕ) (result : Result ℕ TableFault)
    → c < length headers → places ≡ listed (length headers) (λ k. places_of form headers figures (role_at form.marks headers k)) → role_of form.marks (text_at headers c) ≡ Some role
    → figure ≡ figure_at figures t c → limit ≡ limit_of role → row ≡ number_of t → column ≡ number_of c → result ≡ size_of figure (get_or places c 0) limit row column
    → size_at form headers figures t c ≡ result
unfolding size_at
size_there form headers figures places t c role figure limit row column result within scales says is most told at_column read =
    let scale : get_or places c 0 ≡ places_of form headers figures (role_at form.marks headers c) = rw scales (get-listed (λ k. places_of form headers figures (role_at form.marks headers k)) (length headers) c 0 within) in
    let same = role_is _ headers c role says in
    sym (read ∙ rw (scale, is, most, told, at_column, ← same) refl)
