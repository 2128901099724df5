use Rattle.std.proofs.Common.{◌^◌, ◌<◌, List, ℤ, length, inl, inr, sym, subst, arith}
use Rattle.std.specs.Int.RustNames.{unsigned_abs}
use Rattle.std.proofs.lemmas.Bool.{cases_eq}
use Rattle.rp_grid.specs.Rows.{row_of}
use Rattle.rp_simplex.specs.InnerCombined.{dot}
use Rattle.rp_simplex.proofs.width.all_fit.Goals as goal
use Rattle.rp_simplex.proofs.width.all_fit.Goals.{else-not-surely_fits-via-then-not-surely_fits+else-not-row_fits, else-not-surely_fits-via-else-not-surely_fits}

pub loop-i-preserved : goal.loop-i-preserved
loop-i-preserved c = λ k j hk hj. elim (cases_eq k c.loop-i.i) [
  | inr ne ↦ c.loop-i.invariant k j (omega arith) hj
  | inl same ↦
      let here : unsigned_abs (dot (length c.row-row.result.now) c.row-row.result.now (row_of c.args.columns.now j)) < 2 ^ 63 = elim c.else-not-surely_fits.branch [
        | else-not-surely_fits-via-then-not-surely_fits+else-not-row_fits w ↦ w.if-not-row_fits.ensures j hj
        | else-not-surely_fits-via-else-not-surely_fits w ↦ w.if-not-surely_fits.ensures (row_of c.args.columns.now j) (c.requires.small j hj)
      ] in
      subst (λ q. unsigned_abs (dot c.args.multipliers.now.cols (row_of c.args.multipliers.now q) (row_of c.args.columns.now j)) < 2 ^ 63) (sym same)
      (subst (λ (xs : List ℤ). unsigned_abs (dot c.args.multipliers.now.cols xs (row_of c.args.columns.now j)) < 2 ^ 63) c.row-row.ensures.row
      (subst (λ n. unsigned_abs (dot n c.row-row.result.now (row_of c.args.columns.now j)) < 2 ^ 63) c.row-row.ensures.length here))
]
