use Rattle.std.proofs.Common.{◌<◌, ◌+◌, ◌*◌, not, length, sym, ap, ◌∙◌, subst, arith, count_by}
use Rattle.std.specs.List.{range_with_len}
use mir.Val.{bool_byte}
use Rattle.rp_evidence.specs.Bits.{bit_in}
use Rattle.rp_pref.proofs.Noted.{byte_below, counted_by_bits}
use Rattle.rp_pref.proofs.closure.Closure.count.Goals as goal

pub overflow_add-result : goal.overflow_add-result
overflow_add-result c =
    record { fits = omega (arith, c.count_set.ensures.few, c.row.ensures.length, c.self.invariant.small, c.from.ensures, byte_below (not c.is_set.result)) }

pub returns : goal.returns
returns c =
    let f = c.self.inside in let s = c.args.s in let row = c.row.ensures in
    let below : s < f.n = subst (λ v. s < v.n) (sym c.self.view_is) c.requires in
    rw (← c.self.view_is) (
    counted_by_bits f.n f.bits c.self.invariant s (c.count_set.result + c.from.result) c.count_set.result below (sym (ap length row.row) ∙ row.length)
    (c.count_set.ensures.exact ∙ ap (λ l. count_by (bit_in l) (range_with_len 0 (length l * 64))) row.row)
    (ap (λ m. c.count_set.result + m) (c.from.ensures ∙ ap (λ b. bool_byte (not b)) c.is_set.ensures))
    )
