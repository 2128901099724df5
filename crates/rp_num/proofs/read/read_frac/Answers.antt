use Rattle.rp_num.specs.Fraction.{FitsTerm}
use Rattle.rp_num.proofs.Lowest.{IsLowestTerms-itself}
use Rattle.rp_num.proofs.FractionText.{if_printed, no_zero, part_read, same_fraction}
use Rattle.rp_num.proofs.read.read_frac.Goals as goal

pub returns-then-den-eq0 : goal.returns-then-den-eq0
returns-then-den-eq0 c =
    λ x h e.
    no_zero x c.in-Some-2.den c.split_at_stroke.result.1.now h (c.split_at_stroke.ensures x h.1 e).1
    (part_read c.in_ok-den.field-0 c.in-Some-2.den c.split_at_stroke.result.1.now FitsTerm c.in_ok-den.ensures c.in-Some-2.is) c.if-den-eq0.true

pub returns : goal.returns
returns c =
    let n = part_read c.in_ok-num.field-0 c.in-Some.num c.split_at_stroke.result.0.now FitsTerm c.in_ok-num.ensures c.in-Some.is in
    let d = part_read c.in_ok-den.field-0 c.in-Some-2.den c.split_at_stroke.result.1.now FitsTerm c.in_ok-den.ensures c.in-Some-2.is in
    if_printed c.if_printed_so.result c.args.text.now c.new.result (IsLowestTerms-itself c.in-Some.num c.in-Some-2.den c.new.result c.new.ensures.lowest, c.new.ensures.fits)
    c.if_printed_so.ensures.some c.if_printed_so.ensures.none
    (λ f h e. same_fraction f c.new.result c.in-Some.num c.in-Some-2.den c.split_at_stroke.result.0.now c.split_at_stroke.result.1.now h (c.split_at_stroke.ensures f h.1 e) n d c.new.ensures.lowest)
