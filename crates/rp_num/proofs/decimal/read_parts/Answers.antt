use Rattle.rp_num.proofs.decimal.read_parts.Goals as goal
use Rattle.rp_num.proofs.DecimalText.{decimal_from-numerals, digits-places}

pub extended-requires-2-clause-digits : goal.extended-requires-2-clause-digits
extended-requires-2-clause-digits c =
    digits-places c.args.after.now _ c.if-not-is_numeral-2.ensures c.without_last_zeros-places.ensures

pub returns : goal.returns
returns c =
    decimal_from-numerals c.args.whole.now c.args.after.now _ _ _ c.if-not-is_numeral.ensures c.if-not-is_numeral-2.ensures
    c.without_last_zeros-places.ensures c.if-places-gt-MOST_PLACES.false c.extended.ensures c.extended-2.ensures
