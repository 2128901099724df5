use Rattle.std.proofs.Common.{◌≡◌, ◌+◌, List, [], ◌∷◌, ◌++◌, rules, refl, sym, ◌∙◌, ap, subst, arith}
use Rattle.rp_farkas.specs.declared.entry.Entry.{Entry}
use Rattle.rp_farkas.specs.Listing.{IsListing, numerator_at}
use Rattle.rp_simplex.proofs.Entries.{listing_push, none_here, pushed_before, pushed_here}
use Rattle.rp_simplex.proofs.readout.note.Goals as goal

pub returns-then-value-gt0-clause-listed : goal.returns-then-value-gt0-clause-listed
returns-then-value-gt0-clause-listed c =
    let e : Entry = record { at = c.args.column; value = c.args.value } in
    let items : c.push.new.self.items ≡ c.args.entries.now.items ++ e ∷ [] = search rules in
    subst (IsListing (c.args.column + 1)) (sym items) (listing_push c.args.column c.args.entries.now.items e c.requires.listed refl c.if-value-gt0.true c.requires.fits)

pub returns-then-value-gt0-clause-value : goal.returns-then-value-gt0-clause-value
returns-then-value-gt0-clause-value c =
    let e : Entry = record { at = c.args.column; value = c.args.value } in
    let items : c.push.new.self.items ≡ c.args.entries.now.items ++ e ∷ [] = search rules in
    ap (λ (xs : List Entry). numerator_at xs c.args.column) items ∙ pushed_here c.args.column c.args.entries.now.items e c.requires.listed refl

pub returns-then-value-gt0-clause-before : goal.returns-then-value-gt0-clause-before
returns-then-value-gt0-clause-before c = λ k l.
    let e : Entry = record { at = c.args.column; value = c.args.value } in
    let items : c.push.new.self.items ≡ c.args.entries.now.items ++ e ∷ [] = search rules in
    ap (λ (xs : List Entry). numerator_at xs k) items ∙ pushed_before c.args.column c.args.entries.now.items e refl k l

pub returns-else-value-gt0-clause-value : goal.returns-else-value-gt0-clause-value
returns-else-value-gt0-clause-value c = none_here c.args.column c.args.entries.now.items c.requires.listed ∙ omega (arith, c.if-value-gt0.false)
