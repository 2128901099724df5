use Rattle.std.proofs.Common.{◌≡◌, ◌<◌, length, true, false, refl, sym, ap, ◌∙◌, arith, subst}
use Rattle.std.specs.Option.{option_map_or}
use Rattle.rp_table.specs.Names.{IsName}
use Rattle.rp_forms.specs.Texts.{text_at}
use Rattle.rp_forms.specs.Columns.{role_of, is_price, name_in}
use Rattle.rp_sheet.proofs.NameLemmas.{price_header, named, names_more_yes, names_more_no}
use Rattle.rp_sheet.proofs.goods.read_names.Goals as goal
use Rattle.rp_sheet.proofs.goods.read_names.Goals.{then-is_price+in_ok-from_slice+in_ok-push, else-is_price}

pub new-requires : goal.new-requires
new-requires c =
    let says : option_map_or is_price (role_of c.args.columns.now.form.marks (text_at c.args.columns.now.headers c.loop-c.c)) false ≡ true = rw c.role.ensures (sym c.is_price.ensures ∙ c.if-is_price.true) in
    let name = c.in_ok-from_slice.ensures.items ∙ c.name_in.ensures ∙ ap name_in c.header.ensures in
    subst IsName (sym name) (named (name_in (text_at c.args.columns.now.headers c.loop-c.c)) (price_header _ (text_at c.args.columns.now.headers c.loop-c.c) says).0)

pub loop-c-preserved : goal.loop-c-preserved
loop-c-preserved c =
    let within : c.loop-c.c < length c.args.columns.now.headers = omega (arith, c.len-c-end.ensures, c.loop-c-test.true) in
    elim c.if-is_price.branch [
      | then-is_price+in_ok-from_slice+in_ok-push w ↦
          let says : option_map_or is_price (role_of c.args.columns.now.form.marks (text_at c.args.columns.now.headers c.loop-c.c)) false ≡ true = rw c.role.ensures (sym c.is_price.ensures ∙ w.if-is_price.true) in
          let name = w.new.ensures ∙ w.in_ok-from_slice.ensures.items ∙ w.name_in.ensures ∙ ap name_in w.header.ensures in
          rw (w.names-is, w.in_ok-push.ensures.items, c.loop-c.invariant, names_more_yes _ is_price c.args.columns.now.headers c.loop-c.c within says, name) refl
      | else-is_price w ↦
          let says : option_map_or is_price (role_of c.args.columns.now.form.marks (text_at c.args.columns.now.headers c.loop-c.c)) false ≡ false = rw c.role.ensures (sym c.is_price.ensures ∙ w.if-is_price.false) in
          rw (w.names-is, c.loop-c.invariant, names_more_no _ is_price c.args.columns.now.headers c.loop-c.c within says) refl
    ]
