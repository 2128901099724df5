use Rattle.std.proofs.Common.{refl}
use Rattle.rp_json_fit.proofs.ItemListLemmas.{read_back}
use Rattle.rp_fit_answers.proofs.indices.indices_answer.Goals as goal

pub returns : goal.returns
returns c =
    let items = c.in_ok-items.items in (
      record {
        items = items;
        proves = rw c.new-input.ensures.of at c.in_ok-items.ensures.proves;
        accepted = rw c.new-input.ensures.of at c.in_ok-items.ensures.accepted;
        kinds = rw c.new-input.ensures.of at c.in_ok-items.ensures.kinds;
        read_back = λ result denoted. read_back items result c.in_ok-items.ensures.fits denoted;
        ends = refl;
        tells = rw (c.as_slice.ensures, c.new-input.ensures.of) at c.in_ok-text.ensures;
      },
      c.new.ensures.items,
    )
