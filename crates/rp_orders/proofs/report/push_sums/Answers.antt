use Rattle.std.proofs.Common.{◌≡◌, ◌++◌, [], ap, refl, arith}
use Rattle.rp_print.proofs.Texts.{on_ok}
use Rattle.rp_orders.specs.Report.{sum_text}
use Rattle.rp_orders.proofs.LeastLemmas.{small_menu}
use Rattle.rp_orders.proofs.ReportLemmas.{nothing_more}
use Rattle.rp_orders.proofs.report.push_sums.Goals as goal

pub returns-then-not-is_complete : goal.returns-then-not-is_complete
returns-then-not-is_complete c = (
  [],
  record {
    complete = λ all. absurd (let yes = c.is_complete.ensures.1 all in let no = c.if-not-is_complete.true in cc);
    incomplete = λ some_missing. refl;
  },
  nothing_more c.args.out.now.items,
)

pub push_least-requires : goal.push_least-requires
push_least-requires c = small_menu c.args.seen.now.letters c.least_sum.result.menu (omega (arith, c.letters.ensures.exact, c.letters.ensures.few)) c.least_sum.ensures.least.within

pub returns : goal.returns
returns c =
    let least = c.least_sum.result in
    on_ok (c.push_least.new.out.items ≡ c.args.out.now.items ++ sum_text least.sum least.letter least.menu) _
    (λ made. (
      sum_text least.sum least.letter least.menu,
      record {
        complete = λ all. (least.menu, least.letter, c.least_sum.ensures.least, ap (λ sum. sum_text sum least.letter least.menu) c.least_sum.ensures.exact);
        incomplete = λ none. absurd (none (c.is_complete.ensures.0 c.if-not-is_complete.false));
      },
      made,
    ))
    c.push_least.result c.push_least.ensures
