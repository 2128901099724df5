use Rattle.std.proofs.Common.{All, subst, sym}
use Rattle.rp_evidence.specs.Input.{input_of_table}
use Rattle.rp_fit_find.specs.InnerReady.{IsReady}
use Rattle.rp_fit_find.proofs.Certificates.{all_accepted, all_fit, all_prove, ready_items}
use Rattle.rp_fit_find.proofs.certificate.find_fit.Goals as goal

pub returns-clause-accepted : goal.returns-clause-accepted
returns-clause-accepted c =
    let input = input_of_table c.args.input.now.table.now in
    let ready : All (IsReady input) c.in_ok-items.items = subst (λ items. All (IsReady input) items) (sym c.in_ok-items.ensures) (ready_items input c.in_ok-parts.parts c.in_ok-parts.ensures.ready) in
    all_accepted input c.in_ok-items.items ready

pub returns-clause-proves : goal.returns-clause-proves
returns-clause-proves c =
    let input = input_of_table c.args.input.now.table.now in
    let ready : All (IsReady input) c.in_ok-items.items = subst (λ items. All (IsReady input) items) (sym c.in_ok-items.ensures) (ready_items input c.in_ok-parts.parts c.in_ok-parts.ensures.ready) in
    all_prove input c.in_ok-items.items ready

pub returns-clause-fits : goal.returns-clause-fits
returns-clause-fits c =
    let input = input_of_table c.args.input.now.table.now in
    let ready : All (IsReady input) c.in_ok-items.items = subst (λ items. All (IsReady input) items) (sym c.in_ok-items.ensures) (ready_items input c.in_ok-parts.parts c.in_ok-parts.ensures.ready) in
    all_fit input c.in_ok-items.items ready

pub returns-clause-kinds : goal.returns-clause-kinds
returns-clause-kinds c =
    let parts = c.in_ok-parts.parts in
    let ready = c.in_ok-parts.ensures.ready in
    record {
      violations = parts.violations;
      efficiency = parts.efficiency;
      kept = parts.kept;
      mean = parts.mean;
      squares = parts.squares;
      steps = parts.steps;
      pump = parts.pump;
      quasilinear = parts.quasilinear;
      homothetic = parts.homothetic;
      listed = c.in_ok-items.ensures;
      by_mean = ready.by_mean;
      by_squares = ready.by_squares;
      pump_left_out = c.in_ok-parts.ensures.pump;
    }
