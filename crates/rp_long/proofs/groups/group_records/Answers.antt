use Rattle.std.proofs.Common.{sym, ap, ◌∙◌, add-one}
use Rattle.rp_forms.specs.Texts.{trimmed}
use Rattle.rp_long.specs.Ids.{Grouped, grouped_below, id_fault, refusing, with_member}
use Rattle.rp_long.specs.Panels.{id_text}
use Rattle.rp_long.proofs.GroupLemmas.{put_next, refuse_next}
use Rattle.rp_long.proofs.groups.group_records.Goals as goal
use Rattle.rp_long.proofs.groups.group_records.Goals.{in-Some+in_ok-refuse-in-Some, in-None+in_ok-put-in-None}

pub loop-t-preserved : goal.loop-t-preserved
loop-t-preserved c =
    let text = id_text c.args.column c.args.records.now in
    let t = c.loop-t.t in
    let is = c.trimmed-id.ensures ∙ ap trimmed c.row_field.ensures in
    elim c.match-id_fault.branch [
      | in-Some+in_ok-refuse-in-Some w ↦
          let bad = ap id_fault (sym is) ∙ sym c.id_fault.ensures ∙ w.in-Some.is in
          w.groups-is ∙ w.in_ok-refuse-in-Some.ensures ∙ ap (λ (g : Grouped). refusing g t w.in-Some.fault) c.loop-t.invariant ∙ refuse_next text t w.in-Some.fault bad ∙ ap (grouped_below text) (sym (add-one t))
      | in-None+in_ok-put-in-None w ↦
          let fine = ap id_fault (sym is) ∙ sym c.id_fault.ensures ∙ w.in-None.is in
          w.groups-is ∙ w.in_ok-put-in-None.ensures ∙ ap (λ (g : Grouped). with_member g c.trimmed-id.result.now t) c.loop-t.invariant
          ∙ ap (λ id. with_member (grouped_below text t) id t) is ∙ put_next text t fine ∙ ap (grouped_below text) (sym (add-one t))
    ]
