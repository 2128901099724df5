use Rattle.std.proofs.Common.{arith, subst, sym, ap, ◌∙◌, ◌≡◌, ◌<◌, ◌++◌, [], ◌∷◌, length, get_or, Some, None, string_bytes}
use Rattle.serde_json.specs.View.{members_view, view}
use Rattle.rp_json_entries.specs.InnerMembers.{texts, views}
use Rattle.rp_json_entries.proofs.MemberLemmas.{AreSeen, all_seen, length_texts, length_views, no_other_bytes, none_left, none_other, one_seen, one_view, other_bytes, text_at}
use Rattle.rp_json_entries.proofs.objects.values_of.Goals.{then-at-names-via-then-at-names, then-at-names-via-else-at-names+then-ne, then-len-names, else-len-names}
use Rattle.rp_json_entries.proofs.objects.values_of.Goals as goal

pub returns-then-at-names-clause-none : goal.returns-then-at-names-clause-none
returns-then-at-names-clause-none c = elim c.then-at-names.branch [
  | then-at-names-via-then-at-names w ↦ λ e ds. none_other (texts c.args.names.now) (members_view c.args.members.now.entries) (members_view c.next.new.self) (views c.loop-name.values.items) ds (string_bytes c.in-Some.name.now) (view c.in-Some.value.now)
      (subst (λ it. AreSeen (texts c.args.names.now) (members_view c.args.members.now.entries) (members_view it) (views c.loop-name.values.items)) c.in-Some.ensures.steps c.loop-name.invariant)
      (λ less. absurd (omega (arith, less, length_texts c.args.names.now, length_views c.loop-name.values.items, w.if-at-names.true, c.len-at.ensures, c.loop-name.values.ok.0)))
  | then-at-names-via-else-at-names+then-ne w ↦ λ e ds. none_other (texts c.args.names.now) (members_view c.args.members.now.entries) (members_view c.next.new.self) (views c.loop-name.values.items) ds (string_bytes c.in-Some.name.now) (view c.in-Some.value.now)
      (subst (λ it. AreSeen (texts c.args.names.now) (members_view c.args.members.now.entries) (members_view it) (views c.loop-name.values.items)) c.in-Some.ensures.steps c.loop-name.invariant)
      (λ less same.
      let at : c.len-at.result ≡ length (views c.loop-name.values.items) = omega (arith, length_views c.loop-name.values.items, c.len-at.ensures, c.loop-name.values.ok.0) in
      let within : c.len-at.result < length c.args.names.now = omega (arith, less, at, length_texts c.args.names.now) in
      other_bytes _ _ w.if-ne.ensures (w.as_str.ensures.value ∙ same ∙ ap (λ k. get_or (texts c.args.names.now) k []) (sym at) ∙ sym (text_at c.args.names.now c.len-at.result _ within)))
]

pub loop-name-preserved : goal.loop-name-preserved
loop-name-preserved c =
    let at : c.len-at.result ≡ length (views c.loop-name.values.items) = omega (arith, length_views c.loop-name.values.items, c.len-at.ensures, c.loop-name.values.ok.0) in
    let within : c.len-at.result < length c.args.names.now = omega (arith, at, c.loop-name.invariant.few, length_texts c.args.names.now, c.if-at-names.false) in
    let same : string_bytes c.in-Some.name.now ≡ get_or (texts c.args.names.now) (length (views c.loop-name.values.items)) [] =
    sym c.as_str.ensures.value ∙ no_other_bytes _ _ (sym c.ne.ensures ∙ c.if-ne.false) ∙ text_at c.args.names.now c.len-at.result _ within ∙ ap (λ k. get_or (texts c.args.names.now) k []) at in
    let values : views c.push.new.self.items ≡ views c.loop-name.values.items ++ view c.in-Some.value.now ∷ [] =
    ap views c.in_ok-push.ensures.items ∙ one_view c.loop-name.values.items c.in-Some.value in
    subst (λ ds. AreSeen (texts c.args.names.now) (members_view c.args.members.now.entries) (members_view c.next.new.self) ds) (sym values)
    (one_seen (texts c.args.names.now) (members_view c.args.members.now.entries) (members_view c.next.new.self) (views c.loop-name.values.items) (string_bytes c.in-Some.name.now) (view c.in-Some.value.now)
    (subst (λ it. AreSeen (texts c.args.names.now) (members_view c.args.members.now.entries) (members_view it) (views c.loop-name.values.items)) c.in-Some.ensures.steps c.loop-name.invariant)
    (omega (arith, at, within, length_texts c.args.names.now)) same)

pub returns-clause-some : goal.returns-clause-some
returns-clause-some c = elim c.if-len-names.branch [
  | then-len-names w ↦ rw w.result-is (all_seen (texts c.args.names.now) (members_view c.args.members.now.entries) (views c.loop-name.values.items)
      (subst (λ it. AreSeen (texts c.args.names.now) (members_view c.args.members.now.entries) (members_view it) (views c.loop-name.values.items)) c.in-None.ensures.steps.0 c.loop-name.invariant)
      (omega (arith, length_views c.loop-name.values.items, length_texts c.args.names.now, w.if-len-names.true, c.len.ensures, c.loop-name.values.ok.0)))
  | else-len-names w ↦ rw w.result-is tt
]

pub returns-clause-none : goal.returns-clause-none
returns-clause-none c = elim c.if-len-names.branch [
  | then-len-names w ↦ λ e. absurd (let q : Some c.loop-name.values ≡ None = sym w.result-is ∙ e in cc)
  | else-len-names w ↦ λ e ds. none_left (texts c.args.names.now) (members_view c.args.members.now.entries) (views c.loop-name.values.items) ds
      (subst (λ it. AreSeen (texts c.args.names.now) (members_view c.args.members.now.entries) (members_view it) (views c.loop-name.values.items)) c.in-None.ensures.steps.0 c.loop-name.invariant)
      (λ same. absurd (omega (arith, same, length_views c.loop-name.values.items, length_texts c.args.names.now, w.if-len-names.false, c.len.ensures, c.loop-name.values.ok.0)))
]
