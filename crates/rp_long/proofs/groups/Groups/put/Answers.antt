use Rattle.std.proofs.Common.{◌≡◌, Bool, true, false, not, refl, sym, ◌∙◌}
use Rattle.rp_long.proofs.PutLemmas.{joined_known, joined_new}
use Rattle.rp_long.proofs.groups.Groups.put.Goals as goal
use Rattle.rp_long.proofs.groups.Groups.put.Goals.{then-new+in_ok-push, else-new}

turned : (a b : Bool) → a ≡ not b → a ≡ true → b ≡ false
turned a true e f = cc (sym f ∙ e)
turned a false e f = refl

kept : (a b : Bool) → a ≡ not b → a ≡ false → b ≡ true
kept a true e f = refl
kept a false e f = cc (sym f ∙ e)

pub returns : goal.returns
returns c = elim c.if-new.branch [
  | then-new+in_ok-push w ↦
      rw w.self-inside-is (joined_new c.self.inside.ids.keys c.args.id c.self.inside.members.items c.self.inside.unnamed.items c.args.t c.args.self.now c.self.view_is c.requires
      c.insert_full.new.self.keys c.in_ok-h.h c.index_mut.result.now c.push-2.new.self c.in_ok-h.ensures.keys c.in_ok-h.ensures.index c.in_ok-push-2.ensures.items
      w.new.result w.push.new.self.items (turned c.in_ok-h.new _ c.in_ok-h.ensures.added w.if-new.true) w.in_ok-push.ensures.items w.new.ensures.items (rw w.self-inside-is at c.index_mut.ensures.value))
  | else-new w ↦
      rw w.self-inside-is (joined_known c.self.inside.ids.keys c.args.id c.self.inside.members.items c.self.inside.unnamed.items c.args.t c.args.self.now c.self.view_is c.requires
      c.insert_full.new.self.keys c.in_ok-h.h c.index_mut.result.now c.push-2.new.self c.in_ok-h.ensures.keys c.in_ok-h.ensures.index c.in_ok-push-2.ensures.items
      (kept c.in_ok-h.new _ c.in_ok-h.ensures.added w.if-new.false) (rw w.self-inside-is at c.index_mut.ensures.value))
]
