use Rattle.std.proofs.Common.{refl}
use Rattle.rp_outside.proofs.memory_desk.MemDeskDesk.read_at.Goals as goal

pub returns-in-None-clause-fails : goal.returns-in-None-clause-fails
returns-in-None-clause-fails c =
    (λ _. rw (← c.self.view_is, ← c.saturating_add-self-inside.ensures, ← c.deref.ensures.value, ← c.deref-2.ensures.value) (c.in-None.ensures.refused.0 refl), λ _. refl)
