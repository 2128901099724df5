-- Walks by any step, in the two ways of writing them: as a list that leads on, and by its observations and its end.
use Rattle.std.proofs.Common.{◌≡◌, ℕ, suc, ◌<◌, arith, List, [], ◌∷◌, All}
use Rattle.rp_evidence.specs.Walk.{AnyStep, LeadsTo}
use Rattle.rp_walk.specs.Walk.{AreObservations, TotalRule, end_of}
use Rattle.rp_walk.proofs.Walks.{All-cons}

pub leads_to : (w : TotalRule) (t s : ℕ) (rest : List ℕ) → LeadsTo w.count AnyStep t s rest → AreObservations w t rest × (end_of t rest ≡ s)
leads_to w t s [] h = (record { begins_within = h.0; goes_within = λ k d below. absurd (omega arith) }, h.1)
leads_to w t s (x ∷ rest) h =
    let further = leads_to w x s rest h.2 in
    (record { begins_within = h.0; goes_within = All-cons (λ m. m < w.count) x rest further.0.begins_within further.0.goes_within }, further.1)

pub leads_from : (n : ℕ) (t s : ℕ) (rest : List ℕ) → t < n → All (λ m. m < n) rest → end_of t rest ≡ s → LeadsTo n AnyStep t s rest
leads_from n t s [] ht within e = (ht, e)
leads_from n t s (x ∷ rest) ht within e =
    (ht, tt, leads_from n x s rest (within 0 x (omega arith)) (λ k d below. within (suc k) d (omega arith)) e)
