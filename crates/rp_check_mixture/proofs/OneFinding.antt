-- Where nothing is found wrong with evidence on a mixture, nothing wrong can be found.
use Rattle.std.proofs.Common.{List, ℕ, Ok, Err, inl, inr}
use Rattle.rp_evidence.specs.declared.failure.Failure.{Failure}
use Rattle.rp_evidence.specs.declared.random.RandomPart.{RandomPart}
use Rattle.rp_evidence.specs.declared.random.RandomPart.TheVariants.{Mixture, Violated, Wide}
use Rattle.rp_evidence.specs.declared.random.Share.{Share}
use Rattle.rp_patch.specs.KindFailure.{EvidenceFailsOf, MixtureFailsOf, PartFailsOf, PartsFailOf, ViolationFailsOf}
use Rattle.rp_patch.specs.Kinds.{Kinds}

module _ (k : Kinds) (e : Failure) where
  part_excludes : (parts : List Share) (n : ℕ) → PartFailsOf k parts n (Ok tt) → PartFailsOf k parts n (Err e) → ⊥
  part_excludes parts n (formed, (some, (kind, (ordered, done)))) (inl (not, is)) = not formed
  part_excludes parts n (formed, (some, (kind, (ordered, done)))) (inr (h, inl (not, is))) = not some
  part_excludes parts n (formed, (some, (kind, (ordered, done)))) (inr (h, inr (i, inl (not, is)))) = not kind
  part_excludes parts n (formed, (some, (kind, (ordered, done)))) (inr (h, inr (i, inr (j, inl (not, is))))) = not ordered
  part_excludes parts n (formed, (some, (kind, (ordered, done)))) (inr (h, inr (i, inr (j, inr none)))) = none.1

  parts_exclude : (parts : List Share) → PartsFailOf k parts (Ok tt) → PartsFailOf k parts (Err e) → ⊥
  parts_exclude parts holds (n, within, found, before) = part_excludes parts n (holds n within) found

  mixture_excludes : (den : ℕ) (parts : List Share) → MixtureFailsOf k den parts (Ok tt) → MixtureFailsOf k den parts (Err e) → ⊥
  mixture_excludes den parts (fit, (kinds, (exact, done))) (inl (not, is)) = not fit
  mixture_excludes den parts (fit, (kinds, (exact, done))) (inr (h, inl found)) = parts_exclude parts kinds found
  mixture_excludes den parts (fit, (kinds, (exact, done))) (inr (h, inr (i, inl (n, within, (not, is), before)))) = not (exact n within)
  mixture_excludes den parts (fit, (kinds, (exact, done))) (inr (h, inr (i, inr none))) = none.1

  violation_excludes : (den : ℕ) (parts : List Share) (weights : List ℕ) → ViolationFailsOf k den parts weights (Ok tt) → ViolationFailsOf k den parts weights (Err e) → ⊥
  violation_excludes den parts weights (fit, (kinds, (one_each, (units, (heavy, (equal, (less, done))))))) (inl (not, is)) = not fit
  violation_excludes den parts weights (fit, (kinds, (one_each, (units, (heavy, (equal, (less, done))))))) (inr (h, inl found)) = parts_exclude parts kinds found
  violation_excludes den parts weights (fit, (kinds, (one_each, (units, (heavy, (equal, (less, done))))))) (inr (h, inr (i, inl (not, is)))) = not one_each
  violation_excludes den parts weights (fit, (kinds, (one_each, (units, (heavy, (equal, (less, done))))))) (inr (h, inr (i, inr (j, inl (n, within, (not, is), before))))) =
      not (units n within)
  violation_excludes den parts weights (fit, (kinds, (one_each, (units, (heavy, (equal, (less, done))))))) (inr (h, inr (i, inr (j, inr (m, inl (not, is)))))) = not heavy
  violation_excludes den parts weights (fit, (kinds, (one_each, (units, (heavy, (equal, (less, done))))))) (inr (h, inr (i, inr (j, inr (m, inr (l, inl (not, is))))))) = not equal
  violation_excludes den parts weights (fit, (kinds, (one_each, (units, (heavy, (equal, (less, done))))))) (inr (h, inr (i, inr (j, inr (m, inr (l, inr (o, inl (not, is)))))))) = not less
  violation_excludes den parts weights (fit, (kinds, (one_each, (units, (heavy, (equal, (less, done))))))) (inr (h, inr (i, inr (j, inr (m, inr (l, inr (o, inr none))))))) = none.1

  pub evidence_excludes : (part : RandomPart) → EvidenceFailsOf k part (Ok tt) → EvidenceFailsOf k part (Err e) → ⊥
  evidence_excludes (Mixture den parts) = mixture_excludes den parts
  evidence_excludes (Violated den parts weights) = violation_excludes den parts weights
  evidence_excludes (Wide step) = λ holds found. found
