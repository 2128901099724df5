-- Why a certificate's file is refused: its bytes denote a fault, and so no certificate.
use Rattle.std.proofs.Common.{◌≡◌, ◌⊎◌, ◌≤◌, ℕ, List, Result, Ok, Err, length, inl, inr, refl, sym, ◌∙◌}
use Rattle.rp_commands.specs.FaultLines.{file_line}
use Rattle.rp_commands.specs.FaultTexts.{json_fault_text}
use Rattle.rp_fit.specs.declared.item.FitItem.{FitItem}
use Rattle.rp_front.specs.declared.answer.Cause.{Cause}
use Rattle.rp_front.specs.declared.answer.Cause.TheVariants.{Read, Refused, NoMemory}
use Rattle.rp_json.specs.declared.fault.JsonFault.{JsonFault}
use Rattle.rp_json.specs.declared.fault.JsonFault.TheVariants as json_fault
use Rattle.rp_json_fit.specs.FitDenoted.{IsFitDenoted}
use Rattle.rp_json_fit.proofs.ItemListLemmas.{denoted_once}
use Rattle.rp_limits.specs.declared.run.TheConstants.{MOST_CERTIFICATE_BYTES}
use Rattle.rp_fit_answers.specs.Contents.{CertificateIn}
use Rattle.rp_fit_answers.specs.InnerCauses.{IsFaultCause, IsReadingCause}

no_fault : (items : List FitItem) (fault : JsonFault) (r : Result (List FitItem) JsonFault) → r ≡ Err fault → (fault ≡ json_fault.NoMemory → ⊥) → (r ≡ Ok items) ⊎ (r ≡ Err json_fault.NoMemory) → ⊥
no_fault items fault r is other (inl p) = cc
no_fault items fault r is other (inr p) = other cc

pub refused_certificate : (file bytes : List ℕ) (fault : JsonFault) (why : Cause) → length bytes ≤ MOST_CERTIFICATE_BYTES → IsFitDenoted bytes (Err fault)
    → IsFaultCause json_fault.NoMemory (λ f. file_line file (json_fault_text f)) fault why → IsReadingCause (CertificateIn file bytes) why
refused_certificate file bytes fault (Read name) few denoted refused = absurd refused
refused_certificate file bytes fault (Refused line) few denoted (real, is) =
    inr (few, (λ items also. no_fault items fault (Err fault) refl real (denoted_once bytes items (Err fault) also denoted)), (fault, real, denoted, is))
refused_certificate file bytes fault NoMemory few denoted refused = tt
