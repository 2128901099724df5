-- For the proofs alone: the laws of the program of panels that the trait `Program` asks for.
use Rattle.std.proofs.Common.{◌≡◌, ◌≢◌, ◌≤◌, ℕ, List, Option, None, Some, Result, IfOk, inl, inr, length, refl, sym, subst, ◌∙◌}
use Rattle.std.proofs.Math.Nat.{not-le_of_lt}
use Rattle.rp_bound_rows.specs.declared.asked.BoundsAsked.{BoundsAsked}
use Rattle.rp_front.specs.Endings.{IsEnd}
use Rattle.rp_front.specs.declared.status.Status.{Status}
use Rattle.rp_limits.specs.declared.run.TheConstants.{MOST_BYTES}
use Rattle.rp_long.specs.Panels.{Panel}
use Rattle.rp_long.specs.declared.fault.LongFault.{LongFault}
use Rattle.rp_panel_run.specs.Endings.{IsTextBy}
use Rattle.rp_panel_run.specs.Front.{IsKnownLongRefusal, IsKnownNewRefusal, panels}
use Rattle.rp_panel_run.specs.Questions.{Asking}

pub begins_unrefused : (a : Asking) (known : ℕ → Option (List ℕ)) (line : List ℕ) → known 0 ≡ None → panels.refuses a known line → ⊥
begins_unrefused a known line none (inl long) = subst (λ (k : Option (List ℕ)). IsKnownLongRefusal a k line) none long
begins_unrefused a known line none (inr new) =
    subst (λ (k : Option (List ℕ)). IsKnownNewRefusal a k (known 1) line) none new

pub answers_end : (a : Asking) (bytes : ℕ → List ℕ) (s : Status) (text told : List ℕ)
    → panels.answers a bytes s text told → IsEnd s
answers_end a bytes s text told (done, is) = subst IsEnd (sym done) tt

-- new prices at which bounds are told have few enough bytes
pub few_new : (bounds : Option BoundsAsked) (a : Asking) (new : List ℕ) (panel : Panel) (text : List ℕ)
    → IsTextBy bounds a new panel text → bounds ≢ None → length new ≤ MOST_BYTES
few_new None a new panel text is some = absurd (some refl)
few_new (Some asked) a new panel text is some = is.few

pub answers_accepted : (a : Asking) (bytes : ℕ → List ℕ) (s : Status) (text told : List ℕ)
    → panels.answers a bytes s text told → panels.accepts a bytes
answers_accepted a bytes s text told (done, is) = record {
  long = record { few = is.few; panel = is.panel; denoted = is.denoted };
  new = λ some. few_new a.bounds a (bytes 1) is.panel text is.answers.is_text some;
}

pub never_both : (a : Asking) (bytes : ℕ → List ℕ) (line : List ℕ) → panels.accepts a bytes
    → panels.refuses a (λ k. Some (bytes k)) line → ⊥
never_both a bytes line accepted (inl (inl long)) = not-le_of_lt long.many accepted.long.few
never_both a bytes line accepted (inl (inr fault)) =
    subst (λ (r : Result Panel LongFault). IfOk r (λ panel. ⊥)) (sym fault.denoted ∙ accepted.long.denoted) tt
never_both a bytes line accepted (inr new) = not-le_of_lt new.many (accepted.new new.asked)
