-- Lists that are written back, and what holds of an option.
use Rattle.std.proofs.Common.{◌≡◌, ◌++◌, ℕ, List, length, ap, ◌∙◌, take, Option, None, Some, IfNone, IfSome}
use Rattle.std.proofs.Math.Seq.{take-append_seam}

-- the front of a list that was written back
pub written_back : {A : Type 0} (len : ℕ) (new rest : List A) → len ≡ length new → take len (new ++ rest) ≡ new
written_back len new rest e = ap (λ k. take k (new ++ rest)) e ∙ take-append_seam new rest

-- ---- what holds where there is nothing, or something

pub if_none : {X : Type 0} (P Q : Type 0) → (P → Q) → (o : Option X) → IfNone o P → IfNone o Q
if_none P Q f None h = f h
if_none P Q f (Some x) h = h

pub if_some_both : {X : Type 0} (P Q R : X → Type 0) → ((x : X) → P x → Q x → R x) → (o : Option X) → IfSome o P → IfSome o Q → IfSome o R
if_some_both P Q R f None h g = h
if_some_both P Q R f (Some x) h g = f x h g
