-- How far the verifier comes follows from what it returns.
use Rattle.std.proofs.Common.{ℕ, ◌≡◌, ◌∙◌, ◌⊎◌, inl, inr, ap, sym}
use Rattle.std.specs.Prelude.{Option, Some, Result, Ok, Err, IfOk}
use Rattle.std.specs.declared.alloc.AllocError.{AllocError}
use Rattle.verify.specs.declared.error.VerifyError.{VerifyError}
use Rattle.verify.specs.declared.error.VerifyError.TheVariants.{Memory}
use Rattle.reaching.specs.declared.edits.Trial.{Trial}
use Rattle.reaching.specs.Mends.{ComesBy, comes}

pub came : (unit : ℕ) (fault : VerifyError) (judged : Option VerifyError) (answer : Result Trial AllocError)
    → ComesBy unit fault answer → (fault ≡ Memory) ⊎ (judged ≡ Some fault) → IfOk answer (λ trial. trial ≡ comes unit judged)
came unit fault judged (Ok trial) is (inl memory) = absurd (is.0 memory)
came unit fault judged (Ok trial) is (inr told) = is.1 ∙ ap (λ (j : Option VerifyError). comes unit j) (sym told)
came unit fault judged (Err e) is told = tt
