-- The code treats an instruction that continues with the next one as the definition does.
use Rattle.std.proofs.Common.{◌≡◌, ◌∙◌, ℕ, ◌+◌, [], ◌∷◌, refl, sym, ap, ap₂, List, Option, Ok, Err}
use Rattle.std.specs.Prelude.{pos}
use Rattle.insn.specs.declared.insn.Insn.{Insn}
use Rattle.insn.specs.declared.insn.Insn.TheVariants.{Arithmetic, Negate, SignExtend, Swap, LoadImmediate, Jump, LongJump, Branch, Load, LoadSigned, Store, Call, Exit}
use Rattle.insn.specs.Insn.{units_of}
use Rattle.verify.specs.declared.error.VerifyError.TheVariants.{At}
use Rattle.verify.specs.declared.reason.Reason.{Reason}
use Rattle.verify.specs.declared.state.AbsState.{AbsState}
use Rattle.verify.specs.Instructions.{IsStraight, straight_reason, reason_of}
use Rattle.verify.specs.Reasons.{outcome}
use Rattle.verify.specs.Transfer.{Edge, edges, transfer, stepped}
use Rattle.verify.specs.Judgement.{KnownSoFar, along, along_all, settled, followed}
use Rattle.verify.proofs.CallChecks.{refused_for, accepted_with}

-- The instruction has one edge, and its reason is the general one.
abbrev OnlyOne : Insn → ℕ → AbsState → Type 0
OnlyOne i unit a = (edges i unit a ≡ (pos (unit + units_of i), transfer i a) ∷ []) × ((b : AbsState) → reason_of i b ≡ straight_reason i b)

only_one : (i : Insn) (unit : ℕ) (a : AbsState) → IsStraight i → OnlyOne i unit a
only_one (Arithmetic w operation dst operand) unit a s = (refl, λ b. refl)
only_one (Negate w dst) unit a s = (refl, λ b. refl)
only_one (SignExtend w part dst src) unit a s = (refl, λ b. refl)
only_one (Swap order size dst) unit a s = (refl, λ b. refl)
only_one (LoadImmediate dst number) unit a s = (refl, λ b. refl)
only_one (Jump distance) unit a s = absurd s
only_one (LongJump distance) unit a s = absurd s
only_one (Branch w condition dst operand distance) unit a s = absurd s
only_one (Load size dst base offset) unit a s = (refl, λ b. refl)
only_one (LoadSigned part dst base offset) unit a s = (refl, λ b. refl)
only_one (Store size base offset source) unit a s = (refl, λ b. refl)
only_one (Call helper) unit a s = (refl, λ b. refl)
only_one Exit unit a s = absurd s

straight_settled : (i : Insn) (unit : ℕ) (a : AbsState) (reached : KnownSoFar) → IsStraight i →
    followed unit i a reached ≡ settled (straight_reason i a) unit (along (pos (unit + units_of i), transfer i a) reached)
straight_settled i unit a reached s =
    let one = only_one i unit a s in
    ap₂ (λ (o : Option Reason) (es : List Edge). settled o unit (along_all es reached)) (one.1 a) one.0

-- The instruction is rejected.
pub straight_stops : (i : Insn) (unit : ℕ) (a b : AbsState) (reached : KnownSoFar) (reason : Reason) → IsStraight i → outcome (Err reason) b ≡ stepped i a →
    followed unit i a reached ≡ Err (At reason unit)
straight_stops i unit a b reached reason s e =
    straight_settled i unit a reached s
    ∙ ap (λ (o : Option Reason). settled o unit (along (pos (unit + units_of i), transfer i a) reached)) (refused_for (Err reason) (straight_reason i a) reason b (transfer i a) refl e)

-- The instruction is accepted, and what is known after it is passed on.
pub straight_runs : (i : Insn) (unit to : ℕ) (a b : AbsState) (u : Unit {0}) (old new : KnownSoFar) → IsStraight i → outcome (Ok u) b ≡ stepped i a → to ≡ unit + units_of i →
    new ≡ along (pos to, b) old → followed unit i a old ≡ Ok new
straight_runs i unit to a b u old new s e there h =
    let left = accepted_with (Ok u) (straight_reason i a) u b (transfer i a) refl e in
    straight_settled i unit a old s
    ∙ (ap (λ (o : Option Reason). settled o unit (along (pos (unit + units_of i), transfer i a) old)) left.0
    ∙ ap (λ (r : KnownSoFar). Ok r) (sym (h ∙ ap₂ (λ (n : ℕ) (c : AbsState). along (pos n, c) old) there left.1)))
