-- What is known at a unit is taken out: then nothing is known there, and the same as before elsewhere.
use Rattle.std.proofs.Common.{◌≡◌, ◌∙◌, ℕ, zero, suc, List, [], ◌∷◌, length, refl, sym, ap, subst, Option, Some, None, Ok, length-set}
use Rattle.std.specs.Prelude.{ℤ, pos, negsuc, slice_set, IfSome}
use Rattle.insn.specs.declared.insn.Insn.{Insn}
use Rattle.verify.specs.declared.reason.Reason.{Reason}
use Rattle.verify.specs.declared.state.AbsState.{AbsState}
use Rattle.verify.specs.Instructions.{reason_of}
use Rattle.verify.specs.Transfer.{Edge, edge_to, edges}
use Rattle.verify.specs.Judgement.{KnownSoFar, reached_at, along, along_all, settled, passed_at}

-- What is known afterwards was known before.
pub taken_some : (reached : KnownSoFar) (unit v : ℕ) (a : AbsState) → reached_at (slice_set reached unit None) v ≡ Some a → reached_at reached v ≡ Some a
taken_some [] unit v a e = e
taken_some (x ∷ xs) zero zero a e = absurd cc
taken_some (x ∷ xs) zero (suc v) a e = e
taken_some (x ∷ xs) (suc unit) zero a e = e
taken_some (x ∷ xs) (suc unit) (suc v) a e = taken_some xs unit v a e

pub taken_if : (P : AbsState → Type 0) (reached : KnownSoFar) (unit v : ℕ) → IfSome (reached_at reached v) P → IfSome (reached_at (slice_set reached unit None) v) P
taken_if P reached unit v h = by_known (reached_at (slice_set reached unit None) v) refl
  where
    by_known : (o : Option AbsState) → reached_at (slice_set reached unit None) v ≡ o → IfSome o P
    by_known None e = tt
    by_known (Some a) e = subst (λ (o : Option AbsState). IfSome o P) (taken_some reached unit v a e) h

-- ---- the number of units is unchanged

pub length-along : (e : Edge) (reached : KnownSoFar) → length (along e reached) ≡ length reached
length-along (pos u, a) reached = length-set reached u _
length-along (negsuc n, a) reached = refl

length-along_all : (es : List Edge) (reached : KnownSoFar) → length (along_all es reached) ≡ length reached
length-along_all [] reached = refl
length-along_all (e ∷ es) reached = length-along_all es (along e reached) ∙ length-along e reached

pub length-edge : (z : ℤ) (o : Option AbsState) (old new : KnownSoFar) → new ≡ along_all (edge_to z o) old → length new ≡ length old
length-edge z o old new e = ap (λ (reached : KnownSoFar). length reached) e ∙ length-along_all (edge_to z o) old

settled_length : (o : Option Reason) (unit : ℕ) (reached next : KnownSoFar) → settled o unit reached ≡ Ok next → length next ≡ length reached
settled_length None unit reached next e = let same : reached ≡ next = cc in ap length (sym same)
settled_length (Some reason) unit reached next e = absurd cc

pub length-passed_at : (unit : ℕ) (o : Option Insn) (known : Option AbsState) (reached next : KnownSoFar) → passed_at unit o known reached ≡ Ok next → length next ≡ length reached
length-passed_at unit None known reached next e = let same : reached ≡ next = cc in ap length (sym same)
length-passed_at unit (Some i) None reached next e = let same : reached ≡ next = cc in ap length (sym same)
length-passed_at unit (Some i) (Some a) reached next e =
    settled_length (reason_of i a) unit (along_all (edges i unit a) (slice_set reached unit None)) next e
    ∙ (length-along_all (edges i unit a) (slice_set reached unit None) ∙ length-set reached unit None)
