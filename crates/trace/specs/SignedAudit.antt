-- Which texts the audit of a signed campaign accepts, and the fault that it reports for others (own).
use Rattle.std.specs.Prelude.{ℕ, ◌≡◌, Bool, true, false, List, [], ◌∷◌, bytes_eq, codes}
use Rattle.text.specs.Stop.{feed}
use Rattle.text.specs.Parts.{pieces}
use Rattle.round.specs.Scenario.{Scenario}
use Rattle.world.specs.Chronicle.{Chronicle}
use Rattle.world.specs.KindLists.{replayed}
use Rattle.signed.specs.Kind.{signed_kind, played}
use Rattle.signed.specs.Chronicle.{signed_chronicle_of}
use Rattle.trace.specs.declared.fault.TraceError.{TraceError}
use Rattle.trace.specs.Audit.{IsFirstDifference, fault_at}
use Rattle.trace.specs.Names.{names_of}
use Rattle.trace.specs.SignedText.{signed_text}

-- Returns the chronicle of the replay of the accesses that a text lists.
unfoldable pub signed_chronicle_told : Scenario → List ℕ → Chronicle
signed_chronicle_told s t = signed_chronicle_of (played s (replayed signed_kind s (names_of t)))

-- States that the audit accepts the text: it is the chronicle of the replay of its own accesses.
abbrev pub IsSoundSignedText : Scenario → List ℕ → Type 0
IsSoundSignedText s t = t ≡ signed_text (signed_chronicle_told s t)

-- Returns whether the first line is `chronicle 3`, the version of signed campaigns.
abbrev pub is_third : List (List ℕ) → Bool
is_third [] = false
is_third (line ∷ lines) = bytes_eq line (codes "chronicle 3")

-- Returns whether the first line of a text is `chronicle 3`, the version of signed campaigns.
unfoldable pub is_third_version : List ℕ → Bool
is_third_version t = is_third (pieces feed t)

-- States that the text first differs from the chronicle of its replay at byte offset `place`. If the first line is not
-- `chronicle 3`, `place` is 0.
abbrev pub SignedDiffersAt : Scenario → List ℕ → Bool → ℕ → Type 0
SignedDiffersAt s t false place = place ≡ 0
SignedDiffersAt s t true place = IsFirstDifference t (signed_text (signed_chronicle_told s t)) place

-- States that `e` is the error to report for a text that is not sound: it results from the first difference.
pub record IsSignedFaultOf (s : Scenario) (t : List ℕ) (e : TraceError) : Type 0 where
  pub place : ℕ
  pub differs : SignedDiffersAt s t (is_third_version t) place
  pub fault : e ≡ fault_at t place
