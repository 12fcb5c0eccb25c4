-- How the code closes a round: it makes drafts of the letters and the parts of the next round, which need memory,
-- before anything changes (own). No claim rests on this file. World.antt says what a close does.
use Rattle.std.specs.Prelude.{ℕ, suc, ◌≡◌, nat_lt, cond, List, [], ◌∷◌, replicate, slice_get, Option, None, Some}
use Rattle.semantics.specs.Limits.{context_size}
use Rattle.insn.specs.declared.insn.Insn.{Insn}
use Rattle.board.specs.Board.{Access}
use Rattle.semantics.specs.Relay.{oral}
use Rattle.round.specs.Scenario.{Scenario, program_of, shape_of}
use Rattle.round.specs.Letters.{Letter}
use Rattle.round.specs.Contexts.{faithful_letter}
use Rattle.round.specs.Activation.{Activation, started}
use Rattle.round.specs.Running.{letter_left}
use Rattle.round.specs.Runs.{IsLetter}
pub use Rattle.world.specs.declared.draft.LetterDraft.{LetterDraft}
pub use Rattle.world.specs.declared.draft.LetterDraft.TheVariants.{Begun, Whole, Missing}
use Rattle.world.specs.Part.{Progress, Acting, Silent, Posted}
use Rattle.world.specs.World.{each, accesses_of}

-- Returns the draft of a general's letter: a traitor's accesses, a loyal general's whole letter, or `Missing`.
abbrev pub draft_of : Scenario → List (List Letter) → List Access → ℕ → Option Progress → LetterDraft
draft_of s closed accesses g (Some (Acting a)) = Begun (accesses_of g accesses)
draft_of s closed accesses g (Some Silent) = Missing
draft_of s closed accesses g (Some Posted) = Whole (faithful_letter s closed g)
draft_of s closed accesses g None = Missing

-- Returns the drafts of all generals' letters.
abbrev pub drafts_held : Scenario → List (List Letter) → List Access → List Progress → List LetterDraft
drafts_held s closed accesses parts = each s.generals (λ g. draft_of s closed accesses g (slice_get parts g) ∷ [])

-- Returns a general's letter, made from its draft and his part in the round, or the empty list if he has none.
abbrev pub letter_from : ℕ → ℕ → Option LetterDraft → Option Progress → List Letter
letter_from g round (Some (Begun transcript)) (Some (Acting a)) = letter_left g round transcript a ∷ []
letter_from g round (Some (Whole letter)) part = letter ∷ []
letter_from g round _ _ = []

-- Returns the letters of the first `n` generals, made from their drafts and their parts in the round.
abbrev pub letters_from : ℕ → ℕ → List LetterDraft → List Progress → List Letter
letters_from n round drafts parts = each n (λ g. letter_from g round (slice_get drafts g) (slice_get parts g))

-- States that each activation with a draft has run as its letter says.
abbrev pub AreDraftsOf : ℕ → List LetterDraft → List Progress → Type 0
AreDraftsOf round drafts parts = (g : ℕ) (transcript : List Access) (a : Activation) →
    slice_get drafts g ≡ Some (Begun transcript) → slice_get parts g ≡ Some (Acting a) →
    IsLetter (letter_left g round transcript a)

-- Returns a context that consists of zero bytes.
unfoldable pub zeros : List ℕ
zeros = replicate context_size 0

-- Returns a general's part at the start of the round after `before` rounds. A traitor's context is still all zeros.
abbrev pub blank : Scenario → ℕ → ℕ → Option (List Insn) → Progress
blank s before g None = Silent
blank s before g (Some program) = Acting (started s.patience program zeros (oral (shape_of s g (suc before))))

-- Returns the parts of all generals at the start of the round after `before` rounds, with contexts of zeros. If there
-- is no further round, returns the empty list.
abbrev pub blanks : Scenario → ℕ → List Progress
blanks s before = cond (nat_lt before (suc s.bound)) (each s.generals (λ g. blank s before g (program_of s g) ∷ [])) []
