-- How the code holds the world of an oral or signed campaign, and what one event does to the parts and the board (own).
-- `apply` of both worlds cites `IsAnswer` of this file, which says which error is returned. Kind.antt says what a world
-- is and does.
use Rattle.std.specs.Prelude.{ℕ, suc, ◌≡◌, ◌≤◌, ◌-◌, cond, Bool, List, [], ◌∷◌, length, slice_set, slice_get, Option, None, Some}
use Rattle.board.specs.Board.{Access}
use Rattle.board.specs.Ledger.{RecordedBoard}
use Rattle.round.specs.Scenario.{Scenario, program_of}
use Rattle.round.specs.Letters.{Letter}
use Rattle.round.specs.Activation.{Activation, MakesRequest, turn}
use Rattle.round.specs.Runs.{Runs, IsLetter}
use Rattle.round.specs.Running.{moved, Pauses, letter_left}
use Rattle.world.specs.declared.event.Event.{Event}
use Rattle.world.specs.declared.event.Event.TheVariants.{Tick, Post, Close}
use Rattle.world.specs.declared.event.EventError.{EventError}
use Rattle.world.specs.declared.event.EventError.TheVariants.{Memory}
use Rattle.world.specs.Part.{Progress, Acting, Silent, Posted}
use Rattle.world.specs.Kind.{Kind, World, each, accesses_of, begins, round_open, opening, run, loyal_letter, letter_of_part}

-- States that the next turn of a general with this part is a request to the board, which adds an access to the ledger.
abbrev pub AsksNext : Option Progress → Type 0
AsksNext (Some (Acting a)) = MakesRequest (turn a)
AsksNext _ = ⊥

-- States that an event needs memory, if the generals have these parts. A tick needs memory if it makes an access, a
-- close always does, and a post never does.
abbrev pub TakesMemory : List Progress → Event → Type 0
TakesMemory parts (Tick g) = AsksNext (slice_get parts g)
TakesMemory parts (Post g) = ⊥
TakesMemory parts Close = Unit {0}

-- States that this is the right error for an event, if the generals have these parts. It is the reason for which the
-- event is rejected. If the event is not rejected, the error is `Memory`, and the event must need memory.
abbrev pub IsAnswer : List Progress → Event → EventError → Option EventError → Type 0
IsAnswer parts event error (Some refused) = error ≡ refused
IsAnswer parts event error None = (error ≡ Memory) × TakesMemory parts event

-- Returns the parts and the board after a tick of this general.
abbrev pub ticked_of : ℕ → ℕ → List Progress → RecordedBoard → Option Progress → List Progress × RecordedBoard
ticked_of general round parts board (Some (Acting a)) = (
  slice_set parts general (Acting (moved general round a board (turn a)).0),
  (moved general round a board (turn a)).1,
)
ticked_of general round parts board _ = (parts, board)

-- Returns the parts after a post of this general.
abbrev pub posted_of : ℕ → List Progress → Option Progress → List Progress
posted_of general parts (Some Silent) = slice_set parts general Posted
posted_of general parts _ = parts

-- States that `new` is `parts` after `taken` turns of general `g`, none of which is a request to the board. His
-- activation then has ended, would next make a request, or has taken at least `limit` steps since it began. If he has
-- no running activation, `taken` is 0 and `new` is `parts`.
abbrev pub AheadTo : ℕ → ℕ → List Progress → ℕ → Option Progress → List Progress → Type 0
AheadTo limit taken parts g (Some (Acting a)) new =
    (b : Activation) × Runs taken a [] b × (taken ≤ limit - a.state.steps) × Pauses limit b (turn b)
    × (new ≡ slice_set parts g (Acting b))
AheadTo limit taken parts g _ new = (taken ≡ 0) × (new ≡ parts)

-- Returns how many steps the activation of a part has taken, or 0 if it has no activation.
abbrev pub steps_of : Option Progress → ℕ
steps_of (Some (Acting a)) = a.state.steps
steps_of _ = 0

-- Returns a general's letter of the round, made from his part and the accesses of the round, or the empty list if he
-- has none.
abbrev pub letter_held : Kind → Scenario → List (List Letter) → List Access → ℕ → Option Progress → List Letter
letter_held K s closed accesses g part =
    letter_of_part (λ a. letter_left g (suc (length closed)) (accesses_of g accesses) a) (loyal_letter K s closed g)
    part

-- Returns the letters of a round, made from the generals' parts and the accesses of the round.
abbrev pub letters_held : Kind → Scenario → List (List Letter) → List Access → List Progress → List Letter
letters_held K s closed accesses parts = each s.generals (λ g. letter_held K s closed accesses g (slice_get parts g))

-- Returns what each general does at the start of the round after these closed rounds. After the last round it is the
-- empty list.
abbrev pub beginnings : Kind → Scenario → List (List Letter) → List Progress
beginnings K s closed = cond (round_open s closed) (each s.generals (λ g. begins K s closed g (program_of s g) ∷ [])) []

-- States that each activation is a run of the letter that would be made from it now.
abbrev pub AreLetters : ℕ → List Access → List Progress → Type 0
AreLetters round accesses parts = (g : ℕ) (a : Activation) → slice_get parts g ≡ Some (Acting a) →
    IsLetter (letter_left g round (accesses_of g accesses) a)

-- States that some list of events leads to this world from the first world of its scenario.
abbrev pub IsReached : Kind → World → Type 0
IsReached K w = (events : List Event) × (run K (opening K w.scenario) events ≡ w)

-- Returns the world with these contents.
abbrev pub world_of : Scenario → List (List Letter) → RecordedBoard → ℕ → List Progress → Bool → World
world_of s closed board opened parts full =
    record {
      scenario = s;
      closed = closed;
      words = board.words;
      ledger = board.ledger;
      opened = opened;
      parts = parts;
      full = full;
    }

-- States what the code guarantees about a world: some list of events leads to it, and its board had the scenario's
-- words at first.
pub record IsHeld (K : Kind) (s : Scenario) (closed : List (List Letter)) (board : RecordedBoard) (opened : ℕ)
    (parts : List Progress) (full : Bool) : Type 0 where
  pub reached : IsReached K (world_of s closed board opened parts full)
  pub opening : board.opening ≡ s.board
