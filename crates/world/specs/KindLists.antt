-- Lists of events in oral or signed campaigns: when they are punctual and complete, and the lists of schedules and
-- replays (own).
use Rattle.std.specs.Prelude.{ℕ, zero, suc, ◌≡◌, nat_lt, ◌==◌, true, List, [], ◌∷◌, ◌++◌, length, map, filter, replicate, slice_get, Option, None, Some}
use Rattle.insn.specs.declared.insn.Insn.{Insn}
use Rattle.board.specs.Board.{Access}
use Rattle.world.specs.declared.event.Event.{Event}
use Rattle.world.specs.declared.event.Event.TheVariants.{Tick, Post, Close}
use Rattle.round.specs.Scenario.{Scenario, program_of}
use Rattle.round.specs.Activation.{Activation, Turn, Goes, Asks, Ended, turn, has_ended}
use Rattle.world.specs.Part.{Progress, Acting, owes_no_letter}
use Rattle.world.specs.Kind.{Kind, World, each, opening, happen, run}

-- States that property `Q` holds for each event together with the world just before it.
abbrev pub Throughout : Kind → (World → Event → Type 0) → World → List Event → Type 0
Throughout K Q w [] = Unit {0}
Throughout K Q w (e ∷ events) = Q w e × Throughout K Q (happen K w e) events

-- States that property `Q` holds for each general's part just before a round is closed. For other events it states
-- nothing.
abbrev pub AtClose : (Progress → Type 0) → World → Event → Type 0
AtClose Q w Close = (g : ℕ) (part : Progress) → slice_get w.parts g ≡ Some part → Q part
AtClose Q w _ = Unit {0}

-- States that the round can be closed without missing the letter of a general with this part.
abbrev pub OwesNoLetter : Progress → Type 0
OwesNoLetter part = owes_no_letter part ≡ true

-- States that the part has no activation, or an activation that has ended.
abbrev pub HasEnded : Progress → Type 0
HasEnded (Acting a) = has_ended a ≡ true
HasEnded _ = Unit {0}

-- States that every loyal general has posted before each round is closed.
abbrev pub IsPunctual : Kind → Scenario → List Event → Type 0
IsPunctual K s events = Throughout K (AtClose OwesNoLetter) (opening K s) events

-- States that the events are punctual, that every activation has ended before its round is closed, and that all rounds
-- are closed in the end.
pub record IsComplete (K : Kind) (s : Scenario) (events : List Event) : Type 0 where
  pub punctual : IsPunctual K s events
  pub ended : Throughout K (AtClose HasEnded) (opening K s) events
  pub closed : length (run K (opening K s) events).closed ≡ suc s.bound

-- States that an event is a move, which is any event that does not close a round: a tick or a post.
abbrev pub IsMove : Event → Type 0
IsMove (Tick g) = Unit {0}
IsMove (Post g) = Unit {0}
IsMove Close = ⊥

-- States that all events are moves.
abbrev pub AreMoves : List Event → Type 0
AreMoves [] = Unit {0}
AreMoves (e ∷ events) = IsMove e × AreMoves events

-- States that the open round is complete and may be closed: every loyal general has posted, and every activation has
-- ended.
pub record IsRipe (w : World) : Type 0 where
  pub posted_all : (g : ℕ) (part : Progress) → slice_get w.parts g ≡ Some part → OwesNoLetter part
  pub ended_all : (g : ℕ) (part : Progress) → slice_get w.parts g ≡ Some part → HasEnded part

-- Returns the first of these lists, or the empty list if there is none.
abbrev pub first_line : List (List ℕ) → List ℕ
first_line [] = []
first_line (line ∷ lines) = line

-- Returns these lists without the first one.
abbrev pub later_lines : List (List ℕ) → List (List ℕ)
later_lines [] = []
later_lines (line ∷ lines) = lines

-- Returns a post of the general if he is loyal, otherwise no event. A loyal general has no program.
abbrev pub post_of : ℕ → Option (List Insn) → List Event
post_of g None = Post g ∷ []
post_of g (Some program) = []

-- Returns as many ticks of the general as his program has instructions.
abbrev pub ticks_of : ℕ → Option (List Insn) → List Event
ticks_of g None = []
ticks_of g (Some program) = replicate (length program) (Tick g)

-- Returns the events that finish a round: all loyal generals post, all traitors take enough ticks to end, and the round
-- is closed.
abbrev pub wound_up : Scenario → List Event
wound_up s =
    each s.generals (λ g. post_of g (program_of s g))
    ++ (each s.generals (λ g. ticks_of g (program_of s g)) ++ Close ∷ [])

-- Returns the event for a general named in a schedule: a tick of a traitor, or a post of a loyal general.
abbrev pub event_of : ℕ → Option (List Insn) → Event
event_of g None = Post g
event_of g (Some program) = Tick g

-- Returns the events of `k` rounds. In each, the generals named in the schedule's line act, and then the round is
-- finished.
abbrev pub listed_rounds : Scenario → ℕ → List (List ℕ) → List Event
listed_rounds s zero lines = []
listed_rounds s (suc k) lines =
    map (λ g. event_of g (program_of s g)) (filter (λ g. nat_lt g s.generals) (first_line lines))
    ++ (wound_up s ++ listed_rounds s k (later_lines lines))

-- Returns the events of a whole campaign by a schedule. A schedule names generals, in one line for each round.
abbrev pub listed : Scenario → List (List ℕ) → List Event
listed s lines = listed_rounds s (suc s.bound) lines

-- Returns how many turns an activation takes up to its next access or its end, given its next turn. The count is 1 if
-- this turn is a request, and 0 if the activation has ended. Otherwise it is 1 more than `rest` gives for the
-- activation after the turn.
abbrev pub further_turns : (Activation → ℕ) → Turn → ℕ
further_turns rest (Goes a) = suc (rest a)
further_turns rest (Asks request answered) = 1
further_turns rest Ended = 0

-- Returns how many turns the activation takes until it has made one more access or has ended, but at most `k`.
abbrev pub until_access : ℕ → Activation → ℕ
until_access zero a = 0
until_access (suc k) a = further_turns (until_access k) (turn a)

-- Returns the ticks that a traitor takes until he has made one more access or his activation has ended. For any other
-- general it returns no events.
abbrev pub ticks_named : ℕ → Option Progress → List Event
ticks_named g (Some (Acting a)) = replicate (until_access (length a.program) a) (Tick g)
ticks_named g _ = []

-- Returns the events by which these generals make their next accesses, in this order.
abbrev pub names_events : Kind → World → List ℕ → List Event
names_events K w [] = []
names_events K w (g ∷ names) =
    let ticks = ticks_named g (slice_get w.parts g) in
    ticks ++ names_events K (run K w ticks) names

-- Returns the events of `k` rounds. In each, the generals named for the round make accesses in this order, and then the
-- round is finished.
abbrev pub replayed_rounds : Kind → World → ℕ → List (List ℕ) → List Event
replayed_rounds K w zero names = []
replayed_rounds K w (suc k) names =
    let events = names_events K w (first_line names) ++ wound_up w.scenario in
    events ++ replayed_rounds K (run K w events) k (later_lines names)

-- Returns the events of a whole campaign. In each round, the generals named for it make accesses in this order, and
-- then the round is finished.
abbrev pub replayed : Kind → Scenario → List (List ℕ) → List Event
replayed K s names = replayed_rounds K (opening K s) (suc s.bound) names

-- Returns the generals who made these accesses, in order, for each of the `k` rounds from `round` on.
abbrev pub names_in : ℕ → List Access → ℕ → List (List ℕ)
names_in round ledger zero = []
names_in round ledger (suc k) =
    map (λ a. a.general) (filter (λ a. a.round == round) ledger) ∷ names_in (suc round) ledger k

-- Returns the world at the end of a ledger's replay.
abbrev pub replay_world : Kind → Scenario → List Access → World
replay_world K s ledger = run K (opening K s) (replayed K s (names_in 1 ledger (suc s.bound)))
