-- The slips of a run: calls that should send orders, but have no effect on the outbox (own).
use Rattle.std.specs.Prelude.{ℕ, zero, suc, ◌+◌, ◌*◌, ◌%◌, ◌^◌, ◌==◌, not, min, if◌then◌else◌, Bool, false, List, [], ◌∷◌, ◌++◌, map, length, Option, Some, None, Ok}
use Rattle.std.specs.List.{range_with_len}
use Rattle.insn.specs.declared.insn.Insn.{Insn}
use Rattle.insn.specs.declared.insn.Insn.TheVariants as insn
use Rattle.insn.specs.Program.{instruction_at}
use Rattle.semantics.specs.declared.request.Helper.{Helper}
use Rattle.semantics.specs.declared.request.Request.{Request}
use Rattle.semantics.specs.declared.value.Value.{Value}
use Rattle.semantics.specs.declared.value.Value.TheVariants.{Number}
use Rattle.semantics.specs.Entries.{is_entered}
use Rattle.semantics.specs.Relay.{Kind, Oral, Signed, Relay}
use Rattle.semantics.specs.State.{State, Outcome, Next, Ask, Exit, Trap, entry, value_at}
use Rattle.semantics.specs.Outbox.{empty_outbox, places_set}
use Rattle.semantics.specs.Call.{Effect, Puts, Enters, effect, helper_of, resumed, words_of}
use Rattle.semantics.specs.Execution.{step}
use Rattle.board.specs.Board.{Access, reply, next}
use Rattle.mem.specs.ContextLayout.{at_kind, number_told}
use Rattle.round.specs.Letters.{Letter}
use Rattle.trial.specs.declared.helper_call.HelperCall.{HelperCall}

-- The definitions down to `slip_at` find the slip in one step.

-- Returns the number that a value is, or 0 if it is not a number.
abbrev pub number_in : Value → ℕ
number_in (Number n) = n
number_in _ = 0

-- Returns the number in a register, or 0 if the register does not hold a number.
abbrev pub number_at : State → ℕ → ℕ
number_at s r = number_in (value_at s.registers r)

-- Returns the call of a helper at the state's unit, with the numbers in r1, r2 and r3.
abbrev pub call_by : State → Option Helper → Option HelperCall
call_by s None = None
call_by s (Some helper) = Some (record {
  unit = s.unit;
  helper = helper;
  first = number_at s 1;
  second = number_at s 2;
  third = number_at s 3;
})

-- Returns the call that an instruction makes, or None if it is not a call of a helper.
abbrev pub call_at : State → Insn → Option HelperCall
call_at s (insn.Call number) = call_by s (helper_of number)
call_at s _ = None

-- Returns whether a call should send orders but has no effect: it sets no place of the outbox, or its entry is refused.
abbrev pub is_slip : Relay → State → Effect → Bool
is_slip r s (Puts told (Ok choice)) = places_set r choice == 0
is_slip r s (Enters (Ok entry)) = not (is_entered r s.entries entry)
is_slip r s _ = false

-- Returns the list of a call if it is a slip, and otherwise no call.
abbrev pub slip : List ℕ → Relay → State → Option HelperCall → List HelperCall
slip context r s None = []
slip context r s (Some call) = if is_slip r s (effect context s call.helper) then call ∷ [] else []

-- Returns the list of the call that an instruction makes if it is a slip, and otherwise no call.
abbrev pub slip_at : List ℕ → Relay → State → Option Insn → List HelperCall
slip_at context r s None = []
slip_at context r s (Some i) = slip context r s (call_at s i)

-- The definitions down to `slips_from` list the slips of a run.

-- What answers the requests of a run. From what it has, it gives the answer to a request and what it has afterwards, or
-- nothing if it does not answer.
abbrev pub Answering : Type 0 → Type 0
Answering B = B → Request → Option (List ℕ × B)

-- A board with these words answers each request.
abbrev pub by_board : Answering (List ℕ)
by_board words request = Some (reply words request, next words request)

-- The replies in a list of accesses answer requests in their order. A reply of another length than the request asks for
-- is no answer.
abbrev pub by_replies : Answering (List Access)
by_replies [] request = None
by_replies (access ∷ accesses) request =
    if length access.reply == words_of request then Some (access.reply, accesses) else None

-- The type of a function that lists the slips of all further steps, from what answers requests and the state.
abbrev pub Rest : Type 0 → Type 0
Rest B = B → State → List HelperCall

-- Returns the slips that follow a request if it has this answer. Without an answer the run ends.
abbrev pub answered : {B : Type 0} → Rest B → Request → State → Option (List ℕ × B) → List HelperCall
answered rest request t None = []
answered rest request t (Some answer) = rest answer.1 (resumed request answer.0 t)

-- Returns the slips that follow this outcome of a step.
abbrev pub followed : {B : Type 0} → Answering B → Rest B → B → Outcome → List HelperCall
followed answering rest b (Next t) = rest b t
followed answering rest b (Ask request t) = answered rest request t (answering b request)
followed answering rest b (Exit r0 t) = []
followed answering rest b (Trap cause) = []

-- Returns the slip of the step from a state, if it is one, and then the slips that follow.
abbrev pub slips_at : {B : Type 0} → Answering B → List Insn → List ℕ → Relay → Rest B → B → State → List HelperCall
slips_at answering program context r rest b s =
    slip_at context r s (instruction_at program s.unit) ++ followed answering rest b (step program context r s)

-- Returns the slips of at most k steps from a state on, in their order.
unfoldable pub slips_from : {B : Type 0} → Answering B → List Insn → List ℕ → Relay → ℕ → B → State → List HelperCall
slips_from answering program context r zero b s = []
slips_from answering program context r (suc k) b s =
    slips_at answering program context r (λ c t. slips_from answering program context r k c t) b s

-- Returns the slips of a trial, with these words on the board at the start. The run takes at most as many steps as the
-- program has instructions.
abbrev pub slips_on : List ℕ → List Insn → List ℕ → Relay → List HelperCall
slips_on words program context r =
    slips_from by_board program context r (length program) words (entry (empty_outbox r))

-- The remaining definitions list the slips of a traitor's round, of which his letter is the record.

-- Returns the set of signers (bit g for general g) of each chain that, as a signed context says, its general holds. Of
-- the context's numbers the sixth says how many chains there are, and from the ninth on there are two for each: its
-- order and its signers. There is room for 508 chains.
abbrev pub signers_told : List ℕ → List ℕ
signers_told context =
    map (λ i. number_told context (9 + 2 * i) % 2 ^ 16) (range_with_len 0 (min (number_told context 5) 508))

-- Returns the kind of messages in the campaign that a context describes.
abbrev pub kind_told : List ℕ → Kind
kind_told context = if number_told context at_kind == 0 then Oral else Signed (signers_told context)

-- Returns the relay of the general who writes a letter, as his context describes it.
abbrev pub relay_of : Letter → Relay
relay_of l = record { shape = l.outbox.relay.shape; kind = kind_told l.context }

-- Returns the slips of this program in the round of a letter: in the letter's context, with the replies and the number
-- of steps in the letter. Without a program there are none.
abbrev pub slips_by : Letter → Option (List Insn) → List HelperCall
slips_by l None = []
slips_by l (Some program) =
    slips_from by_replies program l.context (relay_of l) l.steps l.transcript (entry (empty_outbox (relay_of l)))

-- Returns the slips in the round of a letter, in the order in which they were made.
unfoldable pub letter_slips : Letter → List HelperCall
letter_slips l = slips_by l l.program
