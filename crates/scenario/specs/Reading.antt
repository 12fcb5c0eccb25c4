-- The scenario that a text describes (own).
use Rattle.std.specs.Prelude.{◌≡◌, ℕ, ◌+◌, ◌⊎◌, List, replicate, slice_set, Option, Some, None, Result, Ok, Err, IsErr, codes}
use Rattle.toml.specs.Data.{Items, Members, no_items, item, get_member}
use Rattle.toml.specs.Parse.{parse_document}
use Rattle.hex.specs.Hex.{decode_of}
use Rattle.insn.specs.declared.insn.Insn.{Insn}
use Rattle.asm.specs.Program.{said, program_of}
use Rattle.asm.specs.declared.fault.AsmError.TheVariants as assembler
use Rattle.codec.specs.Program.{SpellsProgram, IsFirstFault}
use Rattle.verify.specs.Judgement.{judged}
use Rattle.verify.specs.declared.error.VerifyError.TheVariants as verifier
use Rattle.round.specs.Scenario.{Scenario}
use Rattle.scenario.specs.declared.messages.Messages.{Messages}
use Rattle.scenario.specs.declared.messages.Messages.TheVariants as messages
use Rattle.scenario.specs.declared.messages.Kinds.TheVariants.{OralAlone, Both}
use Rattle.scenario.specs.declared.messages.Campaign.{Campaign}
use Rattle.scenario.specs.declared.messages.Campaign.TheVariants.{Oral, Signed}
use Rattle.scenario.specs.declared.fault.ProgramFault.{ProgramFault}
use Rattle.scenario.specs.declared.fault.ProgramFault.TheVariants as faults
use Rattle.scenario.specs.declared.fault.ScenarioError.{ScenarioError}
use Rattle.scenario.specs.declared.fault.ScenarioError.TheVariants as errors
use Rattle.scenario.specs.Flaws.{Flaw, Fails, OrMemory}
use Rattle.scenario.specs.Checks.{Head, head, tables}
use Rattle.scenario.specs.Tables.{Source, Assembly, Hex, Table, Seats, table}

-- States that the assembly assembles to this program, or that the bytes in hex decode to it.
abbrev pub IsProgramOf : Source → List Insn → Type 0
IsProgramOf (Assembly text) program = program_of text ≡ Some program
IsProgramOf (Hex text) program = (bytes : List ℕ) × (decode_of text ≡ Ok bytes) × SpellsProgram bytes program

-- States what is wrong with the source of a program: this is the first fault of the assembly, of the hex text or of its
-- bytes, or why the verifier rejects the program.
abbrev pub IsFaultOf : ProgramFault → Source → Type 0
IsFaultOf (faults.Asm fault line) (Assembly text) = said text ≡ Err (assembler.At fault line)
IsFaultOf faults.Hex (Hex text) = IsErr (decode_of text)
IsFaultOf (faults.Code fault unit) (Hex text) =
    (bytes : List ℕ) × (decode_of text ≡ Ok bytes) × IsFirstFault bytes fault unit
IsFaultOf (faults.Verifier reason unit) source =
    (program : List Insn) × IsProgramOf source program × (judged program ≡ Some (verifier.At reason unit))
IsFaultOf _ _ = ⊥

-- States that the result of reading a traitor's table has its general and his program, which the verifier accepts, or
-- the first fault of the table or of the program.
abbrev pub TableGives : Result Table Flaw → Result (ℕ × List Insn) ScenarioError → Type 0
TableGives (Ok t) (Ok seated) = (seated.0 ≡ t.general) × IsProgramOf t.source seated.1 × (judged seated.1 ≡ None)
TableGives (Ok t) (Err (errors.Program g fault)) = (g ≡ t.general) × IsFaultOf fault t.source
TableGives (Ok t) (Err _) = ⊥
TableGives (Err flaw) (Ok seated) = ⊥
TableGives (Err flaw) (Err e) = Fails {Y = Table} e (Err flaw)

-- States that the result is the error for this traitor's table.
abbrev pub Stopped : {X : Type 0} → Result Table Flaw → Result X ScenarioError → Type 0
Stopped read (Ok x) = ⊥
Stopped read (Err e) = TableGives read (Err e)

-- States that the result is the error for one of these tables, which are counted from `i`. If there is no error, each
-- table gives a program to its general, and the result is made of the programs of all generals.
abbrev pub Answers : {X : Type 0} → (Seats → X) → ℕ → ℕ → Seats → Items → Result X ScenarioError → Type 0
Answers made n i seats no_items r = r ≡ Ok (made seats)
Answers made n i seats (item d ds) r =
    Stopped (table n seats i d) r
    ⊎ ((seated : ℕ × List Insn) × TableGives (table n seats i d) (Ok seated)
    × Answers made n (i + 1) (slice_set seats seated.0 (Some seated.1)) ds r)

-- Returns the scenario with this head, in which the generals have these programs.
abbrev pub scenario_of : Head → Seats → Scenario
scenario_of h seats = record {
  generals = h.generals;
  bound = h.bound;
  commander = h.commander;
  order = h.order;
  board = h.board;
  programs = seats;
  patience = h.patience;
  rule = h.rule;
}

-- Returns a scenario as a campaign with oral or signed messages.
abbrev pub campaign_by : Messages → Scenario → Campaign
campaign_by messages.Oral s = Oral s
campaign_by messages.Signed s = Signed s

-- Returns the campaign with this head, in which the generals have these programs.
abbrev pub campaign_of : Head → Seats → Campaign
campaign_of h seats = campaign_by h.messages (scenario_of h seats)

-- Returns the list in which no general has a program yet.
abbrev pub unseated : Head → Seats
unseated h = replicate h.generals None

-- States that the result for a head without a fault is the result for the tables of the traitors.
abbrev pub Begun : {X : Type 0} → (Head → Seats → X) → Head → Result Items Flaw → Result X ScenarioError → Type 0
Begun made h (Ok ds) r = Answers (made h) h.generals 0 (unseated h) ds r
Begun made h (Err flaw) (Ok x) = ⊥
Begun made h (Err flaw) (Err e) = Fails {Y = Items} e (Err flaw)

-- States that the result for a scenario with this head is the result for the tables of the traitors. If the head has a
-- fault, the result is this fault.
abbrev pub Headed : {X : Type 0} → (Head → Seats → X) → Result Head Flaw → Members → Result X ScenarioError → Type 0
Headed made (Ok h) ms r = Begun made h (tables (get_member (codes "traitor") ms)) r
Headed made (Err flaw) ms (Ok x) = ⊥
Headed made (Err flaw) ms (Err e) = Fails {Y = Head} e (Err flaw)

-- States that the result for a scenario is made of its head and the programs of its generals, or is the first fault in
-- the order of the keys. The scenario's text is given as parsed, or as `None` if it is not TOML.
abbrev pub Answered : {X : Type 0} → (Head → Seats → X) → (Members → Result Head Flaw) → Option Members →
    Result X ScenarioError → Type 0
Answered made head_of None r = r ≡ Err errors.Toml
Answered made head_of (Some ms) r = Headed made (head_of ms) ms r

-- States that the result for an oral campaign is its scenario, the first fault, or out of memory.
abbrev pub Reads : Option Members → Result Scenario ScenarioError → Type 0
Reads parsed r = OrMemory (Answered scenario_of (head OralAlone) parsed) r

-- States that the result for an oral or signed campaign is the campaign, the first fault, or out of memory.
abbrev pub ReadsAny : Option Members → Result Campaign ScenarioError → Type 0
ReadsAny parsed r = OrMemory (Answered campaign_of (head Both) parsed) r

-- States that the text describes this scenario of an oral campaign.
abbrev pub Tells : List ℕ → Scenario → Type 0
Tells text s = Reads (parse_document text) (Ok s)

-- States that the text describes this oral or signed campaign.
abbrev pub TellsAny : List ℕ → Campaign → Type 0
TellsAny text c = ReadsAny (parse_document text) (Ok c)
