-- Defines which task words name, and why they name none (own).
use Rattle.std.specs.Prelude.{⊤, ℕ, ◌≡◌, ◌≢◌, ◌&&◌, ◌||◌, Bool, true, false, List, [], ◌∷◌, Option, None, Some, codes, is_some, option_map}
use Rattle.std.specs.List.{list_any}
use Rattle.std.specs.Str.{bytes_eq}
use Rattle.std.specs.String.{string_bytes}
use Rattle.text.specs.Options.{◌>>=◌}
use Rattle.combine.specs.Names.{default_rule, rule_named}
use Rattle.combine.specs.declared.campaign_rule.Rule.{Rule}
use Rattle.bounds.specs.Stories.{story_numbered}
use Rattle.bounds.specs.declared.story.Story.{Story}
use Rattle.clap.specs.Words.{kind_of}
use Rattle.clap.specs.declared.error.Error.{Error}
use Rattle.clap.specs.declared.error.kind.ErrorKind.TheVariants.{OutOfMemory}
use Rattle.cli_words.specs.Generals.{bound_in, count_in, depth_in, general_in, generals_in, order_in, seed_in, size_in, traitors_in}
use Rattle.cli_words.specs.Usage.{Text}
use Rattle.cli_words.specs.declared.tasks.Accesses.{Accesses}
use Rattle.cli_words.specs.declared.tasks.Accesses.TheVariants.{OfChronicle, Listed}
use Rattle.cli_words.specs.declared.tasks.Account.{Account}
use Rattle.cli_words.specs.declared.tasks.Account.TheVariants.{Chronicle, Table}
use Rattle.cli_words.specs.declared.tasks.Course.{Course}
use Rattle.cli_words.specs.declared.tasks.Course.TheVariants.{Scheduled, Recorded}
use Rattle.cli_words.specs.declared.tasks.Drawing.{Drawing}
use Rattle.cli_words.specs.declared.tasks.Drawing.TheVariants.{Boxes, Ascii, Graph, Svg}
use Rattle.cli_words.specs.declared.tasks.Filling.{Filling}
use Rattle.cli_words.specs.declared.tasks.Lieutenants.{Lieutenants}
use Rattle.cli_words.specs.declared.tasks.Lieutenants.TheVariants.{All, One}
use Rattle.cli_words.specs.declared.tasks.Notation.{Notation}
use Rattle.cli_words.specs.declared.tasks.Notation.TheVariants.{Bytecode, Assembly, Object}
use Rattle.cli_words.specs.declared.tasks.TaskRequest.{TaskRequest}
use Rattle.cli_words.specs.declared.tasks.Spelling.{Spelling}
use Rattle.cli_words.specs.declared.tasks.Spelling.TheVariants.{Hex, Raw}
use Rattle.cli_words.specs.declared.tasks.Task.{Task}
use Rattle.cli_words.specs.declared.tasks.Task.TheVariants.{Check, Assemble, AssemblePartly, Disassemble, DisassemblePartly, Book, ExplainDecisions, Form, Refute, Exhaust, Certify, Play, Muster, Audit, Explore, Tree, Draw, Page, Retrace}
use Rattle.cli_words.specs.declared.tasks.Turns.{Turns}
use Rattle.cli_words.specs.declared.tasks.Turns.TheVariants.{OfFile, OfSeed}
use Rattle.cli_words.specs.declared.errors.Misuse.{Misuse}
use Rattle.cli_words.specs.declared.errors.Misuse.TheVariants.{Traitors, Of, Lie, Loyal, Most, Depth, NobodyNamed, TwoDrawings, TwoNotations, UnitsOfParts, TwoForms, TwoCourses, EntryAlone, OfAlone, LieAlone, Seed, Rule as BadRule, Story as BadStory, Generals as BadSize, Bound as BadBound, TraitorCount, Commander, NoGenerals, NoBound, NoTraitors, TwoSchedules, OutAlone}
use Rattle.cli_words.specs.declared.errors.TaskError.{TaskError}
use Rattle.cli_words.specs.declared.errors.TaskError.TheVariants as error

-- A subcommand's name, and the values of its words: the word at a place, which is a required positional argument, the
-- value of an option, or `true` for a switch.
pub record Told : Type 0 where
  pub name : Text
  pub value : Text → Option Text

-- Returns the value of the place, option or switch `name`, or `None` if the words do not have it.
abbrev pub word_of : Text → Told → Option Text
word_of name told = told.value name

-- Checks whether the words have the place, option or switch `name`.
abbrev pub has : Text → Told → Bool
has name told = is_some (word_of name told)

-- Checks whether the subcommand is one of `names`.
abbrev pub is_of : List Text → Told → Bool
is_of names told = list_any (λ name. bytes_eq name told.name) names

-- The subcommands that read a program and have `--elf`, since it may be an ELF object.
abbrev pub programs : List Text
programs = codes "check" ∷ codes "dis" ∷ codes "rule" ∷ []

-- The subcommands that print a campaign and may explain its decisions.
abbrev pub campaigns : List Text
campaigns = codes "play" ∷ codes "muster" ∷ codes "audit" ∷ []

-- The subcommands with the option `--of`, the number of a lieutenant.
abbrev pub of_one : List Text
of_one = codes "tree" ∷ campaigns

-- The subcommands with the option `--traitors`, the numbers of traitors.
abbrev pub of_traitors : List Text
of_traitors = codes "book" ∷ codes "tree" ∷ []

-- The subcommands with the option `--generals`, how many generals there are.
abbrev pub sized : List Text
sized = codes "exhaust" ∷ codes "rule" ∷ []

-- The subcommands with the option `--rule`, the name of a rule.
abbrev pub ruled : List Text
ruled = codes "refute" ∷ codes "exhaust" ∷ []

-- The subcommands that draw or describe a campaign, which follows a schedule or a chronicle.
abbrev pub coursed : List Text
coursed = codes "draw" ∷ codes "page" ∷ []

-- ---- what the words say of a part of a task

-- States that the words say that the program in the file is written in this way.
abbrev pub IsNotation : Told → Notation → Type 0
IsNotation told Bytecode =
    (has (codes "asm") told ≡ false) × (has (codes "elf") told ≡ false) × (word_of (codes "entry") told ≡ None)
IsNotation told Assembly =
    (has (codes "asm") told ≡ true) × (has (codes "elf") told ≡ false) × (word_of (codes "entry") told ≡ None)
IsNotation told (Object entry) = (has (codes "asm") told ≡ false) × (has (codes "elf") told ≡ true)
    × (word_of (codes "entry") told ≡ option_map string_bytes entry)

-- States that the words say whether a break is printed as a scenario, and do not also ask for JSON then.
abbrev pub IsStaged : Told → Bool → Type 0
IsStaged told staged =
    (has (codes "scenario") told ≡ staged) × ((has (codes "json") told && has (codes "scenario") told) ≡ false)

-- Checks whether bytecode is written as its bytes, and not in hex digits.
abbrev pub is_raw : Spelling → Bool
is_raw Hex = false
is_raw Raw = true

-- Returns the generals that the value of `--traitors` lists. If there is no value, returns no generals if an
-- explanation is asked for, and otherwise `None`.
abbrev pub named : Bool → Option Text → Option (List ℕ)
named explained (Some word) = generals_in word
named true None = Some []
named false None = None

-- States that the words have the option `name`, and that `read` parses its value as x.
abbrev pub HasValue : {X : Type 0} → (Text → Option X) → Text → Told → X → Type 0
HasValue read name told x = (word_of name told >>= read) ≡ Some x

-- States that the value of the option `name` is this general, or that the words do not have the option and there is no
-- general.
abbrev pub NamesGeneral : Text → Told → Option ℕ → Type 0
NamesGeneral name told None = word_of name told ≡ None
NamesGeneral name told (Some g) = (word_of name told >>= general_in) ≡ Some g

-- States that the words say that a message table is filled in like this or, for `None`, is printed without orders.
abbrev pub IsFilling : Told → Option Filling → Type 0
IsFilling told None = (word_of (codes "loyal") told ≡ None) × (word_of (codes "lie") told ≡ None)
IsFilling told (Some filling) =
    ((word_of (codes "loyal") told >>= order_in) ≡ Some filling.order) × NamesGeneral (codes "lie") told filling.liar

-- Returns the rule with this name, or the default rule if there is no name. Returns `None` if no rule has the name.
abbrev pub rule_in : Option Text → Option Rule
rule_in None = Some default_rule
rule_in (Some word) = rule_named word

-- States that the value of `--story` is the number of this story, or that the words do not have the option and there is
-- no story.
abbrev pub NamesStory : Told → Option Story → Type 0
NamesStory told None = word_of (codes "story") told ≡ None
NamesStory told (Some story) = (word_of (codes "story") told >>= story_numbered) ≡ Some story

-- Returns how many generals the word names, or 13 if there is no word.
abbrev pub size_given : Option Text → Option ℕ
size_given None = Some 13
size_given (Some word) = size_in word

-- Checks whether a campaign is printed as its message table, and not as its chronicle.
abbrev pub is_table : Account → Bool
is_table Chronicle = false
is_table Table = true

-- States that the words ask for an explanation of these lieutenants' decisions or, for `None`, of none.
abbrev pub AreExplained : Told → Option Lieutenants → Type 0
AreExplained told None = (has (codes "explain") told ≡ false) × (word_of (codes "of") told ≡ None)
AreExplained told (Some All) = (has (codes "explain") told ≡ true) × (word_of (codes "of") told ≡ None)
AreExplained told (Some (One g)) = (has (codes "explain") told ≡ true) × NamesGeneral (codes "of") told (Some g)

-- States that the value of the option `name` is this count, or that the words do not have the option and there is no
-- count.
abbrev pub NamesCount : Text → Told → Option ℕ → Type 0
NamesCount name told None = word_of name told ≡ None
NamesCount name told (Some n) = (word_of name told >>= count_in) ≡ Some n

-- States that the value of `--seed` is this seed, or that the words do not have the option and there is no seed.
abbrev pub NamesSeed : Told → Option ℕ → Type 0
NamesSeed told None = word_of (codes "seed") told ≡ None
NamesSeed told (Some seed) = (word_of (codes "seed") told >>= seed_in) ≡ Some seed

-- States that the words say that a campaign is played by this schedule.
abbrev pub AreTurns : Told → Turns → Type 0
AreTurns told (OfFile file) =
    (word_of (codes "schedule") told ≡ option_map string_bytes file) × (word_of (codes "seed") told ≡ None)
    × (word_of (codes "schedule-out") told ≡ None)
AreTurns told (OfSeed seed target) = (word_of (codes "schedule") told ≡ None) × NamesSeed told (Some seed)
    × (word_of (codes "schedule-out") told ≡ option_map string_bytes target)

-- States that the word at the second place is the file of a chronicle or, with `--accesses`, a list of accesses.
abbrev pub AreAccesses : Told → Accesses → Type 0
AreAccesses told (OfChronicle file) =
    (word_of (codes "CHRONICLE") told ≡ Some (string_bytes file)) × (has (codes "accesses") told ≡ false)
AreAccesses told (Listed text) =
    (word_of (codes "CHRONICLE") told ≡ Some (string_bytes text)) × (has (codes "accesses") told ≡ true)

-- Checks whether the words ask for a tree as lines of text. These are also drawn if the words name no way.
abbrev pub is_text : Told → Bool
is_text told = has (codes "text") told || has (codes "ascii") told

-- States that the words say that a tree is drawn in this way.
abbrev pub IsDrawing : Told → Drawing → Type 0
IsDrawing told Boxes =
    (has (codes "ascii") told ≡ false) × (has (codes "dot") told ≡ false) × (has (codes "svg") told ≡ false)
IsDrawing told Ascii =
    (has (codes "ascii") told ≡ true) × (has (codes "dot") told ≡ false) × (has (codes "svg") told ≡ false)
IsDrawing told Graph = (is_text told ≡ false) × (has (codes "dot") told ≡ true) × (has (codes "svg") told ≡ false)
IsDrawing told Svg = (is_text told ≡ false) × (has (codes "dot") told ≡ false) × (has (codes "svg") told ≡ true)

-- Returns how many levels of a tree are drawn below the commander's: the number that the word is, 0 to 4, or 4 if there
-- is no word. Returns `None` for another word.
abbrev pub levels_in : Option Text → Option ℕ
levels_in None = Some 4
levels_in (Some word) = depth_in word

-- States that the words say that a campaign follows this schedule or chronicle.
abbrev pub IsCourse : Told → Course → Type 0
IsCourse told (Scheduled file) =
    (word_of (codes "schedule") told ≡ option_map string_bytes file) × (word_of (codes "chronicle") told ≡ None)
IsCourse told (Recorded file) =
    (word_of (codes "schedule") told ≡ None) × (word_of (codes "chronicle") told ≡ Some (string_bytes file))

-- ---- the task that the words name

-- States that the words name this task.
abbrev pub Says : Told → Task → Type 0
Says told (Check file notation context explained traced) = (told.name ≡ codes "check")
    × (word_of (codes "FILE") told ≡ Some (string_bytes file)) × IsNotation told notation
    × (word_of (codes "context") told ≡ option_map string_bytes context)
    × (has (codes "explain") told ≡ explained) × (has (codes "trace") told ≡ traced)
Says told (Assemble file spelling target explained) = (told.name ≡ codes "asm")
    × (word_of (codes "FILE") told ≡ Some (string_bytes file)) × (has (codes "raw") told ≡ is_raw spelling)
    × (word_of (codes "target") told ≡ option_map string_bytes target) × (has (codes "explain") told ≡ explained)
    × (has (codes "partial") told ≡ false)
Says told (AssemblePartly file spelling target explained) = (told.name ≡ codes "asm")
    × (word_of (codes "FILE") told ≡ Some (string_bytes file)) × (has (codes "raw") told ≡ is_raw spelling)
    × (word_of (codes "target") told ≡ option_map string_bytes target) × (has (codes "explain") told ≡ explained)
    × (has (codes "partial") told ≡ true)
Says told (Disassemble file notation units explained) = (told.name ≡ codes "dis")
    × (word_of (codes "FILE") told ≡ Some (string_bytes file)) × IsNotation told notation
    × (has (codes "units") told ≡ units) × (has (codes "explain") told ≡ explained)
    × (has (codes "partial") told ≡ false)
Says told (DisassemblePartly file notation explained) = (told.name ≡ codes "dis")
    × (word_of (codes "FILE") told ≡ Some (string_bytes file)) × IsNotation told notation
    × (has (codes "units") told ≡ false) × (has (codes "explain") told ≡ explained)
    × (has (codes "partial") told ≡ true)
Says told (Book file) = (told.name ≡ codes "book")
    × (word_of (codes "FILE") told ≡ Some (string_bytes file))
    × (has (codes "explain") told ≡ false) × (word_of (codes "traitors") told ≡ None)
Says told (ExplainDecisions file traitors) = (told.name ≡ codes "book")
    × (word_of (codes "FILE") told ≡ Some (string_bytes file))
    × (named (has (codes "explain") told) (word_of (codes "traitors") told) ≡ Some traitors.items)
Says told (Form n m c filling) = (told.name ≡ codes "table")
    × (word_of (codes "GENERALS") told ≡ Some (string_bytes n)) × (word_of (codes "BOUND") told ≡ Some (string_bytes m))
    × (word_of (codes "COMMANDER") told ≡ Some (string_bytes c)) × IsFilling told filling
Says told (Refute n m c rule story staged) = (told.name ≡ codes "refute")
    × (word_of (codes "GENERALS") told ≡ Some (string_bytes n)) × (word_of (codes "BOUND") told ≡ Some (string_bytes m))
    × (word_of (codes "COMMANDER") told ≡ Some (string_bytes c))
    × (rule_in (word_of (codes "rule") told) ≡ Some rule) × NamesStory told story × (has (codes "scenario") told ≡ staged)
Says told (Exhaust generals bound traitors commander rule staged) = (told.name ≡ codes "exhaust")
    × HasValue size_in (codes "generals") told generals × HasValue bound_in (codes "bound") told bound
    × HasValue traitors_in (codes "traitors") told traitors
    × NamesGeneral (codes "commander") told commander × (rule_in (word_of (codes "rule") told) ≡ Some rule)
    × IsStaged told staged
Says told (Certify file notation generals) = (told.name ≡ codes "rule")
    × (word_of (codes "FILE") told ≡ Some (string_bytes file)) × IsNotation told notation
    × (size_given (word_of (codes "generals") told) ≡ Some generals)
Says told (Play scenario turns account explained) = (told.name ≡ codes "play")
    × (word_of (codes "SCENARIO") told ≡ Some (string_bytes scenario)) × AreTurns told turns
    × (has (codes "table") told ≡ is_table account) × AreExplained told explained
Says told (Muster scenario explained) = (told.name ≡ codes "muster")
    × (word_of (codes "SCENARIO") told ≡ Some (string_bytes scenario)) × AreExplained told explained
Says told (Audit scenario chronicle explained) = (told.name ≡ codes "audit")
    × (word_of (codes "SCENARIO") told ≡ Some (string_bytes scenario))
    × (word_of (codes "CHRONICLE") told ≡ Some (string_bytes chronicle)) × AreExplained told explained
Says told (Explore scenario most folder) = (told.name ≡ codes "explore")
    × (word_of (codes "SCENARIO") told ≡ Some (string_bytes scenario)) × NamesCount (codes "most") told most
    × (word_of (codes "keep") told ≡ option_map string_bytes folder)
Says told (Tree file general traitors drawing depth folded) = (told.name ≡ codes "tree")
    × (word_of (codes "FILE") told ≡ Some (string_bytes file)) × NamesGeneral (codes "of") told (Some general)
    × (named true (word_of (codes "traitors") told) ≡ Some traitors.items) × IsDrawing told drawing
    × (levels_in (word_of (codes "depth") told) ≡ Some depth) × (has (codes "fold") told ≡ folded)
Says told (Draw scenario course) = (told.name ≡ codes "draw")
    × (word_of (codes "SCENARIO") told ≡ Some (string_bytes scenario)) × IsCourse told course
Says told (Page scenario course target) = (told.name ≡ codes "page")
    × (word_of (codes "SCENARIO") told ≡ Some (string_bytes scenario)) × IsCourse told course
    × (word_of (codes "target") told ≡ option_map string_bytes target)
Says told (Retrace scenario accesses) = (told.name ≡ codes "schedule")
    × (word_of (codes "SCENARIO") told ≡ Some (string_bytes scenario)) × AreAccesses told accesses

-- States that the words make this request: they name its task, and say whether the answer is printed as JSON or as one
-- line, and whether a scenario may name files.
abbrev pub Asks : Told → TaskRequest → Type 0
Asks told request =
    Says told request.task × (has (codes "json") told ≡ request.json) × (has (codes "verdicts") told ≡ request.verdicts)
    × (has (codes "no-files") told ≡ request.no_files)

-- ---- the names of a task's files: the only or first one, the second one, and the one that it writes

-- Returns the name of the only file that a task reads, or of the first one. Returns `None` if it reads no file.
abbrev pub file_of : Task → Option Text
file_of (Check file notation context explained traced) = Some (string_bytes file)
file_of (Assemble file spelling target explained) = Some (string_bytes file)
file_of (AssemblePartly file spelling target explained) = Some (string_bytes file)
file_of (Disassemble file notation units explained) = Some (string_bytes file)
file_of (DisassemblePartly file notation explained) = Some (string_bytes file)
file_of (Book file) = Some (string_bytes file)
file_of (ExplainDecisions file traitors) = Some (string_bytes file)
file_of (Form n m c filling) = None
file_of (Refute n m c rule story staged) = None
file_of (Exhaust generals bound traitors commander rule staged) = None
file_of (Certify file notation generals) = Some (string_bytes file)
file_of (Play scenario turns account explained) = Some (string_bytes scenario)
file_of (Muster scenario explained) = Some (string_bytes scenario)
file_of (Audit scenario chronicle explained) = Some (string_bytes scenario)
file_of (Explore scenario most folder) = Some (string_bytes scenario)
file_of (Tree file general traitors drawing depth folded) = Some (string_bytes file)
file_of (Draw scenario course) = Some (string_bytes scenario)
file_of (Page scenario course target) = Some (string_bytes scenario)
file_of (Retrace scenario accesses) = Some (string_bytes scenario)

-- Returns the name of the file with the schedule or the chronicle, or `None` if the schedule is empty.
abbrev pub course_file : Course → Option Text
course_file (Scheduled schedule) = option_map string_bytes schedule
course_file (Recorded chronicle) = Some (string_bytes chronicle)

-- Returns the name of the file with the schedule, or `None` if the schedule is random or empty.
abbrev pub turns_file : Turns → Option Text
turns_file (OfFile file) = option_map string_bytes file
turns_file (OfSeed seed target) = None

-- Returns the name of the file with the chronicle, or `None` if the accesses are listed.
abbrev pub accesses_file : Accesses → Option Text
accesses_file (OfChronicle file) = Some (string_bytes file)
accesses_file (Listed text) = None

-- Returns the name of the second file that a task reads, or `None` if there is none.
abbrev pub second_of : Task → Option Text
second_of (Check file notation context explained traced) = option_map string_bytes context
second_of (Play scenario turns account explained) = turns_file turns
second_of (Audit scenario chronicle explained) = Some (string_bytes chronicle)
second_of (Draw scenario course) = course_file course
second_of (Page scenario course target) = course_file course
second_of (Retrace scenario accesses) = accesses_file accesses
second_of _ = None

-- Returns the name of the file to which the answer is written, or `None` if the answer is printed.
abbrev pub target_of : Task → Option Text
target_of (Assemble file spelling target explained) = option_map string_bytes target
target_of (AssemblePartly file spelling target explained) = option_map string_bytes target
target_of (Page scenario course target) = option_map string_bytes target
target_of _ = None

-- ---- the seed of a schedule, and what is written in addition to the answer

-- Returns the seed of a random schedule, or `None` if the schedule is not random.
abbrev pub turns_seed : Turns → Option ℕ
turns_seed (OfFile file) = None
turns_seed (OfSeed seed target) = Some seed

-- Returns the seed of the random schedule by which a task plays a campaign, or `None` if the schedule is not random.
abbrev pub seed_of : Task → Option ℕ
seed_of (Play scenario turns account explained) = turns_seed turns
seed_of _ = None

-- Returns the name of the file to which a random schedule is written, or `None` if there is none.
abbrev pub seed_target : Turns → Option Text
seed_target (OfFile file) = None
seed_target (OfSeed seed target) = option_map string_bytes target

-- Returns the name of the file to which a task writes a random schedule, or `None` if there is none.
abbrev pub schedule_target_of : Task → Option Text
schedule_target_of (Play scenario turns account explained) = seed_target turns
schedule_target_of _ = None

-- Returns the name of the folder to which a task writes the files of an exploration, or `None` if there is none.
abbrev pub folder_of : Task → Option Text
folder_of (Explore scenario most folder) = option_map string_bytes folder
folder_of _ = None

-- ---- refusals

-- Checks whether at least two of these are true.
abbrev pub are_two : Bool → Bool → Bool → Bool
are_two true true c = true
are_two true false c = c
are_two false b c = b && c

-- States that words that `clap`, the parser of the command line, accepts are misused in this way.
abbrev pub IsMisused : Told → Misuse → Type 0
IsMisused told (Traitors word) = (is_of of_traitors told ≡ true)
    × (word_of (codes "traitors") told ≡ Some (string_bytes word)) × (generals_in (string_bytes word) ≡ None)
IsMisused told (Of word) = (is_of of_one told ≡ true)
    × (word_of (codes "of") told ≡ Some (string_bytes word)) × (general_in (string_bytes word) ≡ None)
IsMisused told (Lie word) = (is_of (codes "table" ∷ []) told ≡ true)
    × (word_of (codes "lie") told ≡ Some (string_bytes word)) × (general_in (string_bytes word) ≡ None)
IsMisused told (Loyal word) = (is_of (codes "table" ∷ []) told ≡ true)
    × (word_of (codes "loyal") told ≡ Some (string_bytes word)) × (order_in (string_bytes word) ≡ None)
IsMisused told (Most word) = (is_of (codes "explore" ∷ []) told ≡ true)
    × (word_of (codes "most") told ≡ Some (string_bytes word)) × (count_in (string_bytes word) ≡ None)
IsMisused told (Depth word) = (is_of (codes "tree" ∷ []) told ≡ true)
    × (word_of (codes "depth") told ≡ Some (string_bytes word)) × (depth_in (string_bytes word) ≡ None)
IsMisused told (Seed word) = (is_of (codes "play" ∷ []) told ≡ true)
    × (word_of (codes "seed") told ≡ Some (string_bytes word)) × (seed_in (string_bytes word) ≡ None)
IsMisused told (BadRule word) = (is_of ruled told ≡ true)
    × (word_of (codes "rule") told ≡ Some (string_bytes word)) × (rule_named (string_bytes word) ≡ None)
IsMisused told (BadStory word) = (is_of (codes "refute" ∷ []) told ≡ true)
    × (word_of (codes "story") told ≡ Some (string_bytes word)) × (story_numbered (string_bytes word) ≡ None)
IsMisused told (BadSize word) = (is_of sized told ≡ true)
    × (word_of (codes "generals") told ≡ Some (string_bytes word)) × (size_in (string_bytes word) ≡ None)
IsMisused told (BadBound word) = (is_of (codes "exhaust" ∷ []) told ≡ true)
    × (word_of (codes "bound") told ≡ Some (string_bytes word)) × (bound_in (string_bytes word) ≡ None)
IsMisused told (TraitorCount word) = (is_of (codes "exhaust" ∷ []) told ≡ true)
    × (word_of (codes "traitors") told ≡ Some (string_bytes word)) × (traitors_in (string_bytes word) ≡ None)
IsMisused told (Commander word) = (is_of (codes "exhaust" ∷ []) told ≡ true)
    × (word_of (codes "commander") told ≡ Some (string_bytes word)) × (general_in (string_bytes word) ≡ None)
IsMisused told NoGenerals = (is_of (codes "exhaust" ∷ []) told ≡ true) × (has (codes "generals") told ≡ false)
IsMisused told NoBound = (is_of (codes "exhaust" ∷ []) told ≡ true) × (has (codes "bound") told ≡ false)
IsMisused told NoTraitors = (is_of (codes "exhaust" ∷ []) told ≡ true) × (has (codes "traitors") told ≡ false)
IsMisused told NobodyNamed = (is_of (codes "tree" ∷ []) told ≡ true) × (has (codes "of") told ≡ false)
IsMisused told TwoDrawings = (is_of (codes "tree" ∷ []) told ≡ true)
    × (are_two (is_text told) (has (codes "dot") told) (has (codes "svg") told) ≡ true)
IsMisused told TwoNotations =
    (is_of programs told ≡ true) × (has (codes "asm") told ≡ true) × (has (codes "elf") told ≡ true)
IsMisused told UnitsOfParts =
    (is_of (codes "dis" ∷ []) told ≡ true) × (has (codes "units") told ≡ true) × (has (codes "partial") told ≡ true)
IsMisused told TwoForms =
    (is_of (codes "exhaust" ∷ []) told ≡ true) × (has (codes "json") told ≡ true) × (has (codes "scenario") told ≡ true)
IsMisused told TwoCourses = (is_of coursed told ≡ true)
    × (has (codes "schedule") told ≡ true) × (has (codes "chronicle") told ≡ true)
IsMisused told EntryAlone =
    (is_of programs told ≡ true) × (has (codes "entry") told ≡ true) × (has (codes "elf") told ≡ false)
IsMisused told OfAlone =
    (is_of campaigns told ≡ true) × (has (codes "of") told ≡ true) × (has (codes "explain") told ≡ false)
IsMisused told LieAlone =
    (is_of (codes "table" ∷ []) told ≡ true) × (has (codes "lie") told ≡ true) × (has (codes "loyal") told ≡ false)
IsMisused told TwoSchedules = (is_of (codes "play" ∷ []) told ≡ true)
    × (has (codes "seed") told ≡ true) × (has (codes "schedule") told ≡ true)
IsMisused told OutAlone = (is_of (codes "play" ∷ []) told ≡ true)
    × (has (codes "schedule-out") told ≡ true) × (has (codes "seed") told ≡ false)

-- States that the error is right for words that `clap`, the parser of the command line, accepts: they are misused in
-- this way, or memory ran out.
abbrev pub IsErrorOf : Told → TaskError → Type 0
IsErrorOf told (error.Words refusal) = ⊥
IsErrorOf told (error.Misuse misuse) = IsMisused told misuse
IsErrorOf told error.Memory = ⊤

-- States that the second error is the right one for an error of `clap`, the parser of the command line: `Memory` if
-- `clap` ran out of memory, and otherwise that error itself.
abbrev pub IsToldBy : Error → TaskError → Type 0
IsToldBy refusal (error.Words own) = (own ≡ refusal) × (kind_of refusal ≢ OutOfMemory)
IsToldBy refusal error.Memory = kind_of refusal ≡ OutOfMemory
IsToldBy refusal (error.Misuse misuse) = ⊥

-- States that `P` holds for the error of `clap`, the parser of the command line, if the words were rejected by it.
abbrev pub IfWords : TaskError → (Error → Type 0) → Type 0
IfWords (error.Words refusal) P = P refusal
IfWords _ P = ⊤

-- States that `P` holds for the misuse, if the words were rejected because of one.
abbrev pub IfMisuse : TaskError → (Misuse → Type 0) → Type 0
IfMisuse (error.Misuse misuse) P = P misuse
IfMisuse _ P = ⊤

-- States that `P` holds, if the words were rejected for another reason than that memory ran out.
abbrev pub IfRefused : TaskError → Type 0 → Type 0
IfRefused error.Memory P = ⊤
IfRefused _ P = P
