-- Defines the report that is printed after the error line of a rejected input if the task must explain its errors.
-- Crate `cli_report` defines the text of the report.
use Rattle.std.specs.Prelude.{ℕ, ◌≡◌, Bool, true, false, List, [], ◌++◌, Option, None, Some, IfSome, codes, is_some}
use Rattle.cli_words.specs.declared.tasks.Task.{Task}
use Rattle.cli_words.specs.declared.tasks.Task.TheVariants.{Assemble, AssemblePartly, Audit, Check, Disassemble, DisassemblePartly, ExplainDecisions, Muster, Play}
use Rattle.asm.specs.declared.fault.AsmError.TheVariants as asm
use Rattle.book.specs.declared.fault.TableError.TheVariants as book
use Rattle.codec.specs.declared.fault.CodecError.TheVariants as codec
use Rattle.trace.specs.declared.fault.TraceError.TheVariants as trace
use Rattle.streams.specs.Names.{shown}
use Rattle.cli_report.specs.Assembly.{assembly_told}
use Rattle.cli_report.specs.Bytecode.{bytecode_told}
use Rattle.cli_report.specs.Chronicles.{replayed_told, schedule_told}
use Rattle.cli_report.specs.Errors.{TellsScenario, TellsSetting}
use Rattle.cli_report.specs.Lieutenants.{stranger_told}
use Rattle.cli_report.specs.Messages.{table_told}
use Rattle.cli_tasks.specs.Seeming.{seems_at_first, seems_text}
use Rattle.cli_tasks.specs.declared.refusal.InputRefusal.{InputRefusal}
use Rattle.cli_tasks.specs.declared.refusal.InputRefusal.TheVariants.{Codec, Assembly, Table, Scenario, Setting, Trace, Threads, Stranger}
use Rattle.cli_tasks.specs.declared.likeness.Likeness.{Likeness}
use Rattle.cli_tasks.specs.declared.whys.FileRole.{FileRole}
use Rattle.cli_tasks.specs.declared.whys.FileRole.TheVariants as traced
use Rattle.scenario.specs.declared.messages.Campaign.{Campaign}
use Rattle.scenario.specs.declared.messages.Campaign.TheVariants as campaigns
use Rattle.trace.specs.Again.{signed_told_again, told_again}
use Rattle.cli_report.specs.Musters.{muster_told}

-- Checks whether the task was called with `--explain`, so that it must explain also why it rejects its input.
abbrev pub is_explained : Task → Bool
is_explained (Check file notation context explained traced) = explained
is_explained (Assemble file spelling target explained) = explained
is_explained (AssemblePartly file spelling target explained) = explained
is_explained (Disassemble file notation units explained) = explained
is_explained (DisassemblePartly file notation explained) = explained
is_explained (ExplainDecisions file traitors) = true
is_explained (Play scenario schedule account explained) = is_some explained
is_explained (Muster scenario explained) = is_some explained
is_explained (Audit scenario chronicle explained) = is_some explained
is_explained _ = false

-- Returns a line feed and the line which says what bytes seem to be. Returns no text if they seem to be nothing known.
abbrev pub seems_line : Option Likeness → List ℕ
seems_line None = []
seems_line (Some likeness) = codes "\n" ++ seems_text likeness

-- What the file at fault should be: a schedule, a chronicle of this campaign, or anything else.
pub data Role : Type 0 where
  Schedule : Role
  Chronicle : Campaign → Role
  Nothing : Role

-- Returns what the file at fault should be, as a value of definitions.
abbrev pub role_view : FileRole → Role
role_view traced.Schedule = Schedule
role_view (traced.Chronicle campaign) = Chronicle campaign.now
role_view traced.Nothing = Nothing

-- Returns the text that `text`, a faulty chronicle of the campaign, should have been.
abbrev pub campaign_again : Campaign → List ℕ → List ℕ
campaign_again (campaigns.Oral s) text = told_again s text
campaign_again (campaigns.Signed s) text = signed_told_again s text

-- States that `told` is the report that is printed after the error line of a rejected file. `name` is the file's name
-- as it is printed, and `bytes` are its bytes.
abbrev pub TellsWhy : InputRefusal → Role → List ℕ → List ℕ → List ℕ → Type 0
TellsWhy (Trace (trace.At fault line)) Schedule name bytes told = told ≡ schedule_told name bytes line
TellsWhy (Trace (trace.At fault line)) (Chronicle c) name bytes told =
    told ≡ replayed_told name bytes fault line (campaign_again c bytes)
TellsWhy (Codec (codec.At fault unit)) of name bytes told =
    told ≡ seems_line (seems_at_first bytes) ++ bytecode_told name bytes fault unit
TellsWhy (Assembly (asm.At fault line)) of name bytes told = told ≡ assembly_told name bytes fault line
TellsWhy (Table (book.At fault line)) of name bytes told = told ≡ table_told name bytes fault line
TellsWhy (Scenario error) of name bytes told = TellsScenario name bytes error told
TellsWhy (Setting error) of name bytes told = TellsSetting name bytes error told
TellsWhy (Threads error) of name bytes told = told ≡ muster_told error
TellsWhy (Stranger general generals) of name bytes told = told ≡ stranger_told name bytes general generals
TellsWhy _ of name bytes told = told ≡ []

-- States that `told` is the report on a rejected file with this name and these bytes. If the name has both a control
-- character and characters beyond ASCII, nothing is stated.
abbrev pub TellsWhyOf : InputRefusal → Role → List ℕ → List ℕ → List ℕ → Type 0
TellsWhyOf refusal of file bytes told = IfSome (shown file) (λ name. TellsWhy refusal of name bytes told)
