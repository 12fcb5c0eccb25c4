-- Defines the refusal (why a task rejects its input) for each reader's error, and why a text is not a campaign, a
-- schedule or a chronicle.
use Rattle.std.specs.Prelude.{ℕ, ◌≡◌, ◌≢◌, Bool, true, false, List, Err}
use Rattle.std.specs.Str.{IsUtf8}
use Rattle.codec.specs.declared.fault.CodecError.{CodecError}
use Rattle.codec.specs.declared.fault.CodecError.TheVariants as codec
use Rattle.asm.specs.declared.fault.AsmError.{AsmError}
use Rattle.asm.specs.declared.fault.AsmError.TheVariants as asm
use Rattle.book.specs.declared.fault.TableError.{TableError}
use Rattle.book.specs.declared.fault.TableError.TheVariants as table
use Rattle.toml.specs.Parse.{parse_document}
use Rattle.bounds.specs.declared.refusal.RefutationError.{RefutationError}
use Rattle.bounds.specs.declared.refusal.RefutationError.TheVariants as refutation
use Rattle.campaign_schedules.specs.declared.fault.AccessesError.{AccessesError}
use Rattle.campaign_schedules.specs.declared.fault.AccessesError.TheVariants as accesses
use Rattle.lies.specs.declared.refusal.BreakError.{BreakError}
use Rattle.lies.specs.declared.refusal.BreakError.TheVariants as lies
use Rattle.rule_program.specs.declared.rule_program.CallFound.{CallFound}
use Rattle.scenario.specs.Reading.{Reads, ReadsAny}
use Rattle.scenario.specs.declared.messages.Campaign.{Campaign}
use Rattle.scenario.specs.declared.messages.Campaign.TheVariants.{Oral, Signed}
use Rattle.scenario.specs.declared.fault.ScenarioError.{ScenarioError}
use Rattle.scenario.specs.declared.fault.ScenarioError.TheVariants as scenario
use Rattle.trial.specs.declared.fault.SettingError.{SettingError}
use Rattle.trial.specs.declared.fault.SettingError.TheVariants as setting
use Rattle.threads.specs.declared.error.MusterError.{MusterError}
use Rattle.threads.specs.declared.error.MusterError.TheVariants as muster
use Rattle.trace.specs.Audit.{IsFaultOf}
use Rattle.trace.specs.Laws.{IsSoundText}
use Rattle.trace.specs.SignedAudit.{IsSignedFaultOf, IsSoundSignedText}
use Rattle.trace.specs.Schedules.{schedule_told}
use Rattle.trace.specs.declared.fault.TraceError.{TraceError}
use Rattle.trace.specs.declared.fault.TraceError.TheVariants as trace
use Rattle.verify.specs.declared.error.VerifyError.{VerifyError}
use Rattle.verify.specs.declared.error.VerifyError.TheVariants as verifier
use Rattle.cli_tasks.specs.declared.refusal.InputRefusal.{InputRefusal}
use Rattle.cli_tasks.specs.declared.refusal.InputRefusal.TheVariants.{Codec, Verifier, Assembly, Table, Scenario, Setting, Trace, Threads, Accesses, Tolerated, RuleCall, LongSearch, NotText, Memory}

-- Returns the refusal for an error of the codec. If the codec ran out of memory, this is `Memory`.
abbrev pub codec_refusal : CodecError → InputRefusal
codec_refusal codec.Memory = Memory
codec_refusal error = Codec error

-- Returns the refusal for an error of the verifier. If the verifier ran out of memory, this is `Memory`.
abbrev pub verifier_refusal : VerifyError → InputRefusal
verifier_refusal verifier.Memory = Memory
verifier_refusal fault = Verifier fault

-- Returns the refusal for an error of the assembler. If the assembler ran out of memory, this is `Memory`.
abbrev pub assembly_refusal : AsmError → InputRefusal
assembly_refusal asm.Memory = Memory
assembly_refusal error = Assembly error

-- Returns the refusal for an error in a message table. If its reader ran out of memory, this is `Memory`.
abbrev pub table_refusal : TableError → InputRefusal
table_refusal table.Memory = Memory
table_refusal error = Table error

-- Returns the refusal for numbers of a campaign with which `refute` finds no table: they are wrong, or there are enough
-- generals.
abbrev pub refutation_refusal : RefutationError → InputRefusal
refutation_refusal (refutation.Table table.Memory) = Memory
refutation_refusal (refutation.Table error) = Table error
refutation_refusal refutation.Enough = Tolerated

-- Returns the refusal for numbers of a campaign among which no search is made, since they are wrong.
abbrev pub break_refusal : BreakError → InputRefusal
break_refusal (lies.Table table.Memory) = Memory
break_refusal (lies.Table error) = Table error

-- Returns the refusal for a program that is no rule, because it calls a helper.
abbrev pub call_refusal : CallFound → InputRefusal
call_refusal found = RuleCall found.unit

-- Returns the refusal for an error in a scenario. If its reader ran out of memory, this is `Memory`.
abbrev pub scenario_refusal : ScenarioError → InputRefusal
scenario_refusal scenario.Memory = Memory
scenario_refusal error = Scenario error

-- Returns the refusal for an error in a setting. If its reader ran out of memory, this is `Memory`.
abbrev pub setting_refusal : SettingError → InputRefusal
setting_refusal setting.Memory = Memory
setting_refusal error = Setting error

-- Returns the refusal for an error in a schedule or a chronicle. If its reader ran out of memory, this is `Memory`.
abbrev pub trace_refusal : TraceError → InputRefusal
trace_refusal trace.Memory = Memory
trace_refusal error = Trace error

-- Returns the refusal for a run with threads that made no chronicle. If it ran out of memory, this is `Memory`.
abbrev pub muster_refusal : MusterError → InputRefusal
muster_refusal muster.Memory = Memory
muster_refusal error = Threads error

-- States that the text is not an oral campaign because of this first fault, or that memory ran out.
abbrev pub RefusesScenario : List ℕ → InputRefusal → Type 0
RefusesScenario text (Scenario error) = (error ≢ scenario.Memory) × Reads (parse_document text) (Err error)
RefusesScenario text Memory = Unit {0}
RefusesScenario text _ = ⊥

-- States that the text is not a campaign, oral or signed, because of this first fault, or that memory ran out.
abbrev pub RefusesCampaign : List ℕ → InputRefusal → Type 0
RefusesCampaign text (Scenario error) = (error ≢ scenario.Memory) × ReadsAny (parse_document text) (Err error)
RefusesCampaign text Memory = Unit {0}
RefusesCampaign text _ = ⊥

-- States that the text is not a campaign that can be printed as asked. If the flag is not set, a message table is asked
-- for, and the campaign must be oral.
abbrev pub RefusesAsked : Bool → List ℕ → InputRefusal → Type 0
RefusesAsked true text refusal = RefusesCampaign text refusal
RefusesAsked false text refusal = RefusesScenario text refusal

-- States that the text is not a schedule because of this first line, or that memory ran out.
abbrev pub RefusesSchedule : List ℕ → InputRefusal → Type 0
RefusesSchedule text (Trace error) = schedule_told text ≡ Err error
RefusesSchedule text Memory = Unit {0}
RefusesSchedule text _ = ⊥

-- States that the text is not a chronicle of the campaign because of this line, or that memory ran out.
abbrev pub RefusesChronicle : Campaign → List ℕ → InputRefusal → Type 0
RefusesChronicle (Oral s) text (Trace error) = (IsSoundText s text → ⊥) × IsFaultOf s text error
RefusesChronicle (Signed s) text (Trace error) = (IsSoundSignedText s text → ⊥) × IsSignedFaultOf s text error
RefusesChronicle c text Memory = Unit {0}
RefusesChronicle c text _ = ⊥

-- Returns the refusal for a list of accesses that is wrong or cannot happen. If its reader ran out of memory, this is
-- `Memory`.
abbrev pub accesses_refusal : AccessesError → InputRefusal
accesses_refusal accesses.Memory = Memory
accesses_refusal (accesses.At fault) = Accesses fault

-- States that the bytes are not UTF-8, or that they are a text that is rejected: `refuses` holds of it.
abbrev pub RefusesText : (List ℕ → InputRefusal → Type 0) → List ℕ → InputRefusal → Type 0
RefusesText refuses bytes NotText = IsUtf8 bytes → ⊥
RefusesText refuses bytes refusal = refuses bytes refusal
