-- Defines what `play`, `muster` and `audit` print about a campaign.
use Rattle.std.specs.Prelude.{ℕ, suc, ◌≡◌, List, [], ◌∷◌, ◌++◌, Option, None, Some}
use Rattle.cli_words.specs.declared.tasks.Account.{Account}
use Rattle.cli_words.specs.declared.tasks.Account.TheVariants as accounts
use Rattle.cli_words.specs.declared.tasks.Lieutenants.{Lieutenants}
use Rattle.cli_words.specs.declared.tasks.Lieutenants.TheVariants as lieutenants
use Rattle.show_table.specs.Retold.{Explains, IsRetold}
use Rattle.round.specs.Scenario.{Scenario}
use Rattle.world.specs.declared.schedule.Repeat.{Repeat}
use Rattle.world.specs.Chronicle.{Chronicle, chronicle_of}
use Rattle.world.specs.KindLists.{replay_world, replayed}
use Rattle.world.specs.Lists.{listed, names_in}
use Rattle.world.specs.Promises.{AgreeIfTolerable, IsVerdictOn, IsWellUnderBound}
use Rattle.world.specs.Replay.{replay_of}
use Rattle.world.specs.Schedules.{lines_by}
use Rattle.world.specs.World.{oral_kind}
use Rattle.scenario.specs.declared.messages.Campaign.{Campaign}
use Rattle.scenario.specs.declared.messages.Campaign.TheVariants.{Oral, Signed}
use Rattle.signed.specs.Chronicle.{signed_chronicle_of}
use Rattle.signed.specs.Kind.{signed_kind}
use Rattle.signed.specs.Explained.{signed_explained}
use Rattle.signed.specs.Promises.{AgreeUnderSignedBound, IsSignedVerdictOn}
use Rattle.trace.specs.Names.{chronicle_told, names_of}
use Rattle.trace.specs.Laws.{IsSoundText}
use Rattle.trace.specs.SignedAudit.{IsSoundSignedText, signed_chronicle_told}
use Rattle.trace.specs.SignedText.{signed_text}
use Rattle.trace.specs.Text.{chronicle_text}
use Rattle.trial.specs.Notes.{campaign_notes}
use Rattle.cli_tasks.specs.AuditLines.{sound_lines}
use Rattle.cli_tasks.specs.Promises.{IsCompleteRun}
use Rattle.cli_tasks.specs.Schedules.{played, signed_played}

-- States that `text` is the chronicle of an oral campaign or, if `Table` is asked for, the message table that its
-- letters give. By this table the lieutenants decide as in the chronicle.
abbrev pub IsAccount : Account → Chronicle → List ℕ → Type 0
IsAccount accounts.Chronicle c text = text ≡ chronicle_text c
IsAccount accounts.Table c text = IsRetold c text

-- Returns the number of the lieutenant whose decision is explained, or `None` if the decisions of all lieutenants are.
abbrev pub asked : Lieutenants → Option ℕ
asked lieutenants.All = None
asked (lieutenants.One g) = Some g

-- States that `behind` is an empty line, the explanation of the decisions in an oral campaign, and the notes on the
-- traitors' calls that have no effect. It is empty if no explanation is asked for.
abbrev pub IsBehind : Option Lieutenants → Chronicle → List ℕ → Type 0
IsBehind None c behind = behind ≡ []
IsBehind (Some who) c behind =
    (lines : List ℕ) × (behind ≡ 10 ∷ (lines ++ campaign_notes c.letters)) × Explains c (asked who) lines

-- States that `text` is `front`, followed by an empty line, the explanation of the decisions in an oral campaign and the
-- notes on calls that have no effect, if an explanation is asked for.
abbrev pub IsFollowed : Option Lieutenants → Chronicle → List ℕ → List ℕ → Type 0
IsFollowed explained c front text = (behind : List ℕ) × (text ≡ front ++ behind) × IsBehind explained c behind

-- States that `text` is the chronicle or the message table of the oral campaign when it is played by the schedule. The
-- explanation of the decisions follows if it is asked for. The run is complete, no activation in it traps or takes more
-- steps than its program has instructions, and each letter is complete. The decisions agree if the traitors are few
-- enough. The verdict describes them correctly.
pub record IsOralPlayed (s : Scenario) (schedule : List (List Repeat)) (account : Account)
    (explained : Option Lieutenants) (text : List ℕ) : Type 0 where
  pub front : List ℕ
  pub told : IsAccount account (played s schedule) front
  pub behind : IsFollowed explained (played s schedule) front text
  pub run : IsCompleteRun oral_kind s (listed s (lines_by schedule)) (played s schedule)
  pub agree : AgreeIfTolerable s (played s schedule).decisions
  pub verdict : IsVerdictOn s (played s schedule).decisions (played s schedule).verdict
  pub well : IsWellUnderBound (played s schedule).verdict

-- Returns an empty line, the explanation of the decisions in a signed campaign, and the notes on the traitors' calls
-- that have no effect. Returns no text if no explanation is asked for.
abbrev pub signed_behind : Option Lieutenants → Chronicle → List ℕ
signed_behind None c = []
signed_behind (Some who) c = 10 ∷ (signed_explained c (asked who) ++ campaign_notes c.letters)

-- States that `text` is the chronicle of the signed campaign when it is played by the schedule. The explanation of the
-- decisions follows if it is asked for. The run is complete, no activation in it traps or takes more steps than its
-- program has instructions, and each letter is complete. The decisions agree if there are at most m traitors among n
-- generals, with n at least m + 2. The verdict describes them correctly.
pub record IsSignedPlayed (s : Scenario) (schedule : List (List Repeat)) (explained : Option Lieutenants)
    (text : List ℕ) : Type 0 where
  pub told : text ≡ signed_text (signed_played s schedule) ++ signed_behind explained (signed_played s schedule)
  pub run : IsCompleteRun signed_kind s (listed s (lines_by schedule)) (signed_played s schedule)
  pub agree : AgreeUnderSignedBound s (signed_played s schedule).decisions
  pub verdict : IsSignedVerdictOn s (signed_played s schedule).decisions (signed_played s schedule).verdict
  pub well : IsWellUnderBound (signed_played s schedule).verdict

-- States that `text` is what `play` prints about the campaign when it is played by the schedule.
abbrev pub IsPlayed : Campaign → List (List Repeat) → Account → Option Lieutenants → List ℕ → Type 0
IsPlayed (Oral s) schedule account explained text = IsOralPlayed s schedule account explained text
IsPlayed (Signed s) schedule account explained text = IsSignedPlayed s schedule explained text

-- States that `text` is the chronicle of a complete run of an oral campaign with threads. The explanation of the
-- decisions follows if it is asked for. The run is the replay of its own accesses, no activation in it traps or takes
-- more steps than its program has instructions, and each letter is complete. The decisions agree if the traitors are
-- few enough. The verdict describes them correctly.
pub record IsOralMustered (s : Scenario) (explained : Option Lieutenants) (text : List ℕ) : Type 0 where
  pub chronicle : Chronicle
  pub told : IsFollowed explained chronicle (chronicle_text chronicle) text
  pub replay : chronicle ≡ chronicle_of (replay_of s chronicle.accesses)
  pub run : IsCompleteRun oral_kind s (replayed oral_kind s (names_in 1 chronicle.accesses (suc s.bound))) chronicle
  pub agree : AgreeIfTolerable s chronicle.decisions
  pub verdict : IsVerdictOn s chronicle.decisions chronicle.verdict
  pub well : IsWellUnderBound chronicle.verdict

-- States that `text` is the chronicle of a complete run of a signed campaign with threads. The explanation of the
-- decisions follows if it is asked for. The run is the replay of its own accesses, no activation in it traps or takes
-- more steps than its program has instructions, and each letter is complete. The decisions agree if there are at most m
-- traitors among n generals, with n at least m + 2. The verdict describes them correctly.
pub record IsSignedMustered (s : Scenario) (explained : Option Lieutenants) (text : List ℕ) : Type 0 where
  pub chronicle : Chronicle
  pub told : text ≡ signed_text chronicle ++ signed_behind explained chronicle
  pub replay : chronicle ≡ signed_chronicle_of (replay_world signed_kind s chronicle.accesses)
  pub run : IsCompleteRun signed_kind s (replayed signed_kind s (names_in 1 chronicle.accesses (suc s.bound))) chronicle
  pub agree : AgreeUnderSignedBound s chronicle.decisions
  pub verdict : IsSignedVerdictOn s chronicle.decisions chronicle.verdict
  pub well : IsWellUnderBound chronicle.verdict

-- States that `text` is what `muster` prints about a run of the campaign with threads.
abbrev pub IsMustered : Campaign → Option Lieutenants → List ℕ → Type 0
IsMustered (Oral s) explained text = IsOralMustered s explained text
IsMustered (Signed s) explained text = IsSignedMustered s explained text

-- States that `bytes` are the chronicle of a complete run of the oral campaign, the replay of the accesses in it.
-- `text` says that they are sound, and gives the verdict. The explanation of the decisions follows if it is asked for.
pub record IsOralAudited (s : Scenario) (explained : Option Lieutenants) (bytes text : List ℕ) : Type 0 where
  pub sound : IsSoundText s bytes
  pub run : IsCompleteRun oral_kind s (replayed oral_kind s (names_of bytes)) (chronicle_told s bytes)
  pub told : IsFollowed explained (chronicle_told s bytes) (sound_lines (chronicle_told s bytes).verdict) text

-- States that `bytes` are the chronicle of a complete run of the signed campaign, the replay of the accesses in it.
-- `text` says that they are sound, and gives the verdict. The explanation of the decisions follows if it is asked for.
pub record IsSignedAudited (s : Scenario) (explained : Option Lieutenants) (bytes text : List ℕ) : Type 0 where
  pub sound : IsSoundSignedText s bytes
  pub run : IsCompleteRun signed_kind s (replayed signed_kind s (names_of bytes)) (signed_chronicle_told s bytes)
  pub told : text ≡ sound_lines (signed_chronicle_told s bytes).verdict
      ++ signed_behind explained (signed_chronicle_told s bytes)

-- States that `bytes` are the text of a chronicle of the campaign, and that `text` is what `audit` prints about it.
abbrev pub IsAudited : Campaign → Option Lieutenants → List ℕ → List ℕ → Type 0
IsAudited (Oral s) explained bytes text = IsOralAudited s explained bytes text
IsAudited (Signed s) explained bytes text = IsSignedAudited s explained bytes text
